-- A sum as an answer holds it. Cited by src/lib.rt. Assumes nothing.
use Rattle.std.specs.Prelude.{ℕ, cond, ltb}

-- a number as 32 bits hold it: the largest that they hold, if it is above that
unfoldable pub in32 : ℕ → ℕ
in32 n = cond (ltb 4294967295 n) 4294967295 n
