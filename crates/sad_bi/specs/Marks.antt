-- The mark of a value that may be too low. Cited by src/marks.rt, and by what is added up. Assumes nothing.
use Rattle.std.specs.Prelude.{ℕ, cond, ℤ}
use Rattle.evc.specs.Planes.{is_too_low}

-- the mark of a bi-prediction value: one that no depth holds where the value is too low
unfoldable pub low_mark_of : ℤ → ℕ
low_mark_of v = cond (is_too_low v) 65535 0
