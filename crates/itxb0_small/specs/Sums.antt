-- The sums of stage one, cited by the contracts of src/narrow.rt. Document 01, "The two stages". Assumes nothing.
use Rattle.std.specs.Prelude.{ℕ}

-- the largest product of a signed byte and an input of 16 bits
abbrev pub narrow : ℕ
narrow = 4194304
