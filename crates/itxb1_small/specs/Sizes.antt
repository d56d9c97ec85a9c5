-- The sizes that stage two does line after line, cited by the contracts of src/stage_two.rt. Assumes nothing.
use Rattle.std.specs.Prelude.{◌≡◌, ◌⊎◌, ℕ}

-- a size is 2 or 4
abbrev pub Size : ℕ → Type 0
Size n = (n ≡ 2) ⊎ (n ≡ 4)
