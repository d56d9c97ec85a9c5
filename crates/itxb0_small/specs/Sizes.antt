-- The sizes that stage one does by straight code, cited by the contracts of src/stage_one.rt. Assumes nothing.
use Rattle.std.specs.Prelude.{◌≡◌, ◌⊎◌, ℕ}

-- a size is 2, 4 or 8
abbrev pub Size : ℕ → Type 0
Size n = (n ≡ 2) ⊎ ((n ≡ 4) ⊎ (n ≡ 8))
