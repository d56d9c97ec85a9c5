-- The sizes that go line by line, cited by the contracts of this crate. Assumes nothing.
use Rattle.std.specs.Prelude.{◌≡◌, ◌⊎◌, ℕ}

-- a size is 16, 32 or 64
abbrev pub Size : ℕ → Type 0
Size n = (n ≡ 16) ⊎ ((n ≡ 32) ⊎ (n ≡ 64))
