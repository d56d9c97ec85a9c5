-- The sides that a tile can have. Cited by the contracts of src/sums.rt. Assumes nothing.
use Rattle.std.specs.Prelude.{ℕ, ◌≡◌, ◌⊎◌}

abbrev pub Side : ℕ → Type 0
Side n = (n ≡ 8) ⊎ ((n ≡ 4) ⊎ (n ≡ 2))
