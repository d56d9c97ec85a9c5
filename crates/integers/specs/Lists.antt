-- The lists that a kernel leaves. A list's own operations are the library's (lib.ListN). Assumes nothing.
use Rattle.std.specs.Prelude.{List, [], ◌∷◌, ◌++◌, ℕ, zero, suc, drop}

module _ {A : Type 0} where
  -- g 0, g 1, .., g (n-1)
  unfoldable pub tab : ℕ → (ℕ → A) → List A
  tab zero g = []
  tab (suc n) g = g zero ∷ tab n (λ k. g (suc k))

  -- l with g 0 .. g (n-1) in its first n places, and the rest as it was
  unfoldable pub written : ℕ → (ℕ → A) → List A → List A
  written n g l = tab n g ++ drop n l
