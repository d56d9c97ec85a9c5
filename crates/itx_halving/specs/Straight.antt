-- The sums of one line of a small size by straight code, cited by the contracts of the crates that do these sizes. Input k of line j of l stands in
-- x at k·l + j, as row k of a table stands in t at k·w. Document 01, "The two stages". Assumes nothing.
use Rattle.std.specs.Prelude.{◌≡◌, List, ℕ, ◌+◌, ◌*◌, ◌<◌, ◌≤◌, length, get_or, ℤ, pos, ◌*ℤ◌, nat_abs}
use Rattle.evc.specs.Stages.{product}
use Rattle.itx_halving.specs.Line.{rows, odd}

-- t has a table of N rows and columns, and x a line j of N inputs
pub record Reach (t : List ℤ) (w : ℕ) (x : List ℤ) (l j N : ℕ) : Type 0 where
  pub table : (k n : ℕ) → k < N → n < N → k * w + n < length t
  pub input : (k : ℕ) → k < N → k * l + j < length x

-- r is a product, at most B in size
pub record Product (B : ℕ) (a b r : ℤ) : Type 0 where
  pub is : r ≡ a *ℤ b
  pub small : nat_abs r ≤ B

-- r is the share of the m odd inputs in place n of a line of m + m, at most B in size
pub record Odd (B : ℕ) (T : ℕ → ℕ → ℤ) (m l : ℕ) (x : List ℤ) (j n : ℕ) (r : ℤ) : Type 0 where
  pub is : r ≡ odd T 1 m n (λ k. rows x l k j)
  pub small : nat_abs r ≤ B

-- r holds the N sums of line j, at most B in size
pub record Line (B : ℕ) (T : ℕ → ℕ → ℤ) (N l : ℕ) (x : List ℤ) (j : ℕ) (r : List ℤ) : Type 0 where
  pub long : length r ≡ N
  pub at : (n : ℕ) → n < N → get_or r n (pos 0) ≡ product T N l x j n
  pub small : (n : ℕ) → n < N → nat_abs (get_or r n (pos 0)) ≤ B
