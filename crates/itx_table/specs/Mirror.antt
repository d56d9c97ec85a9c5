-- The mirror property of a table, all that the halving needs. Document 02, request Ten. Assumes nothing.
use Rattle.std.specs.Prelude.{◌≡◌, ℕ, suc, ◌+◌, ◌-◌, ◌*◌, ◌≤◌, ◌<◌, ℤ, neg_ℤ}

-- T is an N by N table, row then column, and N a power of two. A level is a size m + m from N down to 4; its rows are every s-th row of T,
-- where (m + m)·s is N, and of each row it takes the first m + m columns. Those read the same from their far end:
pub record Mirrored (N : ℕ) (T : ℕ → ℕ → ℤ) : Type 0 where
  -- with the same sign in the level's even rows
  pub even : (m s k n : ℕ) → (m + m) * s ≡ N → 2 ≤ m → k < m → n < m → T (k * (s + s)) (m + m - suc n) ≡ T (k * (s + s)) n
  -- with the opposite sign in its odd rows
  pub odd : (m s k n : ℕ) → (m + m) * s ≡ N → 2 ≤ m → k < m → n < m → T (suc (k + k) * s) (m + m - suc n) ≡ neg_ℤ (T (suc (k + k) * s) n)
  -- the size 2, which has no level, reads a, a, a, -a
  pub two : N ≡ 2 → (T 0 1 ≡ T 0 0) × ((T 1 0 ≡ T 0 0) × (T 1 1 ≡ neg_ℤ (T 0 0)))
