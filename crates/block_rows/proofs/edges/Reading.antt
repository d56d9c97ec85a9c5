-- A row's samples at the columns from x on, in three runs: n columns are negative, the next k lie in the row, and the others past its end.
-- Assumes nothing.
use mathlib.Core.Path.{◌≡◌, sym, ap}
use mathlib.Core.List.{List}
use Prim.Native.Nat.{ℕ, ◌+◌, ◌-◌, ◌≤◌, ◌<◌, min}
use native.Mathlib.Omega.{arith}
use lib.IntN.{ℤ, pos, ◌+ℤ◌}
use lib.ListN.{length, get_or, get_or-eq_default}
use Rattle.evc.specs.Planes.{edge}
use Rattle.block_rows.specs.Edges.{behind, row_at_edge}
use Rattle.block_rows.proofs.Signed.{edge-under, edge-over}

pub record Runs (row : List ℕ) (x : ℤ) (w up n k : ℕ) : Type 0 where
  pub down : n ≡ min (behind x) w
  pub first : up ≡ edge (x +ℤ pos 0)
  pub rest : k ≡ min (length row - up) (w - n)

module _ {row : List ℕ} {x : ℤ} {w up n k : ℕ} (r : Runs row x w up n k) where
  pub head_at : (i : ℕ) → i < n → get_or row 0 0 ≡ row_at_edge row x i
  head_at i h = ap (λ (m : ℕ). get_or row m 0) (sym (edge-under x i (omega (arith, r.down))))

  -- from the n-th on
  over : (i : ℕ) → n ≤ i → i < w → up + (i - n) ≡ edge (x +ℤ pos i)
  over i h l =
      let d = r.down in
      omega (arith, r.first, edge-over x i (omega arith))

  pub run_in : (i : ℕ) → n ≤ i → i < n + k → up + (i - n) < length row
  run_in i h l = omega (arith, r.rest)

  pub run_at : (i : ℕ) → n ≤ i → i < n + k → get_or row (up + (i - n)) 0 ≡ row_at_edge row x i
  run_at i h l = ap (λ (m : ℕ). get_or row m 0) (over i h (omega (arith, r.rest, r.down)))

  pub past-at : (i : ℕ) → n + k ≤ i → i < w → 0 ≡ row_at_edge row x i
  past-at i h l =
      let e = over i (omega arith) l in
      let s = r.rest in
      sym (get_or-eq_default row 0 {n = edge (x +ℤ pos i)} (omega arith))
