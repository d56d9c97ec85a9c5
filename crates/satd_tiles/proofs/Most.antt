-- A tile's number is bounded by its differences: with `number-most` a caller shows that its total of tiles fits. Assumes nothing.
-- ---- laws of the definitions
use Prim.Native.Nat.{ℕ, zero, suc, ◌+◌, ◌*◌, ◌/◌, ◌≤◌, ◌<◌}
use mathlib.Core.Bool.{Bool, true, false, cond}
use native.Mathlib.Nat.{le_trans, div-le_self}
use native.Mathlib.Omega.{arith}
use lib.Dec.{eqb}
use lib.IntN.{ℤ, ◌*ℤ◌, nat_abs}
use Rattle.integers.specs.Sum.{sum_z, sum_n}
use Rattle.integers.proofs.Sum.{within-sum, sum-le}
use Rattle.evc.specs.Tiles.{sign, coefficient, share, rounded, tile_sum, tile_number}
use Rattle.satd_tiles.proofs.Lines.{signed-size}

-- the number is at most the sum
pub rounded-le : (n s : ℕ) → rounded n s ≤ s
rounded-le n s = go (eqb n 8) (eqb n 4)
  where
    go : (x y : Bool) → cond x ((s + 2) / 4) (cond y ((s + 1) / 2) s) ≤ s
    go true y = omega arith
    go false true = omega arith
    go false false = omega arith

module _ (n B : ℕ) (d : ℕ → ℕ → ℤ) (h : (j i : ℕ) → j < n → i < n → nat_abs (d j i) ≤ B) where
  coefficient-most : (a b : ℕ) → nat_abs (coefficient n d a b) ≤ n * (n * B)
  unfolding coefficient
  coefficient-most a b =
      (within-sum n (n * B) (λ j. sum_z n (λ i. d j i *ℤ sign a j *ℤ sign b i))
      (λ j p. within-sum n B (λ i. d j i *ℤ sign a j *ℤ sign b i)
      (λ i q. record { bound = rw (signed-size (d j i *ℤ sign a j) b i, signed-size (d j i) a j) (h j i p q) }))).bound

  share-le : (a b x : ℕ) → share a b x ≤ x
  share-le zero zero x = div-le_self x 4
  share-le zero (suc b) x = omega arith
  share-le (suc a) b x = omega arith

  sum-most : tile_sum n d ≤ n * (n * (n * (n * B)))
  unfolding tile_sum
  sum-most =
      sum-le n (n * (n * (n * B))) (λ a. sum_n n (λ b. share a b (nat_abs (coefficient n d a b))))
      (λ a p. sum-le n (n * (n * B)) (λ b. share a b (nat_abs (coefficient n d a b)))
      (λ b q. le_trans (share-le a b (nat_abs (coefficient n d a b))) (coefficient-most a b)))

  pub number-most : tile_number n d ≤ n * (n * (n * (n * B)))
  unfolding tile_number
  number-most = le_trans (rounded-le n (tile_sum n d)) sum-most
