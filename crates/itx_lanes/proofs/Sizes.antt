-- Which of the three sizes the places of the sums say, and what follows of it. Assumes nothing.
use Rattle.std.proofs.Common.{◌≢◌, inl, inr, not, ◌&&◌, false, nat_eq}
use Rattle.std.proofs.lemmas.Bool.Decides.{nat_tests}
use mathlib.Core.Path.{◌≡◌, subst}
use mathlib.Core.List.{List}
use Prim.Native.Nat.{ℕ, ◌*◌, ◌/◌}
use native.Mathlib.Omega.{arith}
use lib.IntN.{ℤ}
use Rattle.integers.specs.Lists.{tab}
use Rattle.itx_lanes.specs.Lanes.{lane_sum, AnySize}

-- what is left of the sizes where the test of all three and those of the smaller ones have passed
pub is_1024 : {P : ℕ} → (not (nat_eq P 256) && not (nat_eq P 512)) && not (nat_eq P 1024) ≡ false → P ≢ 256 → P ≢ 512 → P ≡ 1024
is_1024 t a b = grind (arith, nat_tests)

-- P places are those of size N
module _ (N : ℕ) {P : ℕ} (p : P ≡ N * 16) (w : AnySize P) where
  pub is_size : (s : List ℤ) {e : List ℤ} → (AnySize P → e ≡ tab P (lane_sum (P / 16) s)) → e ≡ tab P (lane_sum N s)
  is_size s {e} h = let n : P / 16 ≡ N = omega arith in subst (λ (k : ℕ). e ≡ tab P (lane_sum k s)) n (h w)

  -- how many places of the block a row of the table is away from the next that is read
  pub row-stride : 1024 / N ≡ 64 / N * 16
  row-stride = by w
    where
      by : AnySize P → 1024 / N ≡ 64 / N * 16
      by (inl e) = let n : N ≡ 16 = omega arith in rw n
      by (inr (inl e)) = let n : N ≡ 32 = omega arith in rw n
      by (inr (inr e)) = let n : N ≡ 64 = omega arith in rw n
