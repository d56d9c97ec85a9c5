-- Positions that may be negative: where they read, and the sign that code turns. Assumes nothing.
use mathlib.Core.Path.{◌≡◌, refl, ap, ◌∙◌}
use Prim.Native.Nat.{ℕ, suc, ◌+◌, ◌≤◌, ◌<◌}
use native.Mathlib.Nat.{not-suc-le-zero}
use native.Mathlib.Omega.{arith}
use lib.IntN.{ℤ, pos, negsuc, ◌+ℤ◌, ◌-ℤ◌, neg_ℤ, nat_abs, +ℤ_idl}
use lib.Signed.{◌≤ℤ◌, ◌<ℤ◌}
use Rattle.integers.proofs.Bound.{abs_neg}
use Rattle.integers.proofs.Dif.{up, dn}
use Rattle.integers.proofs.Order.{signed}
use Rattle.integers.proofs.Parts.{sum-parts}
use Rattle.evc.specs.Planes.{edge}
use Rattle.block_rows.specs.Edges.{behind}

-- where the i-th position from x on reads: at 0 while it is negative, and then one place further each time
pub edge-under : (x : ℤ) (i : ℕ) → i < behind x → edge (x +ℤ pos i) ≡ 0
edge-under (pos n) i h = absurd (not-suc-le-zero h)
edge-under (negsuc n) i h = go (negsuc n +ℤ pos i) (sum-parts (negsuc n) i)
  where
    go : (z : ℤ) → up z + suc n ≡ 0 + i + dn z → edge z ≡ 0
    go (pos m) e = let z : ⊥ = omega arith in absurd z
    go (negsuc m) e = refl

pub edge-over : (x : ℤ) (i : ℕ) → behind x ≤ i → edge (x +ℤ pos i) + behind x ≡ edge (x +ℤ pos 0) + i
edge-over (pos n) i h = let e : n + 0 ≡ n = omega arith in omega arith
edge-over (negsuc n) i h = go (negsuc n +ℤ pos i) (negsuc n +ℤ pos 0) (sum-parts (negsuc n) i) (sum-parts (negsuc n) 0)
  where
    go : (z y : ℤ) → up z + suc n ≡ 0 + i + dn z → up y + suc n ≡ 0 + 0 + dn y → edge z + suc n ≡ edge y + i
    go (pos m) (pos k) e f = let z : ⊥ = omega arith in absurd z
    go (pos m) (negsuc k) e f = omega arith
    go (negsuc m) y e f = let z : ⊥ = omega arith in absurd z

-- ---- the code's negation
pub abs-minus : (z : ℤ) → nat_abs (pos 0 -ℤ z) ≡ nat_abs z
abs-minus z = ap nat_abs (+ℤ_idl (neg_ℤ z)) ∙ abs_neg z

pub minus-behind : (x : ℤ) → x <ℤ pos 0 → nat_abs (pos 0 -ℤ x) ≡ behind x
minus-behind (pos n) h = let z : ⊥ = omega signed in absurd z
minus-behind (negsuc n) h = ap nat_abs (+ℤ_idl (neg_ℤ (negsuc n)))

pub none-behind : (x : ℤ) → pos 0 ≤ℤ x → 0 ≡ behind x
none-behind (pos n) h = refl
none-behind (negsuc n) h = let z : ⊥ = omega signed in absurd z
