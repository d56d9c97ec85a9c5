-- The ring laws of ℤ that the library (lib.IntN) lacks: those of the product. Each is one line by differences (Dif). An identity that is
-- no such law is proved where it is needed, by the same line or by `ring` (Poly). Assumes nothing.
use mathlib.Core.Path.{◌≡◌}
use native.Mathlib.Omega.{arith}
use lib.IntN.{ℤ, pos, ◌+ℤ◌, ◌*ℤ◌, neg_ℤ}
use Rattle.integers.proofs.Dif.{of, of-pos, dif-eq, difs}

pub *ℤ-assoc : (x y z : ℤ) → (x *ℤ y) *ℤ z ≡ x *ℤ (y *ℤ z)
*ℤ-assoc x y z = rw (of x, of y, of z) (simp difs (dif-eq _ _ _ _ (omega arith)))

pub *ℤ-distl : (x y z : ℤ) → x *ℤ (y +ℤ z) ≡ x *ℤ y +ℤ x *ℤ z
*ℤ-distl x y z = rw (of x, of y, of z) (simp difs (dif-eq _ _ _ _ (omega arith)))

pub *ℤ-distr : (x y z : ℤ) → (x +ℤ y) *ℤ z ≡ x *ℤ z +ℤ y *ℤ z
*ℤ-distr x y z = rw (of x, of y, of z) (simp difs (dif-eq _ _ _ _ (omega arith)))

pub neg-*ℤ : (x y : ℤ) → neg_ℤ x *ℤ y ≡ neg_ℤ (x *ℤ y)
neg-*ℤ x y = rw (of x, of y) (simp difs (dif-eq _ _ _ _ (omega arith)))

pub one-*ℤ : (x : ℤ) → pos 1 *ℤ x ≡ x
one-*ℤ x = rw (of x, of-pos 1) (simp difs (dif-eq _ _ _ _ (omega arith)))
