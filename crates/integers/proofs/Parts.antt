-- Sums and differences by their parts, `up` and `dn`: how far two numbers are apart, a difference turned round, the parts of a sum.
-- Assumes nothing.
use mathlib.Core.Path.{◌≡◌, ap, ◌∙◌}
use Prim.Native.Nat.{ℕ, ◌+◌, ◌-◌, ◌≤◌}
use native.Mathlib.Omega.{arith}
use lib.IntN.{ℤ, pos, negsuc, ◌+ℤ◌, ◌-ℤ◌, neg_ℤ, nat_abs}
use lib.Signed.{◌≤ℤ◌}
use mir.Syntax.{w16}
use mir.Val.{SFits}
use Rattle.integers.proofs.Dif.{dif, up, dn, of, of-pos, dif-part, dif-eq, difs}
use Rattle.integers.proofs.Order.{≤-nat, dif-≤, sfits-parts}
use Rattle.integers.proofs.Bound.{abs_neg}

-- how far two numbers are apart: one of the two differences of ℕ is 0
pub abs-dif : (a b : ℕ) → nat_abs (pos a -ℤ pos b) ≡ (a - b) + (b - a)
abs-dif a b = ap nat_abs (dif-of (pos a) (pos b) (of-pos a) (of-pos b)) ∙ by (dif a b) (dif-part a b)
  where
    dif-of : (x y : ℤ) → x ≡ dif a 0 → y ≡ dif b 0 → x -ℤ y ≡ dif a b
    dif-of x y p q = rw (p, q) (simp difs (dif-eq _ _ _ _ (omega arith)))

    by : (z : ℤ) → up z + b ≡ a + dn z → nat_abs z ≡ (a - b) + (b - a)
    by (pos m) e = omega arith
    by (negsuc m) e = omega arith

-- two numbers that a bound holds are no farther apart than it
pub abs-dif-le : (n a b : ℕ) → a ≤ n → b ≤ n → nat_abs (pos a -ℤ pos b) ≤ n
abs-dif-le n a b h k = rw (abs-dif a b) (omega arith)

-- a difference turned round
sub-turn : (x y : ℤ) → x -ℤ y ≡ neg_ℤ (y -ℤ x)
sub-turn x y = rw (of x, of y) (simp difs (dif-eq _ _ _ _ (omega arith)))

pub abs-turn : (x y : ℤ) → nat_abs (x -ℤ y) ≡ nat_abs (y -ℤ x)
abs-turn x y = ap nat_abs (sub-turn x y) ∙ abs_neg (y -ℤ x)

-- the larger less the smaller
pub sub-nonneg : (x y : ℤ) → y ≤ℤ x → pos 0 ≤ℤ (x -ℤ y)
sub-nonneg x y h = let p = ≤-nat h in rw (of x, of y, of-pos 0) (simp difs (dif-≤ _ _ _ _ (omega arith)))

-- the parts of x + n
pub sum-parts : (x : ℤ) (n : ℕ) → up (x +ℤ pos n) + dn x ≡ up x + n + dn (x +ℤ pos n)
sum-parts x n = at (x +ℤ pos n) (sum_of x (pos n) (up x) (dn x) (of x) (of-pos n))
  where
    sum_of : (x y : ℤ) (u v : ℕ) → x ≡ dif u v → y ≡ dif n 0 → x +ℤ y ≡ dif (u + n) v
    sum_of x y u v p q = rw (p, q) (simp difs (dif-eq _ _ _ _ (omega arith)))

    at : (z : ℤ) → z ≡ dif (up x + n) (dn x) → up z + dn x ≡ up x + n + dn z
    at z e = rw e (dif-part (up x + n) (dn x))

-- x counted from the lowest i16 on is not negative
pub from_lowest : (x : ℤ) → SFits w16 x → pos 0 ≤ℤ (x +ℤ pos 32768)
from_lowest x f = let p = sfits-parts f in rw (of x, of-pos 0, of-pos 32768) (simp difs (dif-≤ _ _ _ _ (omega arith)))
