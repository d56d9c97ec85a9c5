-- Bounds on absolute values, the cheap way to show that a signed sum or product fits: `Within n z` is |z| ≤ n. Numerals compute, so
-- `sfits-within (within-add (within-mul hv hs) ho) tt` shows that v · s + o fits.
-- First the absolute value of a sum and of a product, then `Within` by operations, then from and to the widths. Assumes nothing.
use mathlib.Core.Path.{◌≡◌, refl, ap, ◌∙◌}
use Prim.Native.Nat.{ℕ, zero, suc, ◌+◌, ◌*◌, ◌≤◌, ◌^◌}
use native.Mathlib.Omega.{arith}
use native.Mathlib.Nat.{le_trans, mul-le-mul, div-le_self}
use lib.Dec.{T, ltb, ltb→lt}
use lib.IntN.{ℤ, pos, negsuc, ◌+ℤ◌, ◌-ℤ◌, ◌*ℤ◌, neg_ℤ, nat_abs}
use lib.Signed.{mag, shr_z, mag_shr, nat_abs-le}
use mir.Syntax.{Width}
use mir.Val.{SFits, hbits}
use Rattle.integers.proofs.Dif.{dif, up, dn, of, dif-part, dif-add}
use Rattle.integers.proofs.Order.{abs-parts}

pub record Within (n : ℕ) (z : ℤ) : Type 0 where
  pub bound : nat_abs z ≤ n

-- |a − b| ≤ a + b
dif-abs : (z : ℤ) (a b : ℕ) → up z + b ≡ a + dn z → nat_abs z ≤ a + b
dif-abs (pos n) a b e = omega arith
dif-abs (negsuc n) a b e = omega arith

pub abs-add : (x y : ℤ) → nat_abs (x +ℤ y) ≤ nat_abs x + nat_abs y
abs-add x y =
    let e : x +ℤ y ≡ dif (up x + up y) (dn x + dn y) = ap (λ (z : ℤ). z +ℤ y) (of x) ∙ ap (λ (z : ℤ). dif (up x) (dn x) +ℤ z) (of y) ∙ dif-add (up x) (dn x) (up y) (dn y) in
    let h = dif-abs (dif (up x + up y) (dn x + dn y)) (up x + up y) (dn x + dn y) (dif-part (up x + up y) (dn x + dn y)) in
    rw e (omega (arith, abs-parts x, abs-parts y))

pub abs_neg : (x : ℤ) → nat_abs (neg_ℤ x) ≡ nat_abs x
abs_neg (pos zero) = refl
abs_neg (pos (suc n)) = refl
abs_neg (negsuc n) = refl

pub abs-mul : (x y : ℤ) → nat_abs (x *ℤ y) ≡ nat_abs x * nat_abs y
abs-mul (pos a) (pos b) = refl
abs-mul (pos a) (negsuc b) = abs_neg (pos (a * suc b))
abs-mul (negsuc a) (pos b) = abs_neg (pos (suc a * b))
abs-mul (negsuc a) (negsuc b) = refl

pub within-add : {m n : ℕ} {x y : ℤ} → Within m x → Within n y → Within (m + n) (x +ℤ y)
within-add {m} {n} {x} {y} h k = record { bound = omega (arith, abs-add x y, h.bound, k.bound) }

pub within-neg : {n : ℕ} {x : ℤ} → Within n x → Within n (neg_ℤ x)
within-neg {n} {x} h = record { bound = omega (arith, abs_neg x, h.bound) }

pub within-sub : {m n : ℕ} {x y : ℤ} → Within m x → Within n y → Within (m + n) (x -ℤ y)
within-sub h k = within-add h (within-neg k)

pub within-mul : {m n : ℕ} {x y : ℤ} → Within m x → Within n y → Within (m * n) (x *ℤ y)
within-mul {m} {n} {x} {y} h k = record { bound = rw (abs-mul x y) (mul-le-mul h.bound k.bound) }

pub within-mono : {m n : ℕ} {x : ℤ} → m ≤ n → Within m x → Within n x
within-mono p h = record { bound = le_trans h.bound p }

pub within-pos : (n : ℕ) → Within n (pos n)
within-pos n = record { bound = omega arith }

-- a constant is within its own absolute value
pub within-const : (z : ℤ) → Within (nat_abs z) z
within-const z = record { bound = omega arith }

pub within-sfits : {w : Width} {z : ℤ} → SFits w z → Within (2 ^ hbits w) z
within-sfits {w} {z} h = record { bound = nat_abs-le z h.sfits }

mag-le-abs : (z : ℤ) → mag z ≤ nat_abs z
mag-le-abs (pos n) = omega arith
mag-le-abs (negsuc n) = omega arith

pub sfits-within : {w : Width} {n : ℕ} {z : ℤ} → Within n z → T (ltb n (2 ^ hbits w)) → SFits w z
sfits-within {w} {n} {z} h t = record { sfits = omega (arith, mag-le-abs z, h.bound, ltb→lt n (2 ^ hbits w) t) }

shr-abs : (z : ℤ) (m : ℕ) → nat_abs (shr_z z m) ≤ nat_abs z
shr-abs (pos a) m = div-le_self a m
shr-abs (negsuc a) m = let h = div-le_self a m in omega arith

pub within-shr : {n : ℕ} {z : ℤ} (m : ℕ) → Within n z → Within n (shr_z z m)
within-shr {n} {z} m h = record { bound = le_trans (shr-abs z m) h.bound }

-- what fits still fits after the shift
pub sfits_shr : {w : Width} {z : ℤ} (m : ℕ) → SFits w z → SFits w (shr_z z m)
sfits_shr {w} {z} m h = record { sfits = omega (arith, mag_shr z m, h.sfits) }
