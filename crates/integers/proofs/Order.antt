-- The order of ℤ (lib.Signed's `◌≤ℤ◌`, `◌<ℤ◌`) as an order of ℕ: x ≤ y exactly when up x + dn y ≤ up y + dn x. With the ruleset `signed`
-- `omega` reads facts of order, and `nat-≤ (omega signed)` proves one; with sums, `rw (of a, of b) (simp difs (dif-≤ _ _ _ _ (omega signed)))`.
-- First the two directions, then what fits a signed width as two bounds, then the laws of the order. Assumes nothing.
use mathlib.Core.Path.{◌≡◌, sym, ◌∙◌}
use Prim.Native.Nat.{ℕ, ◌+◌, ◌≤◌, ◌<◌, ◌^◌}
use native.Mathlib.Omega.{arith}
use lib.Dec.{T, leb→le, le→leb, ltb→lt, lt→ltb}
use lib.IntN.{ℤ, pos, negsuc, nat_abs}
use lib.Signed.{◌≤ℤ◌, ◌<ℤ◌, mag, le_z, lt_z}
use mir.Syntax.{Width}
use mir.Val.{SFits, hbits}
use Rattle.integers.proofs.Dif.{dif, up, dn, of, dif-eq, dif-part}

le→ : (x y : ℤ) → T (le_z x y) → up x + dn y ≤ up y + dn x
le→ (pos a) (pos b) t = let h = leb→le a b t in omega arith
le→ (pos a) (negsuc b) t = absurd t
le→ (negsuc a) (pos b) t = omega arith
le→ (negsuc a) (negsuc b) t = let h = leb→le b a t in omega arith

→le : (x y : ℤ) → up x + dn y ≤ up y + dn x → T (le_z x y)
→le (pos a) (pos b) h = le→leb a b (omega arith)
→le (pos a) (negsuc b) h = let z : ⊥ = omega arith in absurd z
→le (negsuc a) (pos b) h = tt
→le (negsuc a) (negsuc b) h = le→leb b a (omega arith)

lt→ : (x y : ℤ) → T (lt_z x y) → up x + dn y < up y + dn x
lt→ (pos a) (pos b) t = let h = ltb→lt a b t in omega arith
lt→ (pos a) (negsuc b) t = absurd t
lt→ (negsuc a) (pos b) t = omega arith
lt→ (negsuc a) (negsuc b) t = let h = ltb→lt b a t in omega arith

→lt : (x y : ℤ) → up x + dn y < up y + dn x → T (lt_z x y)
→lt (pos a) (pos b) h = lt→ltb a b (omega arith)
→lt (pos a) (negsuc b) h = let z : ⊥ = omega arith in absurd z
→lt (negsuc a) (pos b) h = tt
→lt (negsuc a) (negsuc b) h = lt→ltb b a (omega arith)

-- from a fact of ℤ to one of ℕ (rules for `omega`'s list), and back
pub ≤-nat : {x y : ℤ} → x ≤ℤ y → up x + dn y ≤ up y + dn x
≤-nat {x} {y} h = le→ x y h.le

pub <-nat : {x y : ℤ} → x <ℤ y → up x + dn y < up y + dn x
<-nat {x} {y} h = lt→ x y h.lt

pub nat-≤ : {x y : ℤ} → up x + dn y ≤ up y + dn x → x ≤ℤ y
nat-≤ {x} {y} h = record { le = →le x y h }

pub nat-< : {x y : ℤ} → up x + dn y < up y + dn x → x <ℤ y
nat-< {x} {y} h = record { lt = →lt x y h }

-- the same at two differences, for a goal that `simp difs` has brought there
pub dif-≤ : (a b c d : ℕ) → a + d ≤ c + b → dif a b ≤ℤ dif c d
dif-≤ a b c d h = let x = dif-part a b in let y = dif-part c d in nat-≤ (omega arith)

pub dif-< : (a b c d : ℕ) → a + d < c + b → dif a b <ℤ dif c d
dif-< a b c d h = let x = dif-part a b in let y = dif-part c d in nat-< (omega arith)

pub ≤-dif : (a b c d : ℕ) → dif a b ≤ℤ dif c d → a + d ≤ c + b
≤-dif a b c d h = let x = dif-part a b in let y = dif-part c d in omega (arith, ≤-nat h)

pub <-dif : (a b c d : ℕ) → dif a b <ℤ dif c d → a + d < c + b
<-dif a b c d h = let x = dif-part a b in let y = dif-part c d in omega (arith, <-nat h)

pub abs-parts : (z : ℤ) → nat_abs z ≡ up z + dn z
abs-parts (pos n) = omega arith
abs-parts (negsuc n) = omega arith

-- ---- what fits a signed width, as two bounds
sf-up : (w : Width) (z : ℤ) → mag z < 2 ^ hbits w → up z < 2 ^ hbits w
sf-up w (pos n) h = h
sf-up w (negsuc n) h = omega arith

sf-dn : (w : Width) (z : ℤ) → mag z < 2 ^ hbits w → dn z ≤ 2 ^ hbits w
sf-dn w (pos n) h = omega arith
sf-dn w (negsuc n) h = h

parts-sf : (w : Width) (z : ℤ) → up z < 2 ^ hbits w → dn z ≤ 2 ^ hbits w → mag z < 2 ^ hbits w
parts-sf w (pos n) h k = h
parts-sf w (negsuc n) h k = k

pub parts-sfits : {w : Width} {z : ℤ} → up z < 2 ^ hbits w → dn z ≤ 2 ^ hbits w → SFits w z
parts-sfits {w} {z} h k = record { sfits = parts-sf w z h k }

-- the two bounds of what fits. `omega` applies no rule that yields a pair, so list it with its argument: `omega (signed, sfits-parts h)`
pub sfits-parts : {w : Width} {z : ℤ} → SFits w z → (up z < 2 ^ hbits w) × (dn z ≤ 2 ^ hbits w)
sfits-parts {w} {z} h = (sf-up w z h.sfits, sf-dn w z h.sfits)

-- the set for `omega`'s list
pub ruleset signed = (arith, ≤-nat, <-nat)

-- ---- laws of the order
pub ≤ℤ-trans : {x y z : ℤ} → x ≤ℤ y → y ≤ℤ z → x ≤ℤ z
≤ℤ-trans h k = nat-≤ (omega signed)

pub <ℤ-≤ℤ : {x y : ℤ} → x <ℤ y → x ≤ℤ y
<ℤ-≤ℤ h = nat-≤ (omega signed)

pub ≤ℤ-antisym : {x y : ℤ} → x ≤ℤ y → y ≤ℤ x → x ≡ y
≤ℤ-antisym {x} {y} h k = of x ∙ dif-eq (up x) (dn x) (up y) (dn y) (omega signed) ∙ sym (of y)

-- between two numbers that fit, a number fits
pub between-sfits : (w : Width) (lo hi x : ℤ) → SFits w lo → SFits w hi → lo ≤ℤ x → x ≤ℤ hi → SFits w x
between-sfits w lo hi x a b h k = parts-sfits (at_up x h k) (at-dn x h k)
  where
    at_up : (x : ℤ) → lo ≤ℤ x → x ≤ℤ hi → up x < 2 ^ hbits w
    at_up (pos n) h k = omega (signed, sfits-parts b)
    at_up (negsuc n) h k = omega (signed, sfits-parts a)

    at-dn : (x : ℤ) → lo ≤ℤ x → x ≤ℤ hi → dn x ≤ 2 ^ hbits w
    at-dn (pos n) h k = omega (signed, sfits-parts b)
    at-dn (negsuc n) h k = omega (signed, sfits-parts a)
