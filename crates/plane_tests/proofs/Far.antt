-- Positions that may be negative: a test of order of ℤ as one of ℕ, where w places from x on end, and where a position reads. Assumes nothing.
use mathlib.Core.Path.{◌≡◌, refl, sym, ◌∙◌}
use mathlib.Core.Bool.{false}
use Prim.Native.Nat.{ℕ, suc, ◌+◌, ◌≤◌}
use native.Mathlib.Omega.{arith}
use lib.Dec.{ltb}
use lib.IntN.{ℤ, pos, negsuc, ◌+ℤ◌, nat_abs}
use lib.Signed.{◌≤ℤ◌, ◌<ℤ◌, lt_z}
use borrow.Author.Tests.{lt-ltb, le-ltb, ltb-false}
use mir.Syntax.{w16}
use mir.Val.{SFits}
use Rattle.integers.proofs.Dif.{up, dn}
use Rattle.integers.proofs.Order.{signed}
use Rattle.integers.proofs.Parts.{sum-parts, from_lowest}
use Rattle.integers.proofs.Bools.{ltb-same}
use Rattle.evc.specs.Planes.{edge, past_edge}

lt_z-nat : (x y : ℤ) → lt_z x y ≡ ltb (up x + dn y) (up y + dn x)
lt_z-nat (pos a) (pos b) = ltb-same a b (a + 0) (b + 0) (λ h. omega arith) (λ h. omega arith)
lt_z-nat (pos a) (negsuc b) = sym (le-ltb (a + suc b) 0 (omega arith))
lt_z-nat (negsuc a) (pos b) = sym (lt-ltb 0 (b + suc a) (omega arith))
lt_z-nat (negsuc a) (negsuc b) = ltb-same b a (0 + suc b) (0 + suc a) (λ h. omega arith) (λ h. omega arith)

far : (x z : ℤ) (w side : ℕ) → up z + dn x ≡ up x + 32768 + dn z → pos 0 ≤ℤ z → ltb (side + 32768) (nat_abs z + w) ≡ ltb (side + dn x) (up x + w)
far x (pos m) w side e h = ltb-same (side + 32768) (m + w) (side + dn x) (up x + w) (λ p. omega arith) (λ p. omega arith)
far x (negsuc m) w side e h = let z : ⊥ = omega signed in absurd z

ends : (x : ℤ) (w side : ℕ) → past_edge x w side ≡ ltb (side + dn x) (up x + w)
ends x w side =
    let e = sum-parts x w in
    let z = x +ℤ pos w in
    lt_z-nat (pos side) z ∙ ltb-same (side + dn z) (up z + 0) (side + dn x) (up x + w) (λ p. omega arith) (λ p. omega arith)

pub past-far : (x : ℤ) (w side : ℕ) → SFits w16 x → ltb (side + 32768) (nat_abs (x +ℤ pos 32768) + w) ≡ past_edge x w side
past-far x w side f = far x (x +ℤ pos 32768) w side (sum-parts x 32768) (from_lowest x f) ∙ sym (ends x w side)

-- w places that don't reach past a side: each reads at an edge that is below it
pub not-past : (x : ℤ) (w side : ℕ) → past_edge x w side ≡ false → up x + w ≤ side + dn x
not-past x w side e = ltb-false (side + dn x) (up x + w) (sym (ends x w side) ∙ e)

-- ---- where a position reads
pub edge-neg : (x : ℤ) → x <ℤ pos 0 → 0 ≡ edge x
edge-neg (pos n) h = let z : ⊥ = omega signed in absurd z
edge-neg (negsuc n) h = refl

pub edge-pos : (x : ℤ) → pos 0 ≤ℤ x → nat_abs x ≡ edge x
edge-pos (pos n) h = refl
edge-pos (negsuc n) h = let z : ⊥ = omega signed in absurd z
