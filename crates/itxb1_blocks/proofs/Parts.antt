-- A number of 32 bits as its upper half and the rest less 32768: both fit 16 bits, and they make the number. Assumes nothing.
use mathlib.Core.Path.{◌≡◌, ap, ◌∙◌}
use native.Mathlib.Omega.{arith}
use native.Mathlib.Nat.{div-add-mod'}
use lib.IntN.{ℤ, pos, negsuc, ◌+ℤ◌, ◌-ℤ◌, ◌*ℤ◌}
use lib.Signed.{◌≤ℤ◌, ◌<ℤ◌, shr_z}
use mir.Syntax.{w16, w32}
use mir.Val.{SFits, to_z, of_z}
use mir.Facts.{sfits_lit, to_z-of_z}
use Rattle.integers.specs.Z.{floor_pow}
use Rattle.integers.proofs.Dif.{dif, up, dn, of, of-pos, dif-eq, difs}
use Rattle.integers.proofs.Order.{≤-nat, ≤-dif, <-dif, dif-≤, sfits-parts, between-sfits}
use Rattle.integers.proofs.Bound.{sfits_shr}
use Rattle.integers.proofs.Floor.{floor-below, floor-above}
use Rattle.itxb1_blocks.specs.Halves.{upper, rest}

pub upper_fits : (x : ℤ) → SFits w32 x → SFits w16 (upper x)
unfolding upper
upper_fits (pos a) h = record { sfits = omega (arith, h.sfits, div-add-mod' a 65536) }
upper_fits (negsuc a) h = record { sfits = omega (arith, h.sfits, div-add-mod' a 65536) }

-- as the machine shifts it
pub shifted : (x : ℤ) → SFits w32 x → to_z w32 (of_z w32 (shr_z (to_z w32 (of_z w32 x)) 65536)) ≡ upper x
unfolding upper
shifted x h = ap (λ (z : ℤ). to_z w32 (of_z w32 (shr_z z 65536))) (to_z-of_z h) ∙ to_z-of_z (sfits_shr 65536 h)

-- 65536 times a number of 16 bits
pub scaled_fits : (q : ℤ) → SFits w16 q → SFits w32 (q *ℤ pos 65536)
scaled_fits q h =
    let p = sfits-parts h in
    between-sfits w32 (negsuc 2147483647) (pos 2147483647) (q *ℤ pos 65536) (sfits_lit tt) (sfits_lit tt)
    (rw (of q) (simp difs (dif-≤ _ _ _ _ (omega arith)))) (rw (of q) (simp difs (dif-≤ _ _ _ _ (omega arith))))

-- what is left of x after 65536 · q, where q is the floor: it fits 32 bits, and less 32768 it fits 16
left : (q x : ℤ) → (q *ℤ pos 65536) ≤ℤ x → x <ℤ ((q +ℤ pos 1) *ℤ pos 65536) → (pos 0 ≤ℤ (x -ℤ q *ℤ pos 65536)) × ((x -ℤ q *ℤ pos 65536) ≤ℤ pos 65535)
left q x h k =
    let h' : (dif (up q) (dn q) *ℤ dif 65536 0) ≤ℤ dif (up x) (dn x) = rw (of q, of x, of-pos 65536) at h in
    let k' : dif (up x) (dn x) <ℤ ((dif (up q) (dn q) +ℤ dif 1 0) *ℤ dif 65536 0) = rw (of q, of x, of-pos 65536, of-pos 1) at k in
    let a = ≤-dif _ _ _ _ (simp difs at h') in
    let b = <-dif _ _ _ _ (simp difs at k') in
    (rw (of q, of x) (simp difs (dif-≤ _ _ _ _ (omega arith))), rw (of q, of x) (simp difs (dif-≤ _ _ _ _ (omega arith))))

module _ (y : ℤ) (r : (pos 0 ≤ℤ y) × (y ≤ℤ pos 65535)) where
  whole-fits : SFits w32 y
  whole-fits = between-sfits w32 (pos 0) (pos 65535) y (sfits_lit tt) (sfits_lit tt) r.0 r.1

  lowered-fits : SFits w16 (y -ℤ pos 32768)
  lowered-fits =
      let a = ≤-nat r.0 in
      let b = ≤-nat r.1 in
      between-sfits w16 (negsuc 32767) (pos 32767) (y -ℤ pos 32768) (sfits_lit tt) (sfits_lit tt)
      (rw (of y) (simp difs (dif-≤ _ _ _ _ (omega arith)))) (rw (of y) (simp difs (dif-≤ _ _ _ _ (omega arith))))

-- of the code's own numbers
pub residue-fits : (x : ℤ) → SFits w32 (x -ℤ upper x *ℤ pos 65536)
unfolding upper
residue-fits x = whole-fits _ (left (floor_pow x 16) x (floor-below x 16) (floor-above x 16))

pub rest-fits : (x : ℤ) → SFits w16 (rest x)
unfolding rest
rest-fits x = lowered-fits _ (left (floor_pow x 16) x (floor-below x 16) (floor-above x 16))

-- together they are the number
join : (q x : ℤ) → x ≡ pos 65536 *ℤ q +ℤ (x -ℤ q *ℤ pos 65536 -ℤ pos 32768) +ℤ pos 32768
join q x = rw (of q, of x) (simp difs (dif-eq _ _ _ _ (omega arith)))

pub halves : (x : ℤ) → x ≡ pos 65536 *ℤ upper x +ℤ rest x +ℤ pos 32768
unfolding upper rest
halves x = join (floor_pow x 16) x
