-- `integers::clip32` meets its contract: each return by the tests that led there. Assumes nothing.
use mathlib.Core.Path.{◌≡◌, sym, ap, ◌∙◌}
use mathlib.Core.Logic.{◌≢◌}
use Prim.Native.Nat.{ℕ, ◌^◌}
use lib.IntN.{ℤ, pos, negsuc}
use lib.Signed.{shr_z, mag}
use mir.Syntax.{w32, w64}
use mir.Val.{SFits, to_z, of_z}
use mir.Facts.{to_z-of_z, sfits_lit}
use Rattle.integers.proofs.Bits.{lt-held, lt-failed}
use Rattle.integers.proofs.Bound.{sfits_shr}
use Rattle.integers.specs.Z.{clip32}
use Rattle.integers.proofs.Clip.{clip32-id, top, top-fits, top-low, top-high}
use Rattle.integers.proofs.clip32.Goals as goal

-- what the tests read: the bits of the number shifted, and the number
module _ (x : ℤ) (f : SFits w64 x) where
  abbrev read : ℕ
  read = of_z w64 (shr_z (to_z w64 (of_z w64 x)) (2 ^ 31))

  shifted : read ≡ of_z w64 (top x)
  shifted = ap (λ (z : ℤ). of_z w64 (shr_z z (2 ^ 31))) (to_z-of_z f)

  held : (z : ℤ) → read ≡ of_z w64 z → SFits w64 z → top x ≡ z
  held z e g = sym (to_z-of_z (sfits_shr (2 ^ 31) f)) ∙ ap (to_z w64) (sym shifted ∙ e) ∙ to_z-of_z g

  failed : (z : ℤ) → read ≢ of_z w64 z → top x ≢ z
  failed z h e = h (shifted ∙ ap (of_z w64) e)

  -- where it fits
  kept : SFits w32 x → to_z w32 (of_z w32 (to_z w64 (of_z w64 x))) ≡ clip32 x
  kept g = ap (λ (z : ℤ). to_z w32 (of_z w32 z)) (to_z-of_z f) ∙ to_z-of_z g ∙ sym (clip32-id x g)

fits-1 : (c : goal.Then-h-eq0) → SFits w32 c.args.x
fits-1 c = top-fits _ (ap mag (held c.args.x c.ranges.x (pos 0) c.if-h-eq0.true (sfits_lit tt)))

fits-2 : (c : goal.Then-h) → SFits w32 c.args.x
fits-2 c = top-fits _ (ap mag (held c.args.x c.ranges.x (negsuc 0) c.if-h.true (sfits_lit tt)))

pub overflow_cast-result : goal.overflow_cast-result
overflow_cast-result c = rw (to_z-of_z c.ranges.x) (fits-1 c)

pub returns-then-h-eq0 : goal.returns-then-h-eq0
returns-then-h-eq0 c = kept c.args.x c.ranges.x (fits-1 c)

pub overflow_cast-result-then-h : goal.overflow_cast-result-then-h
overflow_cast-result-then-h c = rw (to_z-of_z c.ranges.x) (fits-2 c)

pub returns-then-h : goal.returns-then-h
returns-then-h c = kept c.args.x c.ranges.x (fits-2 c)

pub returns-then-x-lt0 : goal.returns-then-x-lt0
returns-then-x-lt0 c =
    let f = c.ranges.x in
    top-low c.args.x (failed _ f (pos 0) c.if-h-eq0.false) (failed _ f (negsuc 0) c.if-h.false) (lt-held _ _ (simp to_z-of_z at c.if-x-lt0.true))

pub returns : goal.returns
returns c =
    let f = c.ranges.x in
    top-high c.args.x (failed _ f (pos 0) c.if-h-eq0.false) (failed _ f (negsuc 0) c.if-h.false) (lt-failed _ _ (simp to_z-of_z at c.if-x-lt0.false))
