-- Laws of `min_z`, `max_z` and `clip`: by what their tests say, as code leaves them; by facts of order; the range; a clip as a minimum of a
-- maximum, as fast code clips; that a clip to a type's range changes nothing where the number fits; and a clip to 32 bits by what is left of a
-- number after 31 bits are shifted out. Assumes nothing.
use mathlib.Core.Path.{◌≡◌, refl, sym, ap, ◌∙◌}
use mathlib.Core.Logic.{◌≢◌}
use mathlib.Core.Bool.{Bool, true, false}
use Prim.Native.Nat.{◌/◌, ◌<◌, ◌≤◌, ◌^◌}
use native.Mathlib.Omega.{arith}
use native.Mathlib.Decide.{dec_lt}
use lib.Dec.{T}
use lib.IntN.{ℤ, pos, negsuc}
use lib.Signed.{◌≤ℤ◌, ◌<ℤ◌, lt_z, lt_z_yes, le_z_yes, ≤ℤ_refl, clash_ℤ, mag, shr_z}
use mir.Syntax.{Width, w16, w32}
use mir.Val.{SFits}
use mir.Facts.{sfits_lit}
use Rattle.integers.specs.Z.{min_z, max_z, clip, clip16, clip32}
use Rattle.integers.proofs.Bits.{lt-held, lt-failed}
use Rattle.integers.proofs.Order.{nat-≤, nat-<, <-nat, sfits-parts, between-sfits, ≤ℤ-antisym, <ℤ-≤ℤ}

is_false : (b : Bool) → (T b → ⊥) → b ≡ false
is_false true h = absurd (h tt)
is_false false h = refl

is_true : (b : Bool) → T b → b ≡ true
is_true true h = refl
is_true false h = absurd h

-- a test of order that fails
not-lt : (x y : ℤ) → y ≤ℤ x → lt_z x y ≡ false
not-lt x y h = is_false (lt_z x y) (λ t. clash_ℤ (lt_z_yes t) h)

module _ (a b : ℤ) where
  pub min-left : a ≤ℤ b → min_z a b ≡ a
  min-left h = rw (not-lt b a h)

  pub max-left : b ≤ℤ a → max_z a b ≡ a
  max-left h = rw (not-lt a b h)

  pub min-right : b ≤ℤ a → min_z a b ≡ b
  min-right h = go (lt_z b a) refl
    where
      go : (t : Bool) → lt_z b a ≡ t → min_z a b ≡ b
      go true e = rw e
      go false e = rw e (≤ℤ-antisym (lt-failed b a e) h)

  pub max-right : a ≤ℤ b → max_z a b ≡ b
  max-right h = go (lt_z a b) refl
    where
      go : (t : Bool) → lt_z a b ≡ t → max_z a b ≡ b
      go true e = rw e
      go false e = rw e (≤ℤ-antisym h (lt-failed a b e))

module _ (lo hi x : ℤ) where
  clip-lo : lt_z x lo ≡ true → lo ≡ clip lo hi x
  clip-lo e = rw e

  clip-hi : lt_z x lo ≡ false → lt_z hi x ≡ true → hi ≡ clip lo hi x
  clip-hi e f = rw (e, f)

  clip-in : lt_z x lo ≡ false → lt_z hi x ≡ false → x ≡ clip lo hi x
  clip-in e f = rw (e, f)

  -- what lies between the ends is not changed
  pub clip-id : lo ≤ℤ x → x ≤ℤ hi → clip lo hi x ≡ x
  clip-id h k = sym (clip-in (not-lt x lo h) (not-lt hi x k))

  range : (b d : Bool) → lt_z x lo ≡ b → lt_z hi x ≡ d → lo ≤ℤ hi → (lo ≤ℤ clip lo hi x) × (clip lo hi x ≤ℤ hi)
  range true d e f h = rw e (≤ℤ_refl lo, h)
  range false true e f h = rw (e, f) (h, ≤ℤ_refl hi)
  range false false e f h = rw (e, f) (lt-failed x lo e, lt-failed hi x f)

  pub clip-above : lo ≤ℤ hi → lo ≤ℤ clip lo hi x
  clip-above h = (range (lt_z x lo) (lt_z hi x) refl refl h).0

  pub clip-below : lo ≤ℤ hi → clip lo hi x ≤ℤ hi
  clip-below h = (range (lt_z x lo) (lt_z hi x) refl refl h).1

  minmax : (b d : Bool) → lt_z x lo ≡ b → lt_z hi x ≡ d → lo ≤ℤ hi → min_z hi (max_z lo x) ≡ clip lo hi x
  minmax true d e f h = ap (min_z hi) (max-left lo x (<ℤ-≤ℤ (lt-held x lo e))) ∙ min-right hi lo h ∙ clip-lo e
  minmax false true e f h = ap (min_z hi) (max-right lo x (lt-failed x lo e)) ∙ min-left hi x (<ℤ-≤ℤ (lt-held hi x f)) ∙ clip-hi e f
  minmax false false e f h = ap (min_z hi) (max-right lo x (lt-failed x lo e)) ∙ min-right hi x (lt-failed hi x f) ∙ clip-in e f

  -- the minimum of the upper end and the maximum of the lower end and x
  pub clip-minmax : lo ≤ℤ hi → min_z hi (max_z lo x) ≡ clip lo hi x
  clip-minmax h = minmax (lt_z x lo) (lt_z hi x) refl refl h

-- what is clipped fits where both ends do
pub clip-fits : (w : Width) (lo hi x : ℤ) → SFits w lo → SFits w hi → lo ≤ℤ hi → SFits w (clip lo hi x)
clip-fits w lo hi x a b h = between-sfits w lo hi (clip lo hi x) a b (clip-above lo hi x h) (clip-below lo hi x h)

-- to a type's range: it fits the type, and nothing changes where the number does
pub clip16-fits : (z : ℤ) → SFits w16 (clip16 z)
clip16-fits z = clip-fits w16 (negsuc 32767) (pos 32767) z (sfits_lit tt) (sfits_lit tt) (le_z_yes tt)

pub clip32-id : (z : ℤ) → SFits w32 z → clip32 z ≡ z
clip32-id z h = let p = sfits-parts h in clip-id (negsuc 2147483647) (pos 2147483647) z (nat-≤ (omega arith)) (nat-≤ (omega arith))

-- ---- after 31 bits are shifted out 0 or -1 is left, exactly where 32 bits hold the number
abbrev pub top : ℤ → ℤ
top z = shr_z z (2 ^ 31)

pub top-fits : (z : ℤ) → mag (top z) ≡ 0 → SFits w32 z
top-fits (pos a) e = record { sfits = omega arith }
top-fits (negsuc a) e = record { sfits = omega arith }

top-wide : (z : ℤ) → top z ≢ pos 0 → top z ≢ negsuc 0 → 2147483648 ≤ mag z
top-wide (pos a) f g = by (dec_lt a 2147483648)
  where
    by : Dec (a < 2147483648) → 2147483648 ≤ a
    by (yes h) = let e : a / 2147483648 ≡ 0 = omega arith in absurd (f (ap pos e))
    by (no h) = omega arith
top-wide (negsuc a) f g = by (dec_lt a 2147483648)
  where
    by : Dec (a < 2147483648) → 2147483648 ≤ a
    by (yes h) = let e : a / 2147483648 ≡ 0 = omega arith in absurd (g (ap negsuc e))
    by (no h) = omega arith

module _ (z : ℤ) (f : top z ≢ pos 0) (g : top z ≢ negsuc 0) where
  pub top-low : z <ℤ pos 0 → negsuc 2147483647 ≡ clip32 z
  top-low h = at z (top-wide z f g) h
    where
      at : (z : ℤ) → 2147483648 ≤ mag z → z <ℤ pos 0 → negsuc 2147483647 ≡ clip32 z
      at (pos a) m h = let z : ⊥ = omega (arith, <-nat h) in absurd z
      at (negsuc a) m h = clip-lo (negsuc 2147483647) (pos 2147483647) (negsuc a) (is_true _ (nat-< {x = negsuc a} {y = negsuc 2147483647} (omega arith)).lt)

  pub top-high : pos 0 ≤ℤ z → pos 2147483647 ≡ clip32 z
  top-high h = at z (top-wide z f g) h
    where
      at : (z : ℤ) → 2147483648 ≤ mag z → pos 0 ≤ℤ z → pos 2147483647 ≡ clip32 z
      at (pos a) m h = clip-hi (negsuc 2147483647) (pos 2147483647) (pos a) refl (is_true _ (nat-< {x = pos 2147483647} {y = pos a} (omega arith)).lt)
      at (negsuc a) m h = absurd h.le
