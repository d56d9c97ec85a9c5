-- The mark of a bi-prediction value that is too low. Assumes nothing.
use Rattle.std.proofs.Common.{◌≡◌, ℕ, ◌^◌, ◌≤◌, Bool, true, false, cond, leb, ℤ, pos, neg_ℤ, sym, ap, ◌∙◌, arith, pow_pos, pow_mono, le-leb, to_z-of_z}
use lib.Signed.{lt_z}
use mir.Syntax.{w16}
use mir.Val.{SFits, to_z, of_z}
use borrow.Author.Tests.{lt-leb}
use Rattle.evc.specs.Planes.{is_too_low}
use Rattle.sad_bi.specs.Marks.{low_mark_of}

-- it reaches every depth exactly where the value is too low
pub low-marked : (depth : ℕ) (v : ℤ) → depth ≤ 14 → is_too_low v ≡ leb (2 ^ depth) (low_mark_of v)
unfolding low_mark_of
low-marked depth v h = go (is_too_low v)
  where
    go : (t : Bool) → t ≡ leb (2 ^ depth) (cond t 65535 0)
    go true = let p : 2 ^ depth ≤ 2 ^ 14 = pow_mono h in sym (le-leb (2 ^ depth) 65535 (omega arith))
    go false = sym (lt-leb (2 ^ depth) 0 (pow_pos depth))

-- ---- what the code answers, whose test is of the value's bits: for the check to find by itself
limit : ℤ → Bool
limit v = lt_z v (neg_ℤ (pos 16384))

module _ (v : ℤ) (f : SFits w16 v) where
  tested : (t : Bool) → limit (to_z w16 (of_z w16 v)) ≡ t → cond {A = ℕ} t 65535 0 ≡ low_mark_of v
  unfolding low_mark_of limit
  tested t e = ap (λ (t : Bool). cond {A = ℕ} t 65535 0) (sym e ∙ ap limit (to_z-of_z f))

  pub low : lt_z (to_z w16 (of_z w16 v)) (neg_ℤ (pos 16384)) ≡ true → 65535 ≡ low_mark_of v
  unfolding limit
  low e = tested true e

  pub high : lt_z (to_z w16 (of_z w16 v)) (neg_ℤ (pos 16384)) ≡ false → 0 ≡ low_mark_of v
  unfolding limit
  high e = tested false e

pub ruleset marked = (low, high)
