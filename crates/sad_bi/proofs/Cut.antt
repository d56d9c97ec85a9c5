-- Values that are raised and samples that are cut to 14 bits: how large their difference is, and that nothing is changed where no mark is left.
-- Assumes nothing.
use Rattle.std.proofs.Common.{◌≡◌, ℕ, ◌+◌, ◌%◌, ◌^◌, ◌<◌, ◌≤◌, Bool, true, false, cond, ℤ, pos, negsuc, ◌-ℤ◌, neg_ℤ, nat_abs, ◌≤ℤ◌, refl, ap, ◌∙◌, mod-eq_of_lt, arith, w16, SFits}
use lib.Bits.{bit_or, or_comm}
use Rattle.integers.proofs.Bits.{lt-held, lt-failed}
use Rattle.integers.proofs.Bound.{Within}
use Rattle.integers.proofs.Dif.{dif, up, dn, of, of-pos, dif-part, dif-eq, difs}
use Rattle.integers.proofs.Order.{signed, sfits-parts}
use Rattle.evc.specs.Planes.{is_too_low}
use Rattle.sad_bi.specs.Marks.{low_mark_of}
use Rattle.sad_bi.specs.Totals.{apart_bi}
use Rattle.sad_bi.specs.Near.{raise, near_bi}

-- the lower of two is too low where either is
pub low_first : (u v : ℤ) → u ≤ℤ v → low_mark_of u ≡ bit_or (low_mark_of u) (low_mark_of v)
unfolding low_mark_of
low_first u v h = go (is_too_low u) (is_too_low v) refl refl
  where
    go : (s t : Bool) → is_too_low u ≡ s → is_too_low v ≡ t → cond s 65535 0 ≡ bit_or (cond s 65535 0) (cond t 65535 0)
    go true true p q = refl
    go true false p q = refl
    go false false p q = refl
    go false true p q = let z : ⊥ = omega (signed, h, lt-failed u (neg_ℤ (pos 16384)) p, lt-held v (neg_ℤ (pos 16384)) q) in absurd z

pub low_second : (u v : ℤ) → v ≤ℤ u → low_mark_of v ≡ bit_or (low_mark_of u) (low_mark_of v)
low_second u v h = low_first v u h ∙ or_comm (low_mark_of v) (low_mark_of u)

-- a raised value's parts
raise-parts : (v : ℤ) → SFits w16 v → (up (raise v) ≤ 32767) × (dn (raise v) ≤ 16384)
unfolding raise
raise-parts v f = go (is_too_low v) refl
  where
    go : (t : Bool) → is_too_low v ≡ t → (up (cond t (neg_ℤ (pos 16384)) v) ≤ 32767) × (dn (cond t (neg_ℤ (pos 16384)) v) ≤ 16384)
    go true p = (omega arith, omega arith)
    go false p = at v f (lt-failed v (neg_ℤ (pos 16384)) p)
      where
        at : (v : ℤ) → SFits w16 v → neg_ℤ (pos 16384) ≤ℤ v → (up v ≤ 32767) × (dn v ≤ 16384)
        at (pos n) f h = (omega (arith, (sfits-parts f).0), omega arith)
        at (negsuc n) f h = (omega arith, omega (signed, h))

-- so its difference from a sample of 14 bits has 16
pub near_within : (v : ℤ) (y : ℕ) → SFits w16 v → y ≤ 16383 → Within 32767 (raise v -ℤ pos y)
near_within v y f h = record { bound = at (raise v -ℤ pos y) (dif-of (raise v) (pos y) (of (raise v)) (of-pos y)) }
  where
    p : (up (raise v) ≤ 32767) × (dn (raise v) ≤ 16384)
    p = raise-parts v f

    dif-of : (x z : ℤ) → x ≡ dif (up (raise v)) (dn (raise v)) → z ≡ dif y 0 → x -ℤ z ≡ dif (up (raise v)) (dn (raise v) + y)
    dif-of x z r s = rw (r, s) (simp difs (dif-eq _ _ _ _ (omega arith)))

    small : (z : ℤ) → up z + (dn (raise v) + y) ≡ up (raise v) + dn z → nat_abs z ≤ 32767
    small (pos m) e = omega (arith, p.0)
    small (negsuc m) e = omega (arith, p.1)

    at : (z : ℤ) → z ≡ dif (up (raise v)) (dn (raise v) + y) → nat_abs z ≤ 32767
    at z e = rw e (small (dif (up (raise v)) (dn (raise v) + y)) (dif-part (up (raise v)) (dn (raise v) + y)))

-- where a value isn't too low and a sample has 14 bits, nothing is changed
pub near-is : (v : ℤ) (q : ℕ) → low_mark_of v < 2 ^ 14 → q < 2 ^ 14 → near_bi v q ≡ apart_bi v q
unfolding near_bi apart_bi raise low_mark_of
near-is v q h k = go (is_too_low v) h ∙ ap (λ (n : ℕ). nat_abs (v -ℤ pos n)) (mod-eq_of_lt k)
  where
    go : (t : Bool) → cond t 65535 0 < 2 ^ 14 → nat_abs (cond t (neg_ℤ (pos 16384)) v -ℤ pos (q % 2 ^ 14)) ≡ nat_abs (v -ℤ pos (q % 2 ^ 14))
    go true p = let z : ⊥ = omega arith in absurd z
    go false p = refl
