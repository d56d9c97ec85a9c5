-- A difference of two numbers of 16 bits as 16 bits hold it: what each of its three cases is, and that it fits. Assumes nothing.
use mathlib.Core.Path.{◌≡◌, refl, sym}
use mathlib.Core.Bool.{true, false}
use Prim.Native.Nat.{◌≤◌}
use native.Mathlib.Omega.{arith}
use lib.IntN.{ℤ, pos, negsuc, nat_abs, ◌+ℤ◌, ◌-ℤ◌}
use lib.Signed.{lt_z, ◌≤ℤ◌}
use borrow.Author.Tests.{le-ltb}
use mir.Syntax.{w16}
use mir.Val.{SFits}
use Rattle.integers.proofs.Dif.{of, of-pos, of-negsuc, difs}
use Rattle.integers.proofs.Order.{<-nat, dif-≤, abs-parts, parts-sfits, between-sfits}
use Rattle.integers.proofs.Bits.{lt-held, lt-failed}
use Rattle.block_rows.specs.Small.{wrapped}

between : (z : ℤ) → negsuc 32767 ≤ℤ z → z ≤ℤ pos 32767 → SFits w16 z
between z p q = between-sfits w16 (negsuc 32767) (pos 32767) z (parts-sfits (omega arith) (omega arith)) (parts-sfits (omega arith) (omega arith)) p q

module _ (z : ℤ) where
  module _ (e : lt_z z (negsuc 32767) ≡ true) where
    pub wrapped-low : z +ℤ pos 65536 ≡ wrapped z
    unfolding wrapped
    wrapped-low = rw e

    pub low_fits : nat_abs z ≤ 65535 → SFits w16 (z +ℤ pos 65536)
    low_fits h =
        let p = <-nat (lt-held z (negsuc 32767) e) in
        let q = abs-parts z in
        between (z +ℤ pos 65536) (rw (of z, of-pos 65536, of-negsuc 32767) (simp difs (dif-≤ _ _ _ _ (omega arith))))
        (rw (of z, of-pos 65536, of-pos 32767) (simp difs (dif-≤ _ _ _ _ (omega arith))))

  module _ (e : lt_z z (negsuc 32767) ≡ false) where
    module _ (f : lt_z (pos 32767) z ≡ true) where
      pub wrapped-high : z -ℤ pos 65536 ≡ wrapped z
      unfolding wrapped
      wrapped-high = rw (e, f)

      pub high_fits : nat_abs z ≤ 65535 → SFits w16 (z -ℤ pos 65536)
      high_fits h =
          let p = <-nat (lt-held (pos 32767) z f) in
          let q = abs-parts z in
          between (z -ℤ pos 65536) (rw (of z, of-negsuc 65535, of-negsuc 32767) (simp difs (dif-≤ _ _ _ _ (omega arith))))
          (rw (of z, of-negsuc 65535, of-pos 32767) (simp difs (dif-≤ _ _ _ _ (omega arith))))

    module _ (f : lt_z (pos 32767) z ≡ false) where
      pub wrapped-none : z ≡ wrapped z
      unfolding wrapped
      wrapped-none = rw (e, f)

      pub none-fits : SFits w16 z
      none-fits = between z (lt-failed z (negsuc 32767) e) (lt-failed (pos 32767) z f)

-- a difference that 16 bits hold is exact
pub wrapped-small : (z : ℤ) → nat_abs z ≤ 32767 → wrapped z ≡ z
wrapped-small z h = sym (wrapped-none z (not_low z h) (not-high z h))
  where
    not_low : (z : ℤ) → nat_abs z ≤ 32767 → lt_z z (negsuc 32767) ≡ false
    not_low (pos n) h = refl
    not_low (negsuc n) h = le-ltb 32767 n (omega arith)

    not-high : (z : ℤ) → nat_abs z ≤ 32767 → lt_z (pos 32767) z ≡ false
    not-high (pos n) h = le-ltb 32767 n h
    not-high (negsuc n) h = refl
