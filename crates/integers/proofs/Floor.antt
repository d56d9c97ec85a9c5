-- `floor_pow z k` is the floor of z / 2^k: the one q with q · 2^k ≤ z < (q + 1) · 2^k. The machine's `>>` is stated by the same `shr_z`.
-- First, of any divisor m, that `shr_z` lies there, and that two such are in order; then the laws of the floor: where it lies, that it is
-- the only one, that it grows with z, and that whole multiples come out. Assumes nothing.
use mathlib.Core.Path.{◌≡◌}
use Prim.Native.Nat.{ℕ, suc, ◌+◌, ◌*◌, ◌/◌, ◌%◌, ◌<◌, ◌^◌}
use native.Mathlib.Omega.{arith}
use native.Mathlib.Nat.{div-add-mod', mod-lt, lt_of_mul-lt-mul_right}
use lib.Pow.{pow_pos}
use lib.IntN.{ℤ, pos, negsuc, ◌+ℤ◌, ◌*ℤ◌}
use lib.Signed.{◌≤ℤ◌, ◌<ℤ◌, shr_z}
use Rattle.integers.specs.Z.{floor_pow}
use Rattle.integers.proofs.Dif.{dif, up, dn, of, of-pos, difs}
use Rattle.integers.proofs.Order.{nat-≤, ≤ℤ-antisym, dif-≤, dif-<, ≤-dif, <-dif}

below : (z : ℤ) (m : ℕ) → 0 < m → (shr_z z m *ℤ pos m) ≤ℤ z
below (pos a) m h = let e = div-add-mod' a m in simp difs (dif-≤ _ _ _ _ (omega arith))
below (negsuc a) m h = let e = div-add-mod' a m in let k = mod-lt a h in simp difs (dif-≤ _ _ _ _ (omega arith))

above : (z : ℤ) (m : ℕ) → 0 < m → z <ℤ ((shr_z z m +ℤ pos 1) *ℤ pos m)
above (pos a) m h = let e = div-add-mod' a m in let k = mod-lt a h in simp difs (dif-< _ _ _ _ (omega arith))
above (negsuc a) m h = go (negsuc (a / m)) (negsuc a) (of (negsuc (a / m))) (of (negsuc a)) (div-add-mod' a m)
  where
    go : (q z : ℤ) → q ≡ dif 0 (suc (a / m)) → z ≡ dif 0 (suc a) → a / m * m + a % m ≡ a → z <ℤ ((q +ℤ pos 1) *ℤ pos m)
    go q z p e h = rw (p, e) (simp difs (dif-< _ _ _ _ (omega arith)))

-- what q is not above, and r + 1 is: q is not above r
close : (q r z : ℤ) (m : ℕ) → (q *ℤ pos m) ≤ℤ z → z <ℤ ((r +ℤ pos 1) *ℤ pos m) → q ≤ℤ r
close q r z m h k =
    let h' : (dif (up q) (dn q) *ℤ dif m 0) ≤ℤ dif (up z) (dn z) = rw (of q, of z, of-pos m) at h in
    let k' : dif (up z) (dn z) <ℤ ((dif (up r) (dn r) +ℤ dif 1 0) *ℤ dif m 0) = rw (of r, of z, of-pos m, of-pos 1) at k in
    let a = ≤-dif _ _ _ _ (simp difs at h') in
    let b = <-dif _ _ _ _ (simp difs at k') in
    let c : up q + dn r < suc (up r + dn q) = lt_of_mul-lt-mul_right m (omega arith) in
    nat-≤ (omega arith)

-- ---- the floor
pub floor-below : (z : ℤ) (k : ℕ) → (floor_pow z k *ℤ pos (2 ^ k)) ≤ℤ z
floor-below z k = below z (2 ^ k) (pow_pos k)

pub floor-above : (z : ℤ) (k : ℕ) → z <ℤ ((floor_pow z k +ℤ pos 1) *ℤ pos (2 ^ k))
floor-above z k = above z (2 ^ k) (pow_pos k)

pub floor-unique : (q z : ℤ) (k : ℕ) → (q *ℤ pos (2 ^ k)) ≤ℤ z → z <ℤ ((q +ℤ pos 1) *ℤ pos (2 ^ k)) → q ≡ floor_pow z k
floor-unique q z k h j =
    ≤ℤ-antisym (close q (floor_pow z k) z (2 ^ k) h (floor-above z k)) (close (floor_pow z k) q z (2 ^ k) (floor-below z k) j)
