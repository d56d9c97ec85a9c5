-- Whole numbers: floor division by a power of two, clips, the smaller and the larger of two.
-- ℤ, its sums and products, its order and `shr_z` are the library's (lib.IntN, lib.Signed); the laws stand in proofs/.
-- Assumes nothing.
use Rattle.std.specs.Prelude.{cond, ℕ, ◌^◌, ℤ, pos, neg_ℤ}
use Rattle.std.specs.Int.Signed.{lt_z, shr_z}

-- z divided by 2^k, rounded toward minus infinity: the one q with q·2^k ≤ z < (q+1)·2^k (proofs/Floor.antt)
abbrev pub floor_pow : ℤ → ℕ → ℤ
floor_pow z k = shr_z z (2 ^ k)

-- the smaller and the larger of two
abbrev pub min_z : ℤ → ℤ → ℤ
min_z a b = cond (lt_z b a) b a

abbrev pub max_z : ℤ → ℤ → ℤ
max_z a b = cond (lt_z a b) b a

-- z, or the nearer end where it lies outside lo..hi
abbrev pub clip : ℤ → ℤ → ℤ → ℤ
clip lo hi z = cond (lt_z z lo) lo (cond (lt_z hi z) hi z)

-- clipped to what 16 and 32 bits hold, signed
abbrev pub clip16 : ℤ → ℤ
clip16 = clip (neg_ℤ (pos 32768)) (pos 32767)

abbrev pub clip32 : ℤ → ℤ
clip32 = clip (neg_ℤ (pos 2147483648)) (pos 2147483647)
