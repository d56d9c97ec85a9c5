-- Laws of the two steps in which stage two of size 8 clips: after 11 bits are shifted out 32 bits hold a quotient; a clip to 32 bits changes
-- nothing for the clip to 16. Then the groups of lines: which line a place belongs to, and that the groups make up all lines. Assumes nothing.
use borrow.Author.Tests.{lt-ltb, ltb-true}
use mathlib.Core.Path.{◌≡◌, refl, ap}
use mathlib.Core.Bool.{Bool, true, false}
use mathlib.Core.List.{List}
use Prim.Native.Nat.{ℕ, ◌+◌, ◌*◌, ◌/◌, ◌%◌, ◌^◌, ◌<◌, ◌≤◌}
use native.Mathlib.Omega.{arith}
use native.Mathlib.Decide.{dec_lt}
use native.Mathlib.Nat.{lt_of_lt_of_le}
use lib.Dec.{T, ltb, eqb, eqb→eq}
use lib.Pow.{pow_mono, shr_lt}
use lib.IntN.{ℤ, pos, negsuc, ◌+ℤ◌, nat_abs}
use lib.Signed.{mag}
use mir.Syntax.{w32}
use mir.Val.{SFits}
use Rattle.integers.specs.Z.{floor_pow, clip16, clip32}
use Rattle.integers.proofs.Clip.{clip32-id}
use Rattle.integers.proofs.Every.{below, below_at}
use Rattle.integers.proofs.Written.{grid-at}
use Rattle.evc.specs.Table.{tm}
use Rattle.evc.specs.Stages.{product, rounding, stage_two_at}
use Rattle.itxb1_small.specs.Sums.{most8}
use Rattle.itxb1_small.specs.Groups.{group_of, groups_of, quotient_at}

-- ---- the first step
small : (a s : ℕ) → 11 ≤ s → a ≤ most8 → a < 2 ^ (31 + s)
small a s h b = lt_of_lt_of_le (omega arith) (pow_mono {i = 42} {j = 31 + s} (omega arith))

pub quotient_fits : (v : ℤ) (s : ℕ) → 11 ≤ s → nat_abs v ≤ most8 → SFits w32 (floor_pow v s)
quotient_fits (pos a) s h b = record { sfits = shr_lt 31 s (small a s h b) }
quotient_fits (negsuc a) s h b = record { sfits = shr_lt 31 s (small a s h (omega arith)) }

-- ---- the second step
pub clip-twice : (z : ℤ) → clip16 (clip32 z) ≡ clip16 z
clip-twice z = by z (dec_lt (mag z) 2147483648)
  where
    by : (z : ℤ) → Dec (mag z < 2147483648) → clip16 (clip32 z) ≡ clip16 z
    by z (yes h) = ap clip16 (clip32-id z (record { sfits = h }))
    by (pos a) (no f) = rw (lt-ltb 2147483647 a (omega arith), lt-ltb 32767 a (omega arith))
    by (negsuc a) (no f) = rw (lt-ltb 2147483647 a (omega arith), lt-ltb 32767 a (omega arith))

-- what is kept for a place, clipped, is what the stage leaves there
pub kept-clipped : (l shift : ℕ) (x : List ℤ) (place : ℕ) → clip16 (quotient_at l shift x place) ≡ stage_two_at (tm 8) 8 l shift x place
unfolding quotient_at stage_two_at
kept-clipped l shift x place = clip-twice (floor_pow (product (tm 8) 8 l x (place / 8) (place % 8) +ℤ rounding shift) shift)

-- ---- the groups
-- place k of line j of the group that begins with line j0
pub kept_at : (l shift : ℕ) (x : List ℤ) (j0 j k : ℕ) → k < 8 → clip32 (floor_pow (product (tm 8) 8 l x (j0 + j) k +ℤ rounding shift) shift) ≡ quotient_at l shift x (j0 * 8 + (j * 8 + k))
unfolding quotient_at
kept_at l shift x j0 j k h =
    let e : j0 * 8 + (j * 8 + k) ≡ (j0 + j) * 8 + k = omega arith in
    rw (e, grid-at (λ j k. clip32 (floor_pow (product (tm 8) 8 l x j k +ℤ rounding shift) shift)) (j0 + j) k 8 h)

pub group-most : (l : ℕ) → group_of l ≤ 8
group-most l = by (ltb l 8) refl
  where
    by : (b : Bool) → ltb l 8 ≡ b → group_of l ≤ 8
    by true e = let h = ltb-true l 8 e in rw e (omega arith)
    by false e = rw e (omega arith)

whole-test : T (below (λ b. eqb (groups_of (2 ^ b) * group_of (2 ^ b)) (2 ^ b)) 7)
whole-test = tt

pub groups-whole : (b : ℕ) → b ≤ 6 → groups_of (2 ^ b) * group_of (2 ^ b) ≡ 2 ^ b
groups-whole b h = eqb→eq _ _ (below_at (λ b. eqb (groups_of (2 ^ b) * group_of (2 ^ b)) (2 ^ b)) 7 whole-test b (omega arith))
