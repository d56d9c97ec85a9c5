-- The two stages of the inverse transform, as direct products with any table. Document 01, "The two stages".
-- T k n is the table's number in row k, column n; a stage of size N works on L lines. Assumes nothing.
use Rattle.std.specs.Prelude.{ℕ, zero, suc, ◌+◌, ◌*◌, ◌/◌, ◌%◌, ◌^◌, List, [], ◌∷◌, ◌++◌, ltb, length, get_or, ℤ, pos, ◌+ℤ◌, ◌*ℤ◌}
use Rattle.integers.specs.Z.{floor_pow, clip16, clip32}
use Rattle.integers.specs.Sum.{sum_z}
use Rattle.integers.specs.Lists.{tab, written}
use Rattle.order.specs.Jobs.{if_accepted}
use Rattle.evc.specs.declared.Refusal.TheVariants.{Size, Shift, Area}
use Rattle.evc.specs.Tests.{Test, ◌when◌, first, outside, samples_of}
use Rattle.evc.specs.Table.{tm}

-- the sum over k of T[k][n] · x[k·L+j]: what line j gives at place n
unfoldable pub product : (ℕ → ℕ → ℤ) → ℕ → ℕ → List ℤ → ℕ → ℕ → ℤ
product T N L x j n = sum_z N (λ k. T k n *ℤ get_or x (k * L + j) (pos 0))

-- what stage two adds before it shifts
abbrev pub rounding : ℕ → ℤ
rounding zero = pos 0
rounding (suc s) = pos (2 ^ s)

-- what stands at a place of the output. The output is transposed: line j, place n stands at j·N+n
unfoldable pub stage_one_at : (ℕ → ℕ → ℤ) → ℕ → ℕ → List ℤ → ℕ → ℤ
stage_one_at T N L x place = clip32 (product T N L x (place / N) (place % N))

unfoldable pub stage_two_at : (ℕ → ℕ → ℤ) → ℕ → ℕ → ℕ → List ℤ → ℕ → ℤ
stage_two_at T N L shift x place = clip16 (floor_pow (product T N L x (place / N) (place % N) +ℤ rounding shift) shift)

-- the stages as functions from block to block, as a job uses them
abbrev pub stage_one_out : (ℕ → ℕ → ℤ) → ℕ → ℕ → List ℤ → List ℤ
stage_one_out T N L x = tab (length x) (stage_one_at T N L x)

abbrev pub stage_two_out : (ℕ → ℕ → ℤ) → ℕ → ℕ → ℕ → List ℤ → List ℤ
stage_two_out T N L shift x = tab (length x) (stage_two_at T N L shift x)

-- ---- itx_pb2b0 .. itx_pb64b0 on an input of n and an output of m numbers, N = 2^logn, L = 2^logl
abbrev pub stage_sizes : ℕ → ℕ → List Test
stage_sizes logn logl = (Size when outside 1 6 logn) ∷ (Size when ltb 6 logl) ∷ []

abbrev pub stage_areas : ℕ → ℕ → ℕ → ℕ → List Test
stage_areas n m logn logl = (Area when ltb n (samples_of logn logl)) ∷ (Area when ltb m (samples_of logn logl)) ∷ []

abbrev pub stage_one_tests : ℕ → ℕ → ℕ → ℕ → List Test
stage_one_tests n m logn logl = stage_sizes logn logl ++ stage_areas n m logn logl

unfoldable pub stage_one_number : ℕ → ℕ → ℕ → ℕ → ℕ
stage_one_number n m logn logl = first (stage_one_tests n m logn logl)

-- the output at the end: its first N·L places written, the rest as it was
unfoldable pub stage_one_exit : (ℕ → ℕ → ℤ) → ℕ → ℕ → List ℤ → List ℤ → List ℤ
stage_one_exit T logn logl x out =
    if_accepted (stage_one_number (length x) (length out) logn logl) (written (samples_of logn logl) (stage_one_at T (2 ^ logn) (2 ^ logl) x) out) out

-- ---- itx_pb2b1 .. itx_pb64b1
abbrev pub stage_two_tests : ℕ → ℕ → ℕ → ℕ → ℕ → List Test
stage_two_tests n m logn logl shift = stage_sizes logn logl ++ ((Shift when ltb 31 shift) ∷ stage_areas n m logn logl)

unfoldable pub stage_two_number : ℕ → ℕ → ℕ → ℕ → ℕ → ℕ
stage_two_number n m logn logl shift = first (stage_two_tests n m logn logl shift)

unfoldable pub stage_two_exit : (ℕ → ℕ → ℤ) → ℕ → ℕ → ℕ → List ℤ → List ℤ → List ℤ
stage_two_exit T logn logl shift x out =
    if_accepted (stage_two_number (length x) (length out) logn logl shift) (written (samples_of logn logl) (stage_two_at T (2 ^ logn) (2 ^ logl) shift x) out)
    out

-- document 01's own table, of the stage's size
abbrev pub itxb0_exit : ℕ → ℕ → List ℤ → List ℤ → List ℤ
itxb0_exit logn = stage_one_exit (tm (2 ^ logn)) logn

abbrev pub itxb1_exit : ℕ → ℕ → ℕ → List ℤ → List ℤ → List ℤ
itxb1_exit logn = stage_two_exit (tm (2 ^ logn)) logn
