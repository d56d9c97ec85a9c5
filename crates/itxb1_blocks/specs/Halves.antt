-- Stage two by the inputs' halves, cited by the contracts of src/. Document 01, "The two stages". Assumes nothing.
use Rattle.std.specs.Prelude.{◌≡◌, List, ℕ, ◌+◌, ◌*◌, ◌/◌, ◌≤◌, ◌<◌, length, get_or, ℤ, pos, ◌+ℤ◌, ◌-ℤ◌, ◌*ℤ◌, nat_abs}
use Rattle.integers.specs.Z.{floor_pow, clip16}
use Rattle.integers.specs.Lists.{tab}
use Rattle.evc.specs.Stages.{rounding}
use Rattle.itx_table.specs.Columns.{column}

-- the upper half of a number of 32 bits, and what is left less 32768: x = 65536 · upper x + rest x + 32768
unfoldable pub upper : ℤ → ℤ
upper x = floor_pow x 16

unfoldable pub rest : ℤ → ℤ
rest x = x -ℤ floor_pow x 16 *ℤ pos 65536 -ℤ pos 32768

-- the tail of stage two: 65536 times a sum of upper halves, a sum of rests, and what both leave out
unfoldable pub joined : ℕ → ℤ → ℤ → ℤ → ℤ
joined shift h a c = clip16 (floor_pow (h *ℤ pos 65536 +ℤ a +ℤ c) shift)

-- of the sums h and a of a block's upper halves and rests, and of the numbers c, what the tail leaves at place k of lane j
abbrev pub tail_cell : ℕ → List ℤ → List ℤ → List ℤ → ℕ → ℕ → ℤ
tail_cell shift h a c j k = joined shift (get_or h (k * 16 + j) (pos 0)) (get_or a (k * 16 + j) (pos 0)) (get_or c k (pos 0))

-- the sums h and a of n places, and the numbers c, are what the tail of 16 lines reads
pub record TailReads (h a c : List ℤ) (n shift : ℕ) : Type 0 where
  pub h-room : n * 16 ≤ length h
  pub a-room : n * 16 ≤ length a
  pub c-room : n ≤ length c
  pub small : (k : ℕ) → k < n → nat_abs (get_or c k (pos 0)) ≤ 4294967296
  pub most : shift ≤ 31
  pub fours : n ≡ 4 * (n / 4)
  pub some : 16 ≤ n

-- c is what stage two of size N adds at each place of a line: the column's share, and the rounding number
pub record Offsets (c : List ℤ) (N shift : ℕ) : Type 0 where
  pub most : shift ≤ 31
  pub is : c ≡ tab N (λ n. column N n +ℤ rounding shift)
