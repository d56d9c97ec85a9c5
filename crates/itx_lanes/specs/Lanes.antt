-- The sums of 16 lines side by side, cited by the contracts of src/levels.rt. A block has 64 rows of 16 lanes, a line in each lane. A size N
-- has its input k in row k·(64/N), so that every size is a level of the one 64 by 64 table. Document 01, "The two stages". Assumes nothing.
use Rattle.std.specs.Prelude.{◌≡◌, ◌⊎◌, List, ℕ, ◌+◌, ◌*◌, ◌/◌, ◌%◌, get_or, ℤ, pos}
use Rattle.evc.specs.Table.{tm64}
use Rattle.itx_halving.specs.Line.{dot}

-- lane j of a block of 16 lanes a row: its number in row k
abbrev pub lane : List ℤ → ℕ → ℕ → ℤ
lane s j k = get_or s (k * 16 + j) (pos 0)

-- what stands at a place of the sums of size N: place n of lane j stands at n·16+j
unfoldable pub lane_sum : ℕ → List ℤ → ℕ → ℤ
lane_sum N s place = dot tm64 (64 / N) N (place / 16) (lane s (place % 16))

-- the places that the sums of 16 lines take: 16 for each of a line, of size 16, 32 or 64
abbrev pub AnySize : ℕ → Type 0
AnySize P = (P ≡ 256) ⊎ ((P ≡ 512) ⊎ (P ≡ 1024))
