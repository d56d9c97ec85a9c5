-- Lines of size 8 that stage two does together, cited by the contracts of src/eight.rt. Document 01, "The two stages". Assumes nothing.
use Rattle.std.specs.Prelude.{cond, List, ℕ, ◌+◌, ◌*◌, ◌/◌, ◌%◌, ◌≤◌, ltb, length, ℤ, ◌+ℤ◌}
use Rattle.integers.specs.Z.{floor_pow, clip32}
use Rattle.evc.specs.Table.{tm}
use Rattle.evc.specs.Stages.{product, rounding}

-- of l lines, how many go together, and how many such groups there are
abbrev pub group_of : ℕ → ℕ
group_of l = cond (ltb l 8) l 8

abbrev pub groups_of : ℕ → ℕ
groups_of l = (l + 7) / 8

-- what is kept for a place of the output: the quotient, clipped to 32 bits
unfoldable pub quotient_at : ℕ → ℕ → List ℤ → ℕ → ℤ
quotient_at l shift x place = clip32 (floor_pow (product (tm 8) 8 l x (place / 8) (place % 8) +ℤ rounding shift) shift)

-- lines j0 .. j0 + m - 1 of l, at most 8, lie within the input, and z has room for the numbers of 8
pub record Group (src z : List ℤ) (l j0 m : ℕ) : Type 0 where
  pub among : j0 + m ≤ l
  pub src-room : 8 * l ≤ length src
  pub few : m ≤ 8
  pub z-room : 64 ≤ length z
