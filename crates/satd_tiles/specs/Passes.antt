-- The passes of a tile, as the contracts of src/ cite them; of any side n. A block is the list of its rows. A
-- tile's coefficients and its number are evc's (specs/Tiles.antt). Assumes nothing.
use Rattle.std.specs.Prelude.{◌≡◌, ℕ, zero, suc, ◌≤◌, List, [], get_or, set, ℤ, pos, ◌*ℤ◌, nat_abs}
use Rattle.integers.specs.Lists.{tab}
use Rattle.integers.specs.Sum.{sum_z, sum_n}
use Rattle.evc.specs.Tiles.{sign}

-- place i of a row; row j, column i of a block
abbrev pub place : List ℤ → ℕ → ℤ
place x i = get_or x i (pos 0)

abbrev pub entry : List (List ℤ) → ℕ → ℕ → ℤ
entry m j i = place (get_or m j []) i

-- no number of a row, or of a block, is above B in size
abbrev pub RowWithin : ℕ → List ℤ → Type 0
RowWithin B x = (i : ℕ) → nat_abs (place x i) ≤ B

abbrev pub BlockWithin : ℕ → List (List ℤ) → Type 0
BlockWithin B m = (j : ℕ) → RowWithin B (get_or m j [])

-- coefficient b of a line x, and the list of all of them
unfoldable pub line : ℕ → (ℕ → ℤ) → ℕ → ℤ
line n x b = sum_z n (λ i. x i *ℤ sign b i)

unfoldable pub whole_line : ℕ → List ℤ → List ℤ
whole_line n x = tab n (line n (place x))

-- a block with v in row b, column j; and with v 0, .., v (k-1) in column j of its first k rows
abbrev pub put : {A : Type 0} → ℕ → ℕ → A → List (List A) → List (List A)
put b j v m = set m b (set (get_or m b []) j v)

abbrev pub puts : {A : Type 0} → (ℕ → A) → ℕ → List (List A) → ℕ → List (List A)
puts v j m zero = m
puts v j m (suc k) = put k j (v k) (puts v j m k)

-- one pass: each row becomes its coefficients, and the block is turned: row b holds coefficient b of every row
unfoldable pub passed : ℕ → List (List ℤ) → List (List ℤ)
passed n m = tab n (λ b. tab n (λ j. line n (entry m j) b))

-- r is what a pass makes of m, and within B
pub record Passed (n B : ℕ) (m r : List (List ℤ)) : Type 0 where
  pub is : r ≡ passed n m
  pub within : BlockWithin B r

-- the pass over the rows of a tile: row a is the sum of all rows, each with its sign, so that each column becomes its coefficients
unfoldable pub rows_passed : ℕ → List (List ℤ) → List (List ℤ)
rows_passed n m = tab n (λ a. tab n (λ i. line n (λ j. entry m j i) a))

pub record RowsPassed (n B : ℕ) (m r : List (List ℤ)) : Type 0 where
  pub is : r ≡ rows_passed n m
  pub within : BlockWithin B r

-- the sizes of a row's numbers, and of a block's, added
unfoldable pub row_sizes : ℕ → List ℤ → ℕ
row_sizes n x = sum_n n (λ i. nat_abs (place x i))

unfoldable pub block_sizes : ℕ → List (List ℤ) → ℕ
block_sizes n m = sum_n n (λ j. row_sizes n (get_or m j []))
