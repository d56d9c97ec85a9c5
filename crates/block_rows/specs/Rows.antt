-- A row of a block whose rows stand a stride apart, and two rows of one length. Cited by the contracts and types of src/blocks.rt. Assumes
-- nothing.
use Rattle.std.specs.Prelude.{ℕ, ◌+◌, ◌*◌, List, take, drop}

-- row j of a block whose rows stand a stride t apart in l, from s on
unfoldable pub row_of : {A : Type 0} → List A → ℕ → ℕ → ℕ → ℕ → List A
row_of l s t j w = take w (drop (s + j * t) l)
