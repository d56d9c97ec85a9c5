-- Samples at positions that may be negative. Cited by the contracts of src/edges.rt and of the crates that compare blocks there. Assumes
-- nothing.
use Rattle.std.specs.Prelude.{◌≡◌, List, ℕ, suc, ◌+◌, ◌*◌, ◌≤◌, ◌<◌, ℤ, pos, negsuc, ◌+ℤ◌, get_or}
use Rattle.order.specs.Positions.{reach}
use Rattle.evc.specs.Planes.{edge}

-- what row j, column i of the block at (x, y) reads in a plane
unfoldable pub edge_cell : List ℕ → ℕ → ℤ → ℤ → ℕ → ℕ → ℕ
edge_cell l stride x y j i = get_or l (edge (y +ℤ pos j) * stride + edge (x +ℤ pos i)) 0

-- what the i-th place reads of a row that is read at the columns from x on
abbrev pub row_at_edge : List ℕ → ℤ → ℕ → ℕ
row_at_edge l x i = get_or l (edge (x +ℤ pos i)) 0

-- how far x lies below 0
abbrev pub behind : ℤ → ℕ
behind (pos n) = 0
behind (negsuc n) = suc n

-- the block of w by h at (x, y) reads inside n samples
pub record EdgesIn (n stride : ℕ) (x y : ℤ) (w h : ℕ) : Type 0 where
  pub wide : 1 ≤ w
  pub high : 1 ≤ h
  pub narrow : w ≤ 64
  pub low : h ≤ 64
  pub reads : (j i : ℕ) → j < h → i < w → edge (y +ℤ pos j) * stride + edge (x +ℤ pos i) < n

-- what is asked of a block inside m samples and of one at the edges of n samples
pub record AtEdges (w h m start stride n stride' : ℕ) (x y : ℤ) : Type 0 where
  pub one : reach start w stride h ≤ m
  pub two : EdgesIn n stride' x y w h

-- a block of w by h and what the other reads, F, where they stand, are those of w' by h' at the edges, which G says
pub record Stands {A : Type 0} (w h : ℕ) (a : List A) (s t : ℕ) (F : ℕ → ℕ → ℕ) (w' h' : ℕ) (a' : List A) (s' t' : ℕ) (G : ℕ → ℕ → ℕ) : Type 0 where
  pub width : w ≡ w'
  pub height : h ≡ h'
  pub values : a ≡ a'
  pub start : s ≡ s'
  pub stride : t ≡ t'
  pub reads : (j i : ℕ) → F j i ≡ G j i
