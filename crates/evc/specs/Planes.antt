-- Planes of samples, and the blocks that a distortion call reads. Document 01, "Numbers of the domain" and "Distortion".
-- Assumes nothing.
use Rattle.std.specs.Prelude.{ℕ, zero, suc, ◌+◌, ◌*◌, ◌^◌, Bool, false, ◌||◌, List, ltb, length, get_or, ℤ, pos, negsuc, neg_ℤ, ◌+ℤ◌}
use Rattle.std.specs.Int.Signed.{lt_z, le_z}
use Rattle.order.specs.Positions.{reach}
use Rattle.evc.specs.Tests.{outside}

-- a plane, well formed or not: row y, column x stands at y·stride+x
pub record Plane (A : Type 0) : Type 0 where
  pub samples : List A
  pub width : ℕ
  pub height : ℕ
  pub stride : ℕ

-- the same of its parts, as a function is given it
abbrev pub plane_of : {A : Type 0} → List A → ℕ → ℕ → ℕ → Plane A
plane_of l width height stride = record { samples = l; width = width; height = height; stride = stride }

abbrev pub at : {A : Type 0} → A → Plane A → ℕ → ℕ → A
at d p y x = get_or p.samples (y * p.stride + x) d

-- a side outside 1..16,384, rows closer than they are wide, or too few samples
abbrev pub malformed : {A : Type 0} → Plane A → Bool
malformed p =
    outside 1 16384 p.width || outside 1 16384 p.height || ltb p.stride p.width
    || ltb (length p.samples) (reach 0 p.width p.stride p.height)

-- a packed block of w by h
abbrev pub packed : {A : Type 0} → List A → ℕ → ℕ → Plane A
packed l w h = plane_of l w h w

-- ---- positions that may lie outside a plane
-- where a position reads: the larger of it and 0
abbrev pub edge : ℤ → ℕ
edge (pos n) = n
edge (negsuc n) = 0

-- w positions from x on reach past a side: the last of them is not below it
abbrev pub past_edge : ℤ → ℕ → ℕ → Bool
past_edge x w side = lt_z (pos side) (x +ℤ pos w)

-- ---- P holds at some number below n
abbrev pub any_below : ℕ → (ℕ → Bool) → Bool
any_below zero P = false
any_below (suc n) P = any_below n P || P n

-- ---- a block that a call reads: whether it is AREA, what row j, column i is, and which values are SAMPLE
pub record Block : Type 0 where
  pub area : Bool
  pub reads : ℕ → ℕ → ℤ
  pub bad : ℤ → Bool

-- SAMPLE: a value read is bad
abbrev pub any_bad : ℕ → ℕ → Block → Bool
any_bad w h b = any_below h (λ j. any_below w (λ i. b.bad (b.reads j i)))

abbrev pub is_too_large : ℕ → ℤ → Bool
is_too_large depth v = le_z (pos (2 ^ depth)) v

abbrev pub is_too_low : ℤ → Bool
is_too_low v = lt_z v (neg_ℤ (pos 16384))

-- w by h samples of a plane from (x, y), which must lie inside it
abbrev pub in_plane : Plane ℕ → ℕ → ℕ → ℕ → ℕ → ℕ → Block
in_plane p x y w h depth =
    record {
      area = malformed p || ltb p.width (x + w) || ltb p.height (y + h);
      reads = λ j i. pos (at 0 p (y + j) (x + i));
      bad = is_too_large depth;
    }

-- w by h samples of a packed block
abbrev pub in_packed : List ℕ → ℕ → ℕ → ℕ → Block
in_packed l w h depth = in_plane (packed l w h) 0 0 w h depth

-- w by h samples of a plane from (x, y), which may be negative: each row and column reads at its edge
abbrev pub at_edges : Plane ℕ → ℤ → ℤ → ℕ → ℕ → ℕ → Block
at_edges p x y w h depth =
    record {
      area = malformed p || past_edge x w p.width || past_edge y h p.height;
      reads = λ j i. pos (at 0 p (edge (y +ℤ pos j)) (edge (x +ℤ pos i)));
      bad = is_too_large depth;
    }

-- w by h bi-prediction values of a packed block
abbrev pub bi_packed : List ℤ → ℕ → ℕ → Block
bi_packed l w h = record { area = malformed (packed l w h); reads = λ j i. at (pos 0) (packed l w h) j i; bad = is_too_low }
