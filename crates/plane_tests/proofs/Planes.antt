-- Blocks inside planes: the rule of planes as facts, that the rows of a block inside a plane lie inside the buffer, and that they are read as
-- the definitions read them. Assumes nothing.
use mathlib.Core.Path.{◌≡◌, refl, ap}
use mathlib.Core.Bool.{false, ◌||◌}
use mathlib.Core.List.{List}
use Prim.Native.Nat.{ℕ, ◌+◌, ◌*◌, ◌-◌, ◌≤◌, ◌<◌}
use native.Mathlib.Nat.{add-mul, mul-le-mul_right, le_trans}
use native.Mathlib.Omega.{arith}
use lib.Dec.{ltb}
use lib.ListN.{get_or}
use lib.IntN.{pos}
use borrow.Author.Tests.{ltb-false}
use Rattle.order.specs.Positions.{reach}
use Rattle.integers.proofs.Bools.{neither_left, neither_right}
use Rattle.evc.specs.Tests.{outside}
use Rattle.evc.specs.Planes.{plane_of, in_plane}
use Rattle.evc.proofs.Tests.{outside-no}
use Rattle.plane_tests.specs.Areas.{is_bad_plane, is_outside_plane}
use Rattle.plane_tests.specs.Blocks.{cell, TwoBlocks, strided}
use Rattle.plane_tests.proofs.Replies.{Alike}

-- a plane that the rule allows
pub record WellFormed (n width height stride : ℕ) : Type 0 where
  pub wide : (1 ≤ width) × (width ≤ 16384)
  pub high : (1 ≤ height) × (height ≤ 16384)
  pub apart : width ≤ stride
  pub long : reach 0 width stride height ≤ n

pub well-formed : (n width height stride : ℕ) → is_bad_plane n width height stride ≡ false → WellFormed n width height stride
well-formed n width height stride e =
    let a = outside 1 16384 width in
    let b = outside 1 16384 height in
    let c = ltb stride width in
    let d = ltb n (reach 0 width stride height) in
    let abc = neither_left (a || b || c) d e in
    let ab = neither_left (a || b) c abc in
    record {
      wide = outside-no 1 16384 width (neither_left a b ab);
      high = outside-no 1 16384 height (neither_right a b ab);
      apart = ltb-false stride width (neither_right (a || b) c abc);
      long = ltb-false n (reach 0 width stride height) (neither_right (a || b || c) d e);
    }

-- w by h samples from (x, y) lie inside a plane
pub record Inside (n width height stride x y w h : ℕ) : Type 0 where
  pub formed : WellFormed n width height stride
  pub across : x + w ≤ width
  pub down : y + h ≤ height

pub is-inside : (n width height stride x y w h : ℕ) → is_outside_plane n width height stride x y w h ≡ false → Inside n width height stride x y w h
is-inside n width height stride x y w h e =
    let bad = is_bad_plane n width height stride in
    let two = neither_left (bad || ltb width (x + w)) (ltb height (y + h)) e in
    record {
      formed = well-formed n width height stride (neither_left bad (ltb width (x + w)) two);
      across = ltb-false width (x + w) (neither_right bad (ltb width (x + w)) two);
      down = ltb-false height (y + h) (neither_right (bad || ltb width (x + w)) (ltb height (y + h)) e);
    }

-- then the last of their rows ends inside the buffer
pub rows_inside : (n width height stride x y w h : ℕ) → 1 ≤ h → Inside n width height stride x y w h → reach (y * stride + x) w stride h ≤ n
rows_inside n width height stride x y w h p i =
    let e = add-mul y (h - 1) stride in
    let q = i.down in
    let last : (y + (h - 1)) * stride ≤ (height - 1) * stride = mul-le-mul_right stride (omega arith) in
    omega (arith, i.across, i.formed.long)

pub plane-holds : (n width height stride x y w h : ℕ) → 1 ≤ h → is_outside_plane n width height stride x y w h ≡ false → reach (y * stride + x) w stride h ≤ n
plane-holds n width height stride x y w h p e = rows_inside n width height stride x y w h p (is-inside n width height stride x y w h e)

-- so does a packed block
pub planes-hold :
    (n width height stride x y m w h : ℕ) → (1 ≤ w) × (w ≤ 64) → (1 ≤ h) × (h ≤ 64) → is_outside_plane n width height stride x y w h ≡ false →
    is_outside_plane m w h w 0 0 w h ≡ false → TwoBlocks w h n (y * stride + x) stride m 0 w
planes-hold n width height stride x y m w h p q d e = record {
  narrow = p.1;
  low = q.1;
  one = plane-holds n width height stride x y w h q.0 d;
  two = (is-inside m w h w 0 0 w h e).formed.long;
}

pub plane-alike :
    (l : List ℕ) (width height stride x y w h depth start : ℕ) → start ≡ y * stride + x →
    Alike w h (strided l start stride depth) (in_plane (plane_of l width height stride) x y w h depth)
unfolding cell
plane-alike l width height stride x y w h depth start e = record {
  reads = λ j i p q. ap (λ (k : ℕ). pos (get_or l k 0)) (place j i);
  bad = λ v. refl;
}
  where
    place : (j i : ℕ) → start + j * stride + i ≡ (y + j) * stride + (x + i)
    place j i = let d = add-mul y j stride in omega arith

-- ---- rows
-- row j ends no later than the last row
pub row_in : (s t w h j : ℕ) → j < h → s + j * t + w ≤ reach s w t h
row_in s t w h j p = let q : j * t ≤ (h - 1) * t = mul-le-mul_right t (omega arith) in omega arith

-- of two blocks: where row j ends
module _ {w h m s t n s' t' : ℕ} (k : TwoBlocks w h m s t n s' t') {j : ℕ} (p : j < h) where
  pub in_one : s + j * t + w ≤ m
  in_one = le_trans (row_in s t w h j p) k.one

  pub in_two : s' + j * t' + w ≤ n
  in_two = le_trans (row_in s' t' w h j p) k.two
