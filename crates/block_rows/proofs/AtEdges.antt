-- Blocks at positions that may be negative: that an accepted call reads inside the plane; and how such a block is read where it stands, or row
-- by row. Assumes nothing.
use mathlib.Core.Path.{◌≡◌, refl, sym, ap, ap₂, ◌∙◌}
use mathlib.Core.Bool.{Bool, false, ◌||◌}
use mathlib.Core.List.{List}
use Prim.Native.Nat.{ℕ, ◌+◌, ◌*◌, ◌-◌, ◌≤◌, ◌<◌}
use native.Mathlib.Nat.{add-mul, mul-le-mul_right, le_of_eq}
use native.Mathlib.Omega.{arith}
use lib.IntN.{ℤ, pos, negsuc, ◌+ℤ◌}
use lib.Signed.{◌≤ℤ◌, lt_z}
use mir.Syntax.{w16}
use mir.Val.{SFits, to_z, of_z}
use mir.Facts.{to_z-of_z}
use lib.ListN.{length, get_or, take, drop, length-drop}
use lib.Seq.{take_all, get_or-drop}
use Rattle.integers.proofs.Dif.{up, dn}
use Rattle.integers.proofs.Bits.{lt-failed}
use Rattle.integers.proofs.Order.{signed}
use Rattle.integers.proofs.Parts.{sum-parts}
use Rattle.order.specs.Positions.{reach}
use Rattle.integers.proofs.Bools.{neither_left, neither_right}
use Rattle.evc.specs.Planes.{edge, past_edge, at_edges, plane_of}
use Rattle.plane_tests.specs.Areas.{is_bad_plane, is_outside_edges}
use Rattle.plane_tests.specs.Blocks.{cell}
use Rattle.plane_tests.proofs.Planes.{well-formed}
use Rattle.plane_tests.proofs.Far.{not-past}
use Rattle.plane_tests.proofs.Replies.{Alike}
use Rattle.block_rows.specs.Edges.{edge_cell, row_at_edge, EdgesIn, Stands}
use Rattle.block_rows.specs.Totals.{BlocksTotalled}
use Rattle.block_rows.proofs.Cells.{Same, SameBlock, blocks-alike}
use Rattle.block_rows.proofs.Marked.{samples}

-- a position that doesn't reach past a side reads below it
edge-below : (x : ℤ) (w i side : ℕ) → 1 ≤ side → i < w → up x + w ≤ side + dn x → edge (x +ℤ pos i) < side
edge-below x w i side s p h = go (x +ℤ pos i) (sum-parts x i)
  where
    go : (z : ℤ) → up z + dn x ≡ up x + i + dn z → edge z < side
    go (pos m) e = omega arith
    go (negsuc m) e = omega arith

pub edges-in :
    (n width height stride : ℕ) (x y : ℤ) (w h : ℕ) → (1 ≤ w) × (w ≤ 64) → (1 ≤ h) × (h ≤ 64) → is_outside_edges n width height stride x y w h ≡ false →
    EdgesIn n stride x y w h
edges-in n width height stride x y w h p q e =
    let bad = is_bad_plane n width height stride in
    let two = neither_left (bad || past_edge x w width) (past_edge y h height) e in
    let f = well-formed n width height stride (neither_left bad (past_edge x w width) two) in
    let a = not-past x w width (neither_right bad (past_edge x w width) two) in
    let b = not-past y h height (neither_right (bad || past_edge x w width) (past_edge y h height) e) in
    record {
      wide = p.0;
      high = q.0;
      narrow = p.1;
      low = q.1;
      reads =
          λ j i m k.
          let c = edge-below x w i width f.wide.0 k a in
          let d = edge-below y h j height f.high.0 m b in
          let g : edge (y +ℤ pos j) * stride ≤ (height - 1) * stride = mul-le-mul_right stride (omega arith) in
          omega (arith, f.long);
    }

-- the definitions read the same
pub edges-alike : (l : List ℕ) (width height stride : ℕ) (x y : ℤ) (w h depth : ℕ) → Alike w h (samples depth (edge_cell l stride x y)) (at_edges (plane_of l width height stride) x y w h depth)
unfolding edge_cell
edges-alike l width height stride x y w h depth = record { reads = λ j i p q. refl; bad = λ v. refl }

-- a signed argument that is passed on comes as its bits
edge-bits : {y : ℤ} {row : ℕ} (j : ℕ) → SFits w16 y → row ≡ edge (to_z w16 (of_z w16 y) +ℤ pos j) → row ≡ edge (y +ℤ pos j)
edge-bits {y} j f e = e ∙ ap (λ (z : ℤ). edge (z +ℤ pos j)) (to_z-of_z f)

-- ---- where neither position is negative
pub record Plain (x y : ℤ) : Type 0 where
  pub across : pos 0 ≤ℤ x
  pub down : pos 0 ≤ℤ y

pub is_plain :
    {x y : ℤ} {r : Bool} → SFits w16 x → SFits w16 y → r ≡ lt_z (to_z w16 (of_z w16 x)) (pos 0) || lt_z (to_z w16 (of_z w16 y)) (pos 0) → r ≡ false → Plain x y
is_plain {x} {y} {r} f g e n =
    let a = lt_z x (pos 0) in
    let b = lt_z y (pos 0) in
    let k : a || b ≡ false = rw (to_z-of_z f, to_z-of_z g) at (sym e ∙ n) in
    record { across = lt-failed x (pos 0) (neither_left a b k); down = lt-failed y (pos 0) (neither_right a b k) }

sum-edge : (x : ℤ) (i : ℕ) → pos 0 ≤ℤ x → edge (x +ℤ pos i) ≡ edge (x +ℤ pos 0) + i
sum-edge (pos n) i p = omega arith
sum-edge (negsuc n) i p = let z : ⊥ = omega signed in absurd z

-- where the block's first sample stands, and that it stands in the plane
module _ (stride : ℕ) {x y : ℤ} {row column : ℕ} (f : SFits w16 x) (g : SFits w16 y) (e : (row ≡ edge (to_z w16 (of_z w16 y) +ℤ pos 0)) × (column ≡ edge (to_z w16 (of_z w16 x) +ℤ pos 0))) where
  pub stands : row * stride + column ≡ edge (y +ℤ pos 0) * stride + edge (x +ℤ pos 0)
  stands = ap₂ (λ (m n : ℕ). m * stride + n) (edge-bits 0 g e.0) (edge-bits 0 f e.1)

  pub stands-in : {n w h : ℕ} → EdgesIn n stride x y w h → row * stride + column < n
  stands-in k = omega (arith, stands, k.reads 0 0 k.high k.wide)

-- the block stands in the plane from that sample on
module _ (stride : ℕ) {start : ℕ} {x y : ℤ} (t : Plain x y) (e : start ≡ edge (y +ℤ pos 0) * stride + edge (x +ℤ pos 0)) where
  pub plain-same : (l : List ℕ) → SameBlock (cell 0 l start stride) (edge_cell l stride x y)
  unfolding cell edge_cell
  plain-same l = record {
    at =
        λ j i.
        let d = add-mul (edge (y +ℤ pos 0)) j stride in
        let f : start + j * stride + i ≡ (edge (y +ℤ pos 0) + j) * stride + (edge (x +ℤ pos 0) + i) = omega arith in
        ap (λ (k : ℕ). get_or l k 0) (f ∙ sym (ap₂ (λ (a b : ℕ). a * stride + b) (sum-edge y j t.down) (sum-edge x i t.across)));
  }

  pub plain-inside : {n w h : ℕ} → EdgesIn n stride x y w h → reach start w stride h ≤ n
  plain-inside {n} {w} {h} k =
      let a = k.wide in
      let b = k.high in
      let last = k.reads (h - 1) (w - 1) (omega arith) (omega arith) in
      let f = ap₂ (λ (a b : ℕ). a * stride + b) (sum-edge y (h - 1) t.down) (sum-edge x (w - 1) t.across) in
      let d = add-mul (edge (y +ℤ pos 0)) (h - 1) stride in
      omega arith

-- ---- row by row
-- row j starts in the plane
pub row-starts :
    {n stride w h j row : ℕ} {x y : ℤ} → EdgesIn n stride x y w h → SFits w16 y → j < h → row ≡ edge (to_z w16 (of_z w16 y) +ℤ pos j) → row * stride < n
row-starts {stride = stride} {j = j} k f p e = omega (arith, ap (λ (m : ℕ). m * stride) (edge-bits j f e), k.reads j 0 p k.wide)

-- and the part of the plane from there on is read as the block's row
pub edge_same :
    (l : List ℕ) (stride : ℕ) (x y : ℤ) {w row : ℕ} (j : ℕ) → row ≡ edge (y +ℤ pos j) →
    Same w (row_at_edge (take (length l - row * stride) (drop (row * stride) l)) x) (edge_cell l stride x y j)
unfolding edge_cell
edge_same l stride x y {row = row} j e = record {
  at =
      λ i p.
      let k = edge (x +ℤ pos i) in
      let base = row * stride in
      ap (λ (r : List ℕ). get_or r k 0) (take_all (length l - base) (drop base l) (le_of_eq (length-drop base l)))
      ∙ get_or-drop base l k 0 ∙ ap (λ (n : ℕ). get_or l (n * stride + k) 0) e;
}

-- what two blocks that stand in their buffers add up to is what they do at the edges
pub standing-totalled :
    {A : Type 0} (f g : A → ℕ → ℕ) (d : A) {b w h s t w' h' s' t' x y : ℕ} {a a' : List A} {F G : ℕ → ℕ → ℕ} →
    Stands w h a s t F w' h' a' s' t' G → BlocksTotalled b f g w h (cell d a s t) F x y → BlocksTotalled b f g w' h' (cell d a' s' t') G x y
standing-totalled f g d {w' = w'} k r =
    blocks-alike f g w' (record { at = λ j i. rw (k.values, k.start, k.stride) }) (record { at = k.reads }) (rw (k.width, k.height) at r)
