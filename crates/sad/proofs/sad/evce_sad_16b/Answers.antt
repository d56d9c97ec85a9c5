-- `sad::sad::evce_sad_16b` meets its contract: each refusal is the first broken test, and what is left is read alike. Assumes nothing.
use mathlib.Core.Path.{◌≡◌, refl, sym, ◌∙◌}
use mathlib.Core.Bool.{false, ◌||◌}
use Prim.Native.Nat.{◌+◌, ◌*◌}
use native.Mathlib.Omega.{arith}
use lib.ListN.{length}
use mir.Facts.{to_z-of_z}
use Rattle.evc.specs.Tests.{outside}
use Rattle.evc.proofs.Tests.{outside-no}
use Rattle.plane_tests.specs.Areas.{is_outside_plane, is_outside_edges}
use Rattle.plane_tests.proofs.Planes.{plane-holds, plane-alike}
use Rattle.block_rows.specs.Edges.{AtEdges}
use Rattle.block_rows.proofs.AtEdges.{edges-in, edges-alike}
use Rattle.sad_answer.proofs.Sads.{sad-size, sad-depth, sad-area, sad-second, sad-sides, sad-ends}
use Rattle.sad.proofs.sad.Ends.{sad-totalled}
use Rattle.sad.proofs.sad.evce_sad_16b.Goals.{Else-bad_depth, Else-bad_sides, Else-outside_edges, Else-outside_plane}
use Rattle.sad.proofs.sad.evce_sad_16b.Goals as goal

-- what each test that was left says
sized : (c : Else-bad_sides) → let a = c.args in outside 1 64 a.w || outside 1 64 a.h ≡ false
sized c = sym c.bad_sides.ensures ∙ c.if-bad_sides.false

deep : (c : Else-bad_depth) → outside 8 14 c.args.depth ≡ false
deep c = sym c.bad_depth.ensures ∙ c.if-bad_depth.false

one :
    (c : Else-outside_plane) →
    let a = c.args in
    is_outside_plane (length a.org.now) a.width a.height a.stride a.x a.y a.w a.h ≡ false
one c = sym c.outside_plane.ensures ∙ c.if-outside_plane.false

-- the positions come as their bits
two :
    (c : Else-outside_edges) →
    let a = c.args in
    is_outside_edges (length a.reference.now) a.ref_width a.ref_height a.ref_stride a.mv_x a.mv_y a.w a.h ≡ false
two c =
    let f = c.ranges in
    rw (to_z-of_z f.mv_x, to_z-of_z f.mv_y) at (sym c.outside_edges.ensures ∙ c.if-outside_edges.false)

pub returns-then-bad_sides : goal.returns-then-bad_sides
returns-then-bad_sides c = sad-size _ _ _ _ _ (sym c.bad_sides.ensures ∙ c.if-bad_sides.true)

pub returns-then-bad_depth : goal.returns-then-bad_depth
returns-then-bad_depth c = sad-depth _ _ _ _ _ (sized (goal.at.returns-then-bad_depth c).Else-bad_sides) (sym c.bad_depth.ensures ∙ c.if-bad_depth.true)

pub returns-then-outside_plane : goal.returns-then-outside_plane
returns-then-outside_plane c =
    sad-area _ _ _ _ _ (sized (goal.at.returns-then-outside_plane c).Else-bad_sides) (deep (goal.at.returns-then-outside_plane c).Else-bad_depth) (sym c.outside_plane.ensures ∙ c.if-outside_plane.true)

pub returns-then-outside_edges : goal.returns-then-outside_edges
returns-then-outside_edges c =
    let f = c.ranges in
    sad-second _ _ _ _ _ (sized (goal.at.returns-then-outside_edges c).Else-bad_sides) (deep (goal.at.returns-then-outside_edges c).Else-bad_depth) (one (goal.at.returns-then-outside_edges c).Else-outside_plane)
    (rw (to_z-of_z f.mv_x, to_z-of_z f.mv_y) at (sym c.outside_edges.ensures ∙ c.if-outside_edges.true))

-- so the first block lies inside its buffer, and the second reads inside the plane
ready :
    (c : Else-outside_edges) →
    let a = c.args in
    AtEdges a.w a.h (length a.org.now) (a.y * a.stride + a.x) a.stride (length a.reference.now) a.ref_stride a.mv_x a.mv_y
ready c =
    let a = c.args in
    let k = sad-sides a.w a.h (sized (goal.at.overflow_mul-y c).Else-bad_sides) in
    record {
      one = plane-holds (length a.org.now) a.width a.height a.stride a.x a.y a.w a.h k.1.0 (one (goal.at.overflow_mul-y c).Else-outside_plane);
      two = edges-in (length a.reference.now) a.ref_width a.ref_height a.ref_stride a.mv_x a.mv_y a.w a.h k.0 k.1 (two c);
    }

pub overflow_mul-y : goal.overflow_mul-y
overflow_mul-y c = omega (arith, (ready c).one)

pub overflow_add-y : goal.overflow_add-y
overflow_add-y c = omega (arith, (ready c).one)

pub invariant_of-total : goal.invariant_of-total
invariant_of-total c = record { inside = let f = c.ranges in rw (to_z-of_z f.mv_x, to_z-of_z f.mv_y) (ready c) }

pub returns : goal.returns
returns c =
    let d = deep (goal.at.returns c).Else-bad_depth in
    let a = c.args in
    sad-ends (plane-alike a.org.now a.width a.height a.stride a.x a.y a.w a.h a.depth (a.y * a.stride + a.x) refl)
    (edges-alike a.reference.now a.ref_width a.ref_height a.ref_stride a.mv_x a.mv_y a.w a.h a.depth) a.depth
    (c.sad_answer.ensures
    ∙ sad-totalled _ _ _ _ _ (outside-no 8 14 a.depth d) (rw (to_z-of_z c.ranges.mv_x, to_z-of_z c.ranges.mv_y) at c.total-t.ensures))
    (sized (goal.at.returns c).Else-bad_sides) d (one (goal.at.returns c).Else-outside_plane) (two (goal.at.returns c).Else-outside_edges)
