-- `sad_bi::sad_bi::evce_sad_bi_16b` meets its contract: each refusal is the first broken test, and what is left is read alike. Assumes nothing.
use Rattle.std.proofs.Common.{◌≡◌, false, ◌||◌, length, sym, ◌∙◌, to_z-of_z}
use Rattle.evc.specs.Tests.{outside}
use Rattle.evc.proofs.Tests.{outside-no}
use Rattle.plane_tests.specs.Areas.{is_bad_plane, is_outside_edges}
use Rattle.plane_tests.proofs.Planes.{well-formed}
use Rattle.block_rows.specs.Edges.{AtEdges}
use Rattle.block_rows.proofs.AtEdges.{edges-in, edges-alike}
use Rattle.sad_answer.proofs.Sads.{sad-size, sad-depth, sad-area, sad-second, sad-sides, sad-ends}
use Rattle.sad_bi.proofs.Ends.{bi-alike, bi-totalled}
use Rattle.sad_bi.proofs.sad_bi.evce_sad_bi_16b.Goals.{Else-bad_depth, Else-bad_plane, Else-bad_sides, Else-outside_edges}
use Rattle.sad_bi.proofs.sad_bi.evce_sad_bi_16b.Goals as goal

-- what each test that was left says
sized : (c : Else-bad_sides) → let a = c.args in outside 1 64 a.w || outside 1 64 a.h ≡ false
sized c = sym c.bad_sides.ensures ∙ c.if-bad_sides.false

deep : (c : Else-bad_depth) → outside 8 14 c.args.depth ≡ false
deep c = sym c.bad_depth.ensures ∙ c.if-bad_depth.false

one :
    (c : Else-bad_plane) →
    let a = c.args in is_bad_plane (length a.bi.now) a.w a.h a.w ≡ false
one c = sym c.bad_plane.ensures ∙ c.if-bad_plane.false

-- the positions come as their bits
two :
    (c : Else-outside_edges) →
    let a = c.args in
    is_outside_edges (length a.reference.now) a.ref_width a.ref_height a.ref_stride a.mv_x a.mv_y a.w a.h ≡ false
two c =
    let f = c.ranges in
    rw (to_z-of_z f.mv_x, to_z-of_z f.mv_y) at (sym c.outside_edges.ensures ∙ c.if-outside_edges.false)

pub returns-then-bad_sides : goal.returns-then-bad_sides
returns-then-bad_sides c = sad-size _ _ _ _ _ (sym c.bad_sides.ensures ∙ c.if-bad_sides.true)

pub returns-then-bad_depth : goal.returns-then-bad_depth
returns-then-bad_depth c = sad-depth _ _ _ _ _ (sized (goal.at.returns-then-bad_depth c).Else-bad_sides) (sym c.bad_depth.ensures ∙ c.if-bad_depth.true)

pub returns-then-bad_plane : goal.returns-then-bad_plane
returns-then-bad_plane c = sad-area _ _ _ _ _ (sized (goal.at.returns-then-bad_plane c).Else-bad_sides) (deep (goal.at.returns-then-bad_plane c).Else-bad_depth) (sym c.bad_plane.ensures ∙ c.if-bad_plane.true)

pub returns-then-outside_edges : goal.returns-then-outside_edges
returns-then-outside_edges c =
    let f = c.ranges in
    sad-second _ _ _ _ _ (sized (goal.at.returns-then-outside_edges c).Else-bad_sides) (deep (goal.at.returns-then-outside_edges c).Else-bad_depth) (one (goal.at.returns-then-outside_edges c).Else-bad_plane)
    (rw (to_z-of_z f.mv_x, to_z-of_z f.mv_y) at (sym c.outside_edges.ensures ∙ c.if-outside_edges.true))

-- so the values lie inside their buffer, and the block reads inside the plane
ready :
    (c : Else-outside_edges) →
    let a = c.args in
    AtEdges a.w a.h (length a.bi.now) 0 a.w (length a.reference.now) a.ref_stride a.mv_x a.mv_y
ready c =
    let a = c.args in
    let k = sad-sides a.w a.h (sized (goal.at.invariant_of-total_at_edges c).Else-bad_sides) in
    record {
      one = (well-formed (length a.bi.now) a.w a.h a.w (one (goal.at.invariant_of-total_at_edges c).Else-bad_plane)).long;
      two = edges-in (length a.reference.now) a.ref_width a.ref_height a.ref_stride a.mv_x a.mv_y a.w a.h k.0 k.1 (two c);
    }

pub invariant_of-total_at_edges : goal.invariant_of-total_at_edges
invariant_of-total_at_edges c = let f = c.ranges in record { inside = rw (to_z-of_z f.mv_x, to_z-of_z f.mv_y) (ready c) }

pub returns : goal.returns
returns c =
    let d = deep (goal.at.returns c).Else-bad_depth in
    let a = c.args in
    sad-ends (bi-alike a.bi.now a.w a.h)
    (edges-alike a.reference.now a.ref_width a.ref_height a.ref_stride a.mv_x a.mv_y a.w a.h a.depth) a.depth
    (c.sad_answer.ensures
    ∙ bi-totalled _ _ _ _ _ (outside-no 8 14 a.depth d) (rw (to_z-of_z c.ranges.mv_x, to_z-of_z c.ranges.mv_y) at c.total_at_edges-t.ensures))
    (sized (goal.at.returns c).Else-bad_sides) d (one (goal.at.returns c).Else-bad_plane) (two (goal.at.returns c).Else-outside_edges)
