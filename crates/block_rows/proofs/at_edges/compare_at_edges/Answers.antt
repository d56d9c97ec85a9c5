-- `block_rows::at_edges::compare_at_edges` meets its contract. Assumes nothing.
use Rattle.std.proofs.Common.{◌+◌, ◌*◌, ◌≤◌, ◌<◌, length, refl, arith, le_trans}
use mir.Syntax.{w16}
use mir.Facts.{to_z-of_z}
use borrow.Author.Rules.{sfits_of}
use Rattle.plane_tests.proofs.Planes.{row_in}
use Rattle.block_rows.proofs.Running.{running-start, running-row, running-end, running-next}
use Rattle.block_rows.proofs.Cells.{part_length, part_same, rows_alike}
use Rattle.block_rows.proofs.AtEdges.{row-starts, edge_same}
use Rattle.block_rows.proofs.at_edges.compare_at_edges.Given.{Over}
use Rattle.block_rows.proofs.at_edges.compare_at_edges.Goals.{After-row_start-row, In-loop-j}
use Rattle.block_rows.proofs.at_edges.compare_at_edges.Goals as goal

pub loop-j-init : goal.loop-j-init
loop-j-init g c = running-start

-- where row j of the first block ends
one : (g : Over) (c : In-loop-j g) → let p = c.args.pair.now in p.at + c.loop-j.j * p.stride + p.w ≤ length p.org.now
one g c = let p = c.args.pair.now in le_trans (row_in p.at p.stride p.w p.h c.loop-j.j (omega arith)) p.inside.one

-- row j of the second starts inside the plane
inside : (g : Over) (c : After-row_start-row g) → let p = c.args.pair.now in c.row_start-row.result.row * p.ref_stride < length p.reference.now
inside g c = let p = c.args.pair.now in row-starts p.inside.two (sfits_of c.fits-pair.1.1.1.1.1.1.0.1) c.loop-j-test.true c.row_start-row.ensures.0

pub overflow_cast-j : goal.overflow_cast-j
overflow_cast-j g c = omega (arith, c.args.pair.now.inside.two.low)

pub overflow_mul-base : goal.overflow_mul-base
overflow_mul-base g c = omega (arith, inside g c)

pub overflow_add-sum : goal.overflow_add-sum
overflow_add-sum g c =
    let most = g.met.C.Compare.bounded in
    omega (arith, running-next c.loop-j.invariant (omega arith) c.args.pair.now.inside.two.low c.compare_edge_row-t.ensures.most)

-- what the rows told, said of the blocks
pub loop-j-preserved : goal.loop-j-preserved
loop-j-preserved g c =
    let p = c.args.pair.now in
    let t = g.C.Compare in
    let j = c.loop-j.j in
    let x = to_z-of_z (sfits_of {w = w16} {z = p.mv_x} c.fits-pair.1.1.1.1.1.0.1) in
    let y = to_z-of_z (sfits_of {w = w16} {z = p.mv_y} c.fits-pair.1.1.1.1.1.1.0.1) in
    let e = part_length p.org.now p.at p.stride j p.w (one g (goal.at.loop-j-preserved g c).In-loop-j) in
    running-row c.loop-j.invariant (omega arith)
    (rows_alike (t.adds c.args.compare) (t.marks c.args.compare) (part_same t.none p.org.now p.at p.stride j p.w)
    (edge_same p.reference.now p.ref_stride p.mv_x p.mv_y j (rw y at c.row_start-row.ensures.0)) (rw (x, e) at c.compare_edge_row-t.ensures))
    refl refl

pub returns : goal.returns
returns g c = running-end c.loop-j.invariant (omega arith) c.args.pair.now.inside.two.low
