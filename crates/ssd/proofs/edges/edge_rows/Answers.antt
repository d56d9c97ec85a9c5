-- `ssd::edges::edge_rows` meets its contract. Assumes nothing.
use Rattle.std.proofs.Common.{◌*◌, ◌<◌, length, bit_or, refl, arith}
use mir.Syntax.{w16}
use mir.Facts.{to_z-of_z}
use borrow.Author.Rules.{sfits_of}
use Rattle.block_rows.proofs.Running.{running-start, running-row, running-end, running-next}
use Rattle.block_rows.proofs.Cells.{rows_alike}
use Rattle.block_rows.proofs.AtEdges.{row-starts, edge_same}
use Rattle.ssd.specs.Squares.{squared_low}
use Rattle.ssd.proofs.edges.edge_rows.Goals.{After-row_start-row}
use Rattle.ssd.proofs.edges.edge_rows.Goals as goal

pub loop-j-init : goal.loop-j-init
loop-j-init c = running-start

pub overflow_cast-j : goal.overflow_cast-j
overflow_cast-j c = omega (arith, c.args.pair.now.first.low)

-- row j of each block starts inside its plane
inside1 : (c : After-row_start-row) → let p = c.args.pair.now in c.row_start-row.result.row * p.stride1 < length p.one.now
inside1 c = row-starts c.args.pair.now.first (sfits_of c.fits-pair.1.1.1.1.1.0.1) c.loop-j-test.true c.row_start-row.ensures.0

inside2 : (c : After-row_start-row) → let p = c.args.pair.now in c.row_start-row.result.row * p.stride2 < length p.two.now
inside2 c = row-starts c.args.pair.now.second (sfits_of c.fits-pair.1.1.1.1.1.0.1) c.loop-j-test.true c.row_start-row.ensures.0

pub overflow_mul-p : goal.overflow_mul-p
overflow_mul-p c = omega (arith, inside1 (goal.at.overflow_mul-p c).After-row_start-row)

pub overflow_mul-q : goal.overflow_mul-q
overflow_mul-q c = omega (arith, inside2 (goal.at.overflow_mul-q c).After-row_start-row)

pub overflow_add-sum : goal.overflow_add-sum
overflow_add-sum c =
    omega (arith, running-next c.loop-j.invariant (omega arith) c.args.pair.now.first.low c.edge_row-t.ensures.most)

-- what the rows told, said of the blocks
pub loop-j-preserved : goal.loop-j-preserved
loop-j-preserved c =
    let p = c.args.pair.now in
    let x = to_z-of_z (sfits_of {w = w16} {z = p.x} c.fits-pair.1.1.1.1.0.1) in
    let y = to_z-of_z (sfits_of {w = w16} {z = p.y} c.fits-pair.1.1.1.1.1.0.1) in
    let e = rw y at c.row_start-row.ensures.0 in
    running-row c.loop-j.invariant (omega arith)
    (rows_alike (squared_low c.args.ssd.depth) bit_or (edge_same p.one.now p.stride1 p.x p.y c.loop-j.j e) (edge_same p.two.now p.stride2 p.x p.y c.loop-j.j e)
    (rw x at c.edge_row-t.ensures))
    refl refl

pub returns : goal.returns
returns c = running-end c.loop-j.invariant (omega arith) c.args.pair.now.first.low
