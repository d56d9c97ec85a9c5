-- `block_rows::blocks::rows` meets its contract. Assumes nothing.
use Rattle.std.proofs.Common.{◌≤◌, length, refl, arith, le_trans}
use Rattle.plane_tests.specs.Blocks.{TwoBlocks}
use Rattle.block_rows.proofs.Running.{running-start, running-row, running-end, running-next}
use Rattle.block_rows.proofs.Cells.{sides-alike, rows-totalled}
use Rattle.block_rows.proofs.blocks.rows.Given.{Over}
use Rattle.block_rows.proofs.blocks.rows.Goals.{Start}
use Rattle.block_rows.proofs.blocks.rows.Goals as goal

-- the blocks, of the width that the code names
given : (g : Over) (c : Start g) → let p = c.args.pair.now in TwoBlocks c.args.w p.h (length p.a.now) p.a_at p.a_stride (length p.b.now) p.b_at p.b_stride
given g c = sides-alike c.requires.width refl c.args.pair.now.inside

few : (g : Over) (c : Start g) → c.args.h ≤ 64
few g c = le_trans c.requires.height (given g c).low

pub loop-j-init : goal.loop-j-init
loop-j-init g c = running-start

pub overflow_add-sum : goal.overflow_add-sum
overflow_add-sum g c =
    let k = few g (goal.at.overflow_add-sum g c).Start in
    let most = g.met.C.Compare.bounded in
    omega (arith, running-next c.loop-j.invariant (omega arith) k c.row-t.ensures.most)

pub loop-j-preserved : goal.loop-j-preserved
loop-j-preserved g c =
    let p = c.args.pair.now in
    let t = g.C.Compare in
    let s = (goal.at.loop-j-preserved g c).Start in
    let k = given g s in
    running-row c.loop-j.invariant (omega arith)
    (rows-totalled (t.adds c.args.compare) (t.marks c.args.compare) t.none 0 p.a.now p.b.now k (omega (arith, s.requires.height)) c.row.ensures.first c.row.ensures.second c.row-t.ensures)
    refl refl

pub returns : goal.returns
returns g c =
    running-end c.loop-j.invariant (omega arith) (few g (goal.at.returns g c).Start)
