-- `satd::tiles::number` meets its contract. Assumes nothing.
use Rattle.std.proofs.Common.{arith, refl}
use lib.ListN.{length-replicate}
use Rattle.integers.proofs.Loop.{filled-start, filled-step, filled-end}
use Rattle.block_rows.proofs.Cells.{row-part}
use Rattle.block_rows.proofs.Tested.{rows_apart}
use Rattle.satd.proofs.Tiling.{number_of}
use Rattle.satd.proofs.tiles.number.Goals as goal

pub loop-j-init : goal.loop-j-init
loop-j-init g c = filled-start (length-replicate _ _)

pub loop-j-preserved : goal.loop-j-preserved
loop-j-preserved g c =
    let a = c.args in
    let n = g.row.N in
    let m = c.loop-j-test.true in
    filled-step c.loop-j.invariant m
    (rows_apart a.a.now a.a_at a.a_stride a.b.now a.b_at a.b_stride n m (row-part a.a.now a.a_at a.a_stride c.loop-j.j n)
    (row-part a.b.now a.b_at a.b_stride c.loop-j.j n) c.requires.small refl c.row.ensures)

pub returns : goal.returns
returns g c = number_of g.row.N _ c.number.result _ (filled-end c.loop-j.invariant (omega arith)) c.number.ensures
