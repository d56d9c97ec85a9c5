-- `itxb0_blocks::stage_one::one` meets its contract: gathered, summed, and stored line after line. Assumes nothing.
use Prim.Native.Nat.{◌/◌}
use native.Mathlib.Omega.{arith}
use Rattle.itx_halving.proofs.Places.{lanes-more, lanes_all}
use Rattle.itx_lanes.proofs.Sizes.{is_size, row-stride}
use Rattle.itxb0_blocks.proofs.stage_one.Products.{block-stored}
use Rattle.itxb0_blocks.proofs.stage_one.one.Goals as goal

pub loop-j-preserved : goal.loop-j-preserved
loop-j-preserved g c = lanes-more c.loop-j.invariant c.loop-j-test.true c.store_line.ensures

pub returns : goal.returns
returns g c =
    let a = c.args in
    let w = c.requires.0 in
    block-stored a.src.now g.row.N (1024 / g.row.N) a.l a.j0 g.row.P (row-stride g.row.N w.0 w.1) w.0 (omega arith) c.gather.ensures (is_size g.row.N w.0 w.1 _ c.sums.ensures.sized)
    (lanes_all c.loop-j.invariant c.loop-j-test.false)
