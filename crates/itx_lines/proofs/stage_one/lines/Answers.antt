-- `itx_lines::stage_one::lines` meets its contract: line after line, each gathered, summed, stored. Assumes nothing.
use Rattle.integers.specs.Z.{clip32}
use Rattle.evc.specs.Table.{tm}
use Rattle.evc.specs.Stages.{stage_one_at}
use Rattle.itx_halving.proofs.Lines.{lined, upto-none, upto-more}
use Rattle.itx_lines.proofs.stage_one.lines.Goals as goal

pub loop-j-init : goal.loop-j-init
loop-j-init g c = upto-none c.requires.1.dst-room

pub loop-j-preserved : goal.loop-j-preserved
unfolding stage_one_at
loop-j-preserved g c =
    upto-more c.loop-j.invariant c.loop-j-test.true
    (lined clip32 (tm g.row.N) g.row.N _ _ _ c.gather_i16.ensures c.built_in.ensures c.store_i32.ensures)
