-- `itxb1_blocks::stage_two::twos` meets its contract: block after block. Assumes nothing.
use Rattle.evc.specs.Table.{tm}
use Rattle.evc.specs.Stages.{stage_two_at}
use Rattle.itx_halving.proofs.Places.{BlocksDone}
use Rattle.itxb1_blocks.proofs.stage_two.twos.Given as goal

abbrev pub invariant-loop-i : goal.invariant-loop-i
invariant-loop-i g l = BlocksDone (stage_two_at (tm g.row.N) g.row.N l.l l.shift l.src) g.row.N l.l l.initial.dst l.dst l.i
