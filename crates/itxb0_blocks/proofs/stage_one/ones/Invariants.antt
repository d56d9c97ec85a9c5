-- `itxb0_blocks::stage_one::ones` meets its contract: block after block, of the size that the log says. Assumes nothing.
use Prim.Native.Nat.{◌^◌}
use Rattle.evc.specs.Table.{tm}
use Rattle.evc.specs.Stages.{stage_one_at}
use Rattle.itx_halving.proofs.Places.{BlocksDone}
use Rattle.itxb0_blocks.proofs.stage_one.ones.Given as goal

abbrev pub invariant-loop-i : goal.invariant-loop-i
invariant-loop-i l = BlocksDone (stage_one_at (tm (2 ^ l.log)) (2 ^ l.log) l.l l.src) (2 ^ l.log) l.l l.initial.dst l.dst l.i
