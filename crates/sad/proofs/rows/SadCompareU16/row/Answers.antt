-- `sad::rows::Sad::row` meets its contract. Assumes nothing.
use Rattle.std.proofs.Common.{refl, arith}
use Rattle.block_rows.proofs.Running.{running-start, running-step, running-end, running-next}
use Rattle.sad.proofs.rows.SadCompareU16.row.Goals as goal

pub loop-i-init : goal.loop-i-init
loop-i-init c = running-start

pub overflow_add-sum : goal.overflow_add-sum
overflow_add-sum c =
    omega (arith, running-next c.loop-i.invariant (omega arith) c.args.rows.small c.gap-sum.ensures.bound)

pub loop-i-preserved : goal.loop-i-preserved
loop-i-preserved c = running-step c.loop-i.invariant (omega arith) c.gap-sum.ensures.value refl c.gap-sum.ensures.bound

pub returns : goal.returns
returns c = running-end c.loop-i.invariant (omega arith) c.args.rows.small
