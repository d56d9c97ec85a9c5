-- `itxb1_blocks::tail::Tail::store` meets its contract: line after line. Assumes nothing.
use Rattle.itx_halving.proofs.Places.{lanes-more}
use Rattle.itxb1_blocks.proofs.tail.Tail.store.Goals as goal

pub loop-j-preserved : goal.loop-j-preserved
loop-j-preserved g c = lanes-more c.loop-j.invariant c.loop-j-test.true c.line.ensures
