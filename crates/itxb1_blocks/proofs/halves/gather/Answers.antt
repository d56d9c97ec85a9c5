-- `itxb1_blocks::halves::gather` meets its contract: row after row. Assumes nothing.
use native.Mathlib.Omega.{arith}
use Rattle.itx_halving.proofs.Gathered.{rows_more}
use Rattle.itxb1_blocks.proofs.halves.gather.Goals as goal

pub loop-k-preserved : goal.loop-k-preserved
loop-k-preserved g c = (omega (arith, c.loop-k-test.true), rows_more c.loop-k.invariant.1 c.requires.apart c.row.ensures)
