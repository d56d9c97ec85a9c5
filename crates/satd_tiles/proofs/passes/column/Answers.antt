-- `satd_tiles::passes::column` meets its contract. Assumes nothing.
use Rattle.std.proofs.Common.{arith, ◌∙◌}
use lib.ListN.{length-replicate}
use mir.Syntax.{w32}
use Rattle.integers.proofs.Bits.{back}
use Rattle.integers.proofs.Loop.{filled-start, filled-step, filled-end}
use Rattle.satd_tiles.proofs.passes.column.Goals as goal

pub loop-j-init : goal.loop-j-init
loop-j-init g c = filled-start (length-replicate _ _)

pub loop-j-preserved : goal.loop-j-preserved
loop-j-preserved g c = filled-step c.loop-j.invariant c.loop-j-test.true (back w32 c.at.result c.at.type_inv ∙ c.at.ensures)

pub returns : goal.returns
returns g c = filled-end c.loop-j.invariant (omega arith)
