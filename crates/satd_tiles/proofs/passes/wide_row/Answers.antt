-- `satd_tiles::passes::wide_row` meets its contract. Assumes nothing.
use Rattle.std.proofs.Common.{arith, ◌∙◌}
use lib.ListN.{length-replicate}
use mir.Syntax.{w32}
use Rattle.integers.proofs.Bits.{back}
use Rattle.integers.proofs.Loop.{filled-start, filled-step, filled-end}
use Rattle.satd_tiles.proofs.passes.wide_row.Goals as goal

pub loop-i-init : goal.loop-i-init
loop-i-init g c = filled-start (length-replicate _ _)

pub loop-i-preserved : goal.loop-i-preserved
loop-i-preserved g c = filled-step c.loop-i.invariant c.loop-i-test.true (back w32 c.wide.result c.wide.type_inv ∙ c.wide.ensures)

pub returns : goal.returns
returns g c = filled-end c.loop-i.invariant (omega arith)
