-- `satd_tiles::passes::widened` meets its contract. Assumes nothing.
use Rattle.std.proofs.Common.{arith, sym, ◌∙◌}
use lib.ListN.{length-replicate}
use mir.Syntax.{w16}
use Rattle.integers.proofs.Loop.{filled-start, filled-step, filled-end}
use Rattle.satd_tiles.proofs.Blocks.{is_block}
use Rattle.satd_tiles.proofs.passes.widened.Goals as goal

pub loop-j-init : goal.loop-j-init
loop-j-init g c = filled-start (length-replicate _ _)

pub loop-j-preserved : goal.loop-j-preserved
loop-j-preserved g c = filled-step c.loop-j.invariant c.loop-j-test.true c.wide_row.ensures

pub returns : goal.returns
returns g c = filled-end c.loop-j.invariant (omega arith) ∙ sym (is_block w16 g.row.N g.row.N c.args.diff _ c.well_formed.0)
