-- `itx::both::stages_over` meets its contract: the two stages, one after the other. Assumes nothing.
use mathlib.Core.Path.{◌∙◌}
use Rattle.itx.proofs.both.stages_over.Goals as goal

pub returns : goal.returns
returns c = c.itxb1.ensures.exit ∙ rw c.itxb0.ensures.exit
