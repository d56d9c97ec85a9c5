-- `itx_lanes::base::lane2` meets its contract: both places of size 2. Assumes nothing.
use mathlib.Core.Path.{◌∙◌}
use mir.Syntax.{w32}
use Rattle.integers.proofs.Bits.{back}
use Rattle.itx_lanes.proofs.Steps.{begun}
use Rattle.itx_lanes.proofs.base.lane2.Goals as goal

pub returns : goal.returns
returns c =
    begun _ _ _ c.first-2.ensures.narrow c.requires.1 c.requires.2 _ _ (back w32 _ c.first.type_inv ∙ c.first.ensures.is)
    (back w32 _ c.first-2.type_inv ∙ c.first-2.ensures.is)
