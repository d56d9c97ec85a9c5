-- `itx_halving::tests::stage_one` meets its contract. Assumes nothing.
use Rattle.evc.specs.Stages.{stage_one_number, stage_two_number}
use Rattle.itx_halving.proofs.tests.stage_one.Goals as goal

pub returns : goal.returns
unfolding stage_one_number stage_two_number
returns c = c.stage_two.ensures
