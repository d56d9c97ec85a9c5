-- `capi::distortion::tv_satd` meets its contract: it is `evce_satd_16b`, its answer as a number and a value. Assumes nothing.
use Rattle.capi.proofs.Laws.{told-as}
use Rattle.capi.proofs.distortion.tv_satd.Goals as goal

pub returns : goal.returns
returns c = told-as c.evce_satd_16b.ensures c.tell.ensures
