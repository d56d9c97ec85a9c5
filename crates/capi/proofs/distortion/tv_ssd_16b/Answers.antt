-- `capi::distortion::tv_ssd_16b` meets its contract: it is `evce_ssd_16b`, its answer as a number and a value. Assumes nothing.
use Rattle.capi.proofs.Laws.{told-as}
use Rattle.capi.proofs.distortion.tv_ssd_16b.Goals as goal

pub returns : goal.returns
returns c = told-as c.evce_ssd_16b.ensures c.tell.ensures
