-- `capi::distortion::tv_sad_16i` meets its contract: it is `evce_sad_16i`, its answer as a number and a value. Assumes nothing.
use Rattle.capi.proofs.Laws.{told-as}
use Rattle.capi.proofs.distortion.tv_sad_16i.Goals as goal

pub returns : goal.returns
returns c = told-as c.evce_sad_16i.ensures c.tell.ensures
