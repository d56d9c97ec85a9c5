-- `capi::distortion::tv_sad_16b` meets its contract: it is `evce_sad_16b`, its answer as a number and a value. Assumes nothing.
use mir.Facts.{to_z-of_z}
use Rattle.capi.proofs.Laws.{told-as}
use Rattle.capi.proofs.distortion.tv_sad_16b.Goals as goal

pub returns : goal.returns
returns c =
    let fits = c.ranges in
    let mv-x = fits.mv_x in
    let mv-y = fits.mv_y in
    told-as (simp to_z-of_z at c.evce_sad_16b.ensures) c.tell.ensures
