-- `capi::distortion::tv_ssd_16i` meets its contract: it is `evce_ssd_16i`, its answer as a number and a value. Assumes nothing.
use mir.Facts.{to_z-of_z}
use Rattle.capi.proofs.Laws.{told-as}
use Rattle.capi.proofs.distortion.tv_ssd_16i.Goals as goal

pub returns : goal.returns
returns c =
    let fits = c.ranges in
    let x = fits.x in
    let y = fits.y in
    told-as (simp to_z-of_z at c.evce_ssd_16i.ensures) c.tell.ensures
