-- `capi::transform::tv_dquant` meets its contract: it is `evc_dquant`, its answer as a number. Assumes nothing.
use mathlib.Core.Path.{◌∙◌}
use mir.Facts.{to_z-of_z}
use Rattle.capi.proofs.transform.tv_dquant.Goals as goal

pub returns : goal.returns
returns c =
    let fits = c.ranges in
    let scale = fits.scale in
    let offset = fits.offset in
    let done = simp to_z-of_z at c.evc_dquant.ensures in
    record { number = c.answer_number.ensures ∙ done.answer; exit = done.exit }
