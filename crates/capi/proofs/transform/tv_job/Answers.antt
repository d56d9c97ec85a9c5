-- `capi::transform::tv_job` meets its contract: it is `evc_itdq_job` on the job as handed in, its answer as a number. Assumes nothing.
use mathlib.Core.Path.{◌∙◌}
use mir.Facts.{to_z-of_z}
use Rattle.capi.proofs.transform.tv_job.Goals as goal

pub returns : goal.returns
returns c =
    let offset = c.ranges.offset in
    let done = simp (c.job_of-job.ensures, to_z-of_z) at c.evc_itdq_job.ensures in
    record { number = c.answer_number.ensures ∙ done.answer; exit = done.exit }
