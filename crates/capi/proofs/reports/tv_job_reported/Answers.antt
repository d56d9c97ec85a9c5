-- `capi::reports::tv_job_reported` meets its contract: it is `evc_itdq_job_reported` on the job as handed in, its report in numbers. Assumes nothing.
use mathlib.Core.Path.{ap, ◌∙◌}
use mir.Facts.{to_z-of_z}
use Rattle.boundary.specs.Told.{report_told}
use Rattle.capi.proofs.reports.tv_job_reported.Goals as goal

pub returns : goal.returns
returns c =
    let offset = c.ranges.offset in
    let done = simp (c.job_of-job.ensures, to_z-of_z) at c.evc_itdq_job_reported.ensures in
    record { report = c.tell_report.ensures ∙ ap report_told done.report; exit = done.exit }
