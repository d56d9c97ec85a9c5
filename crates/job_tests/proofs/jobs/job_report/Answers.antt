-- `job_tests::jobs::job_report` meets its contract. Assumes nothing.
use Rattle.std.proofs.lemmas.Result.{err_from_is_err_and}
use Rattle.evc.specs.Jobs.{report_of_job}
use Rattle.job_tests.proofs.jobs.job_report.Goals as goal

pub returns-in_err-tests : goal.returns-in_err-tests
unfolding report_of_job
returns-in_err-tests c =
    let p = err_from_is_err_and c.from_residual.result c.from_residual.ensures.1 in
    rw (p.1, p.2) c.in_err-tests.ensures.report

pub returns : goal.returns
unfolding report_of_job
returns c = c.in_ok-tests.ensures.report
