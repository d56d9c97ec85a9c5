-- `job_tests::jobs::of_job` meets its contract: its number is the report's. Assumes nothing.
use mathlib.Core.Path.{ap, ◌∙◌}
use borrow.Author.Rules.{rules}
use Rattle.evc.specs.Answers.{report_number}
use Rattle.evc.proofs.Reports.{job-report-number}
use Rattle.job_tests.proofs.Chain.{refusal-alone}
use Rattle.job_tests.proofs.jobs.of_job.Goals as goal

pub returns : goal.returns
returns c =
    refusal-alone c.job_report.result c.map_err.result (λ e f p. search rules) c.map_err.ensures.cases
    ∙ ap report_number c.job_report.ensures ∙ job-report-number c.args.len c.args.job
