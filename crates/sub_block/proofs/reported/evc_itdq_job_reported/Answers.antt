-- `sub_block::reported::evc_itdq_job_reported` meets its contract. Assumes nothing.
use native.Mathlib.Omega.{arith}
use borrow.Author.Rules.{rules}
use mathlib.Core.Path.{sym, ap, ◌∙◌}
use Rattle.std.proofs.lemmas.Result.{err_from_is_err_and}
use Rattle.evc.specs.Answers.{report_number}
use Rattle.evc.proofs.Tests.{number-some}
use Rattle.evc.proofs.AnyOrder.{refused-unchanged}
use Rattle.evc.proofs.Reports.{job-report-number, job-report-none}
use Rattle.sub_block.proofs.reported.evc_itdq_job_reported.Goals as goal

pub returns-in_err-job_report-clause-answer : goal.returns-in_err-job_report-clause-answer
returns-in_err-job_report-clause-answer c =
    let p = err_from_is_err_and c.from_residual.result c.from_residual.ensures.1 in
    rw (p.1, p.2) (ap report_number c.in_err-job_report.ensures ∙ job-report-number _ _)

pub returns-in_err-job_report-clause-exit : goal.returns-in_err-job_report-clause-exit
returns-in_err-job_report-clause-exit c =
    let e = ap report_number c.in_err-job_report.ensures ∙ job-report-number _ _ in
    sym (refused-unchanged c.args.coef.now c.args.job (λ z. omega (arith, e, number-some c.in_err-job_report.field-0.0.refusal)))

pub component-requires : goal.component-requires
component-requires c = search (rules, (job-report-none _ _).0 (sym c.in_ok-job_report.ensures))

pub returns-clause-answer : goal.returns-clause-answer
returns-clause-answer c = sym ((job-report-none _ _).0 (sym c.in_ok-job_report.ensures))
