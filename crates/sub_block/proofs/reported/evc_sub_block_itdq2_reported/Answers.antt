-- `sub_block::reported::evc_sub_block_itdq2_reported` meets its contract, as `evc_sub_block_itdq2` does. Assumes nothing.
use mathlib.Core.Path.{sym, ap, ◌∙◌}
use Rattle.std.proofs.lemmas.Result.{err_from_is_err_and}
use Rattle.evc.specs.Answers.{report_reply}
use Rattle.evc.proofs.SubBlocks.{sub-refused}
use Rattle.evc.proofs.Reports.{sub-report-answer, sub-report-none}
use Rattle.sub_block.proofs.reported.evc_sub_block_itdq2_reported.Goals as goal

pub returns-in_err-sub_block_report-clause-answer : goal.returns-in_err-sub_block_report-clause-answer
returns-in_err-sub_block_report-clause-answer c =
    let p = err_from_is_err_and c.from_residual.result c.from_residual.ensures.1 in
    rw (p.1, p.2) (ap report_reply c.in_err-sub_block_report.ensures ∙ sub-report-answer _ _)

pub returns-in_err-sub_block_report-clause-exit : goal.returns-in_err-sub_block_report-clause-exit
returns-in_err-sub_block_report-clause-exit c =
    sym (sub-refused c.args.call c.args.coef.now _ _ (sym (ap report_reply c.in_err-sub_block_report.ensures ∙ sub-report-answer _ _)))

pub components-requires : goal.components-requires
components-requires c = (sub-report-none _ _).0 (sym c.in_ok-sub_block_report.ensures)

pub returns-clause-answer : goal.returns-clause-answer
returns-clause-answer c = sym ((sub-report-none _ _).0 (sym c.in_ok-sub_block_report.ensures))
