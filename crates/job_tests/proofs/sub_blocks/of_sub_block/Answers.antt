-- `job_tests::sub_blocks::of_sub_block` meets its contract: its answer is the report's. Assumes nothing.
use mathlib.Core.Path.{ap, ◌∙◌}
use borrow.Author.Rules.{rules}
use Rattle.evc.specs.Answers.{report_reply}
use Rattle.evc.proofs.Reports.{sub-report-answer}
use Rattle.job_tests.proofs.Chain.{component-alone}
use Rattle.job_tests.proofs.sub_blocks.of_sub_block.Goals as goal

pub returns : goal.returns
returns c =
    component-alone c.sub_block_report.result c.map_err.result (λ e f p. search rules) c.map_err.ensures.cases
    ∙ ap report_reply c.sub_block_report.ensures ∙ sub-report-answer c.args.len c.args.call
