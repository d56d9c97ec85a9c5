-- `job_tests::sub_blocks::sub_block_report` meets its contract: each exit by the groups of tests that passed before it. Assumes nothing.
use mathlib.Core.Path.{◌∙◌}
use Rattle.std.proofs.lemmas.Result.{err_from_is_err_and}
use Rattle.evc.specs.declared.Component.TheVariants.{U, «V»}
use Rattle.evc.specs.SubBlocks.{luma, chroma}
use Rattle.job_tests.proofs.Chain.{told-first}
use Rattle.job_tests.proofs.pairs.Overlaps.{pair-report}
use Rattle.job_tests.proofs.sub_blocks.Groups.{of-y, of-u, of-v, of-yu, of-yv, from-u, from-v, from-yu, from-yv, from-uv, whole, past-y, past-u, past-v, past-yu, past-yv}
use Rattle.job_tests.proofs.sub_blocks.sub_block_report.Goals as goal

pub returns-in_err-y : goal.returns-in_err-y
returns-in_err-y c =
    let n = c.args.len in
    let s = c.args.call in
    let p = err_from_is_err_and c.from_residual.result c.from_residual.ensures.1 in
    rw (p.1, p.2) (told-first (of-y n s) (from-u n s) c.in_err-y.ensures.report (whole n s))

pub returns-in_err-u : goal.returns-in_err-u
returns-in_err-u c =
    let n = c.args.len in
    let s = c.args.call in
    let p = err_from_is_err_and c.from_residual-in_err-u.result c.from_residual-in_err-u.ensures.1 in
    rw (p.1, p.2) (told-first (of-u n s) (from-v n s) c.in_err-u.ensures.report (past-y n s c.in_ok-y.ensures.report))

pub returns-in_err-v : goal.returns-in_err-v
returns-in_err-v c =
    let n = c.args.len in
    let s = c.args.call in
    let p = err_from_is_err_and c.from_residual-in_err-v.result c.from_residual-in_err-v.ensures.1 in
    rw (p.1, p.2) (told-first (of-v n s) (from-yu n s) c.in_err-v.ensures.report (past-u n s c.in_ok-y.ensures.report c.in_ok-u.ensures.report))

pub returns-in_err-apart : goal.returns-in_err-apart
returns-in_err-apart c =
    let n = c.args.len in
    let s = c.args.call in
    let p = err_from_is_err_and c.from_residual-in_err-apart.result c.from_residual-in_err-apart.ensures.1 in
    rw (p.1, p.2)
    (told-first (of-yu n s) (from-yv n s)
    (c.in_err-apart.ensures ∙ pair-report (luma s) (chroma s) U s.y s.u c.in_ok-y.ensures.job c.in_ok-u.ensures.job)
    (past-v n s c.in_ok-y.ensures.report c.in_ok-u.ensures.report c.in_ok-v.ensures.report))

pub returns-in_err-apart-2 : goal.returns-in_err-apart-2
returns-in_err-apart-2 c =
    let n = c.args.len in
    let s = c.args.call in
    let p = err_from_is_err_and c.from_residual-in_err-apart-2.result c.from_residual-in_err-apart-2.ensures.1 in
    rw (p.1, p.2)
    (told-first (of-yv n s) (from-uv n s)
    (c.in_err-apart-2.ensures ∙ pair-report (luma s) (chroma s) «V» s.y s.v c.in_ok-y.ensures.job c.in_ok-v.ensures.job)
    (past-yu n s c.in_ok-y.ensures.report c.in_ok-u.ensures.report c.in_ok-v.ensures.report
    (c.in_ok-apart.ensures ∙ pair-report (luma s) (chroma s) U s.y s.u c.in_ok-y.ensures.job c.in_ok-u.ensures.job)))

pub returns : goal.returns
returns c =
    let n = c.args.len in
    let s = c.args.call in
    c.apart-3.ensures ∙ pair-report (chroma s) (chroma s) «V» s.u s.v c.in_ok-u.ensures.job c.in_ok-v.ensures.job
    ∙ past-yv n s c.in_ok-y.ensures.report c.in_ok-u.ensures.report c.in_ok-v.ensures.report
    (c.in_ok-apart.ensures ∙ pair-report (luma s) (chroma s) U s.y s.u c.in_ok-y.ensures.job c.in_ok-u.ensures.job)
    (c.in_ok-apart-2.ensures ∙ pair-report (luma s) (chroma s) «V» s.y s.v c.in_ok-y.ensures.job c.in_ok-v.ensures.job)
