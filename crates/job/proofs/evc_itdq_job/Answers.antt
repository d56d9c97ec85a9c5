-- `job::evc_itdq_job` meets its contract: an accepted job's area is inside the buffer, and lent whole. Assumes nothing.
use mathlib.Core.Path.{◌≡◌, sym}
use native.Mathlib.Omega.{arith}
use lib.ListN.{length}
use Rattle.evc.specs.Jobs.{job_number}
use Rattle.evc.proofs.AnyOrder.{refused-unchanged}
use Rattle.evc.proofs.Tests.{number-some}
use Rattle.job_area.proofs.Areas.{logs-sum, area-inside, lent-done}
use Rattle.job.proofs.evc_itdq_job.Goals as goal

pub returns-in_err-of_job-clause-exit : goal.returns-in_err-of_job-clause-exit
returns-in_err-of_job-clause-exit c =
    let e = c.in_err-of_job.ensures in
    sym (refused-unchanged c.args.coef.now c.args.job (λ z. omega (arith, e, number-some c.in_err-of_job.field-0.0)))

-- ---- where the tests have passed
pub overflow_add-end : goal.overflow_add-end
overflow_add-end c = omega (arith, logs-sum c.args.coef.now c.args.job (sym c.in_ok-of_job.ensures))

pub overflow_shl-end : goal.overflow_shl-end
overflow_shl-end c = omega (arith, logs-sum c.args.coef.now c.args.job (sym c.in_ok-of_job.ensures))

pub overflow_add-end-2 : goal.overflow_add-end-2
overflow_add-end-2 c = omega (arith, area-inside c.args.coef.now c.args.job (sym c.in_ok-of_job.ensures), c.well_formed)

pub offset_bounds-coef-start : goal.offset_bounds-coef-start
offset_bounds-coef-start c = omega (arith, area-inside c.args.coef.now c.args.job (sym c.in_ok-of_job.ensures), c.well_formed)

pub slice_bounds-itdq-end : goal.slice_bounds-itdq-end
slice_bounds-itdq-end c = area-inside c.args.coef.now c.args.job (sym c.in_ok-of_job.ensures)

pub returns-clause-exit : goal.returns-clause-exit
returns-clause-exit c = lent-done c.args.coef.now c.args.job (sym c.in_ok-of_job.ensures) _ c.itdq.ensures
