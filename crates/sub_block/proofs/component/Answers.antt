-- `sub_block::component` meets its contract, as `evc_itdq_job` does from where its tests have passed. Assumes nothing.
use mathlib.Core.Path.{◌≡◌}
use native.Mathlib.Omega.{arith}
use lib.ListN.{length}
use Rattle.evc.specs.Jobs.{job_number}
use Rattle.job_area.proofs.Areas.{logs-sum, area-inside, lent-done}
use Rattle.sub_block.proofs.component.Goals.{In-Some}
use Rattle.sub_block.proofs.component.Goals as goal

passed : (c : In-Some) → job_number (length c.args.coef.now) c.in-Some.job ≡ 0
passed c = rw c.in-Some.is at c.requires

pub overflow_add-end : goal.overflow_add-end
overflow_add-end c = omega (arith, logs-sum c.args.coef.now c.in-Some.job (passed (goal.at.overflow_add-end c).In-Some))

pub overflow_shl-end : goal.overflow_shl-end
overflow_shl-end c = omega (arith, logs-sum c.args.coef.now c.in-Some.job (passed (goal.at.overflow_shl-end c).In-Some))

pub overflow_add-end-in-Some : goal.overflow_add-end-in-Some
overflow_add-end-in-Some c = omega (arith, area-inside c.args.coef.now c.in-Some.job (passed (goal.at.overflow_add-end-in-Some c).In-Some), c.well_formed)

pub offset_bounds-coef-start : goal.offset_bounds-coef-start
offset_bounds-coef-start c = omega (arith, area-inside c.args.coef.now c.in-Some.job (passed (goal.at.offset_bounds-coef-start c).In-Some), c.well_formed)

pub slice_bounds-itdq-end : goal.slice_bounds-itdq-end
slice_bounds-itdq-end c = area-inside c.args.coef.now c.in-Some.job (passed (goal.at.slice_bounds-itdq-end c).In-Some)

pub returns-in-Some : goal.returns-in-Some
returns-in-Some c = rw c.in-Some.is (lent-done c.args.coef.now c.in-Some.job (passed (goal.at.returns-in-Some c).In-Some) _ c.itdq.ensures)
