-- `job_tests::components::luma_job` meets its contract. Assumes nothing.
use borrow.Author.Rules.{rules}
use mathlib.Core.Path.{◌≡◌}
use mir.Syntax.{w32}
use mir.Val.{to_z, of_z}
use Rattle.job_tests.proofs.components.luma_job.Goals as goal

pub returns : goal.returns
returns c =
    let call = c.args.call in
    let off : to_z w32 (of_z w32 call.offset) ≡ call.offset = search rules in
    rw off at c.job_of.ensures
