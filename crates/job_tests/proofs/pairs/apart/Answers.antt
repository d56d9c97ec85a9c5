-- `job_tests::pairs::apart` meets its contract. Assumes nothing.
use mathlib.Core.Path.{◌≡◌, sym, ◌∙◌}
use mathlib.Core.Bool.{true}
use Rattle.order.specs.Positions.{shared}
use Rattle.evc.specs.Jobs.{area}
use Rattle.evc.specs.SubBlocks.{is_some}
use Rattle.job_tests.proofs.pairs.Overlaps.{lowest-shared}
use Rattle.job_tests.proofs.pairs.apart.Goals as goal

pub returns-then-meet : goal.returns-then-meet
returns-then-meet c =
    let j = c.in-Some-Some.j.job in
    let k = c.in-Some-Some.k.job in
    let m : is_some (shared (area j) (area k)) ≡ true = sym c.meet.ensures ∙ c.if-meet.true in
    rw (c.in-Some-Some.is-0, c.in-Some-Some.is-1, c.max.ensures, m, lowest-shared j k m)
