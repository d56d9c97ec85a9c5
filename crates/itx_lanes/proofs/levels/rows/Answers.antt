-- `itx_lanes::levels::rows` meets its contract: lane after lane, stretch after stretch. Assumes nothing.
use Rattle.itx_lanes.proofs.Steps.{then}
use Rattle.itx_lanes.proofs.Passes.{passed_none, passed-lane}
use Rattle.itx_lanes.proofs.levels.rows.Goals as goal

pub loop-j-init : goal.loop-j-init
loop-j-init g c = let a = c.requires.1.0 in passed_none (λ i h. record { part = a.part i h; narrow = a.narrow i h })

pub loop-j-preserved : goal.loop-j-preserved
loop-j-preserved g c =
    passed-lane c.requires.1.0.level c.loop-j.invariant c.loop-j-test.true c.pick.ensures
    (then c.places.ensures
    (then c.places-in-loop-j.ensures
    (then c.places-in-loop-j-2.ensures
    (then c.places-in-loop-j-3.ensures
    (then c.places-in-loop-j-4.ensures
    (then c.places-in-loop-j-5.ensures
    (then c.places-in-loop-j-6.ensures
    c.places-in-loop-j-7.ensures)))))))
