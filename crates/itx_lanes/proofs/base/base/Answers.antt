-- `itx_lanes::base::base` meets its contract: lane after lane, from nothing to size 8. Assumes nothing.
use mathlib.Core.Path.{refl}
use Prim.Native.Nat.{◌≤◌}
use native.Mathlib.Omega.{arith}
use lib.Dec.{lit≤}
use lib.ListN.{length}
use Rattle.itx_halving.proofs.Step.{all}
use Rattle.itx_lanes.proofs.AsLine.{lane-length, kept_then}
use Rattle.itx_lanes.proofs.Bounds.{finer}
use Rattle.itx_lanes.proofs.Steps.{size-four}
use Rattle.itx_lanes.proofs.Passes.{passed_none, passed-more}
use Rattle.itx_lanes.proofs.base.base.Goals.{After-places-arg-1}
use Rattle.itx_lanes.proofs.base.base.Goals as goal

-- room for size 8
room : (c : After-places-arg-1) → 256 ≤ length c.lane2.new.e
room c = omega (arith, c.loop-j.invariant.long, c.lane2.ensures.kept.long, c.requires)

pub loop-j-init : goal.loop-j-init
loop-j-init c = passed_none (λ i h. lane-length c.args.e.now i)

pub places-requires-in-loop-j : goal.places-requires-in-loop-j
places-requires-in-loop-j c = (
  record {
    table = c.table-all.ensures;
    block = c.args.s.now;
    given =
        record {
          lane = (size-four c.lane2.ensures.lane c.pick.ensures c.places.ensures (room (goal.at.places-requires-in-loop-j c).After-places-arg-1)).lane;
          picks = c.pick-in-loop-j.ensures;
        };
  },
  (lit≤ tt, lit≤ tt),
)

pub loop-j-preserved : goal.loop-j-preserved
loop-j-preserved c =
    let u = c.lane2.ensures in
    let v = size-four u.lane c.pick.ensures c.places.ensures (room (goal.at.loop-j-preserved c).After-places-arg-1) in
    let w = c.places-in-loop-j.ensures.done _ (record { lane = v.lane; picks = c.pick-in-loop-j.ensures }) in
    passed-more c.loop-j.invariant w.lane.among (kept_then u.kept (kept_then v.kept w.kept))
    (record { part = w.lane.part; narrow = finer c.pick-in-loop-j.ensures refl w.lane.narrow })

pub returns : goal.returns
returns c =
    record {
      sums = λ i h. all (c.loop-j.invariant.done i (omega arith)).part;
      narrow = λ i h. (c.loop-j.invariant.done i (omega arith)).narrow;
    }
