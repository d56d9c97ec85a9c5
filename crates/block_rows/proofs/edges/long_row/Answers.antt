-- `block_rows::edges::long_row` meets its contract: while a position is negative it reads at 0, and then one place further each time. Assumes nothing.
use mathlib.Core.Path.{◌≡◌, refl, ◌∙◌}
use Prim.Native.Nat.{◌+◌, ◌-◌, ◌≤◌, ◌<◌}
use native.Mathlib.Omega.{arith}
use lib.ListN.{length}
use mir.Syntax.{w16}
use mir.Val.{to_z, of_z}
use mir.Facts.{to_z-of_z}
use Rattle.integers.proofs.Loop.{filled-start, filled-step, filled-end}
use Rattle.block_rows.proofs.edges.Reading.{Runs, head_at, run_in, run_at, past-at}
use Rattle.block_rows.proofs.edges.long_row.Goals.{After-sample-head, In-loop-i-2}
use Rattle.block_rows.proofs.edges.long_row.Goals as goal

-- the three runs, at this call's numbers
runs :
    (c : After-sample-head) →
    let b = c in
    let a = b.args in
    Runs a.row.now (to_z w16 (of_z w16 a.x)) (length a.out.now) b.edge-up.result b.min-n.result c.min.result
runs c =
    let b = c in
    record {
      down = rw b.below.ensures.0 at b.min-n.ensures;
      first = b.edge-up.ensures;
      rest = rw c.saturating_sub.ensures at c.min.ensures;
    }

short :
    (c : After-sample-head) →
    c.min-n.result + c.min.result ≤ length c.args.out.now
short c = omega (arith, c.min-n.ensures, c.min.ensures)

inside :
    (c : In-loop-i-2) →
    c.edge-up.result + (c.loop-i-2.i - c.min-n.result) < length c.args.row.now
inside c = run_in (runs (goal.at.overflow_sub-out c).After-sample-head) c.loop-i-2.i c.loop-i-2.invariant.1 c.loop-i-2-test.true

pub overflow_sub-w : goal.overflow_sub-w
overflow_sub-w c = omega (arith, c.min-n.ensures)

pub overflow_add-m : goal.overflow_add-m
overflow_add-m c = omega (arith, c.min-n.ensures, c.min.ensures, c.well_formed)

pub loop-i-init : goal.loop-i-init
loop-i-init c = (filled-start refl, omega arith)

pub bounds-out-i : goal.bounds-out-i
bounds-out-i c = omega (arith, c.loop-i.invariant.0.long, c.min-n.ensures)

pub loop-i-preserved : goal.loop-i-preserved
loop-i-preserved c =
    (filled-step c.loop-i.invariant.0 (omega (arith, c.min-n.ensures)) (c.sample-head.ensures ∙ head_at (runs (goal.at.loop-i-preserved c).After-sample-head) c.loop-i.i c.loop-i-test.true), omega arith)

pub loop-i-2-init : goal.loop-i-2-init
loop-i-2-init c =
    let e : c.loop-i.i ≡ c.min-n.result = omega (arith, c.loop-i.invariant.1) in
    (rw e at c.loop-i.invariant.0, omega arith, omega arith)

pub overflow_sub-out : goal.overflow_sub-out
overflow_sub-out c = c.loop-i-2.invariant.1

pub overflow_add-out : goal.overflow_add-out
overflow_add-out c = omega (arith, inside c, c.well_formed)

pub bounds-row-up : goal.bounds-row-up
bounds-row-up c = inside (goal.at.bounds-row-up c).In-loop-i-2

pub bounds-out-i-in-loop-i-2 : goal.bounds-out-i-in-loop-i-2
bounds-out-i-in-loop-i-2 c = omega (arith, c.loop-i-2.invariant.0.long, short (goal.at.bounds-out-i-in-loop-i-2 c).After-sample-head)

pub loop-i-2-preserved : goal.loop-i-2-preserved
loop-i-2-preserved c =
    (filled-step c.loop-i-2.invariant.0 (omega (arith, short (goal.at.loop-i-2-preserved c).After-sample-head)) (run_at (runs (goal.at.loop-i-2-preserved c).After-sample-head) c.loop-i-2.i c.loop-i-2.invariant.1 c.loop-i-2-test.true), omega arith, omega arith)

pub loop-i-3-init : goal.loop-i-3-init
loop-i-3-init c =
    let e : c.loop-i-2.i ≡ c.min-n.result + c.min.result = omega (arith, c.loop-i-2.invariant.2) in
    (rw e at c.loop-i-2.invariant.0, omega arith)

pub bounds-out-i-in-loop-i-3 : goal.bounds-out-i-in-loop-i-3
bounds-out-i-in-loop-i-3 c = omega (arith, c.loop-i-3.invariant.0.long)

pub loop-i-3-preserved : goal.loop-i-3-preserved
loop-i-3-preserved c =
    (filled-step c.loop-i-3.invariant.0 c.loop-i-3-test.true (past-at (runs (goal.at.loop-i-3-preserved c).After-sample-head) c.loop-i-3.i c.loop-i-3.invariant.1 c.loop-i-3-test.true), omega arith)

pub shape_of-out : goal.shape_of-out
shape_of-out c = c.loop-i-3.invariant.0.long

pub returns : goal.returns
returns c =
    rw (to_z-of_z c.ranges.x) at (filled-end c.loop-i-3.invariant.0 c.loop-i-3-test.false)
