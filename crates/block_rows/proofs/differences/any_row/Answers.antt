-- `block_rows::differences::any_row` meets its contract. Assumes nothing.
use mathlib.Core.Path.{ap}
use native.Mathlib.Omega.{arith}
use lib.Bits.{bit_or}
use lib.ListN.{get_or}
use Rattle.integers.proofs.Loop.{summed-start, summed-step, summed-end}
use Rattle.block_rows.proofs.differences.any_row.Goals as goal

pub loop-i-init : goal.loop-i-init
loop-i-init c = summed-start

pub offset_bounds-a-i : goal.offset_bounds-a-i
offset_bounds-a-i c = omega arith

pub bounds-a-i : goal.bounds-a-i
bounds-a-i c = omega arith

pub sample-requires : goal.sample-requires
sample-requires c = tt

pub overflow_step-i : goal.overflow_step-i
overflow_step-i c = omega arith

pub loop-i-smaller : goal.loop-i-smaller
loop-i-smaller c = omega arith

pub loop-i-preserved : goal.loop-i-preserved
loop-i-preserved c =
    let a = c.args in
    summed-step c.loop-i.invariant c.loop-i-test.true (ap (bit_or (get_or a.a.now c.loop-i.i 0)) c.sample.ensures)

pub returns : goal.returns
returns c = summed-end c.loop-i.invariant (omega arith)
