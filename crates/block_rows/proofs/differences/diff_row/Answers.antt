-- `block_rows::differences::diff_row` meets its contract. Assumes nothing.
use mathlib.Core.Path.{refl, ap₂, ◌∙◌}
use Prim.Native.Nat.{ℕ}
use native.Mathlib.Omega.{arith}
use lib.IntN.{pos, ◌-ℤ◌}
use mir.Syntax.{w16}
use Rattle.integers.proofs.Bits.{back}
use Rattle.integers.proofs.Loop.{filled-start, filled-step, filled-end}
use Rattle.block_rows.specs.Small.{wrapped}
use Rattle.block_rows.proofs.differences.diff_row.Goals as goal

pub loop-i-init : goal.loop-i-init
loop-i-init c = filled-start refl

pub sample-requires : goal.sample-requires
sample-requires c = tt

pub sample-requires-in-loop-i : goal.sample-requires-in-loop-i
sample-requires-in-loop-i c = tt

pub minus-requires : goal.minus-requires
minus-requires c = tt

pub offset_bounds-out-i : goal.offset_bounds-out-i
offset_bounds-out-i c = omega arith

pub bounds-out-i : goal.bounds-out-i
bounds-out-i c = omega (arith, c.loop-i.invariant.long)

pub overflow_step-i : goal.overflow_step-i
overflow_step-i c = omega arith

pub loop-i-smaller : goal.loop-i-smaller
loop-i-smaller c = omega arith

pub loop-i-preserved : goal.loop-i-preserved
loop-i-preserved c =
    filled-step c.loop-i.invariant (omega arith)
    (back w16 c.minus.result c.minus.type_inv ∙ c.minus.ensures
    ∙ ap₂ (λ (p q : ℕ). wrapped (pos p -ℤ pos q)) c.sample.ensures c.sample-in-loop-i.ensures)

pub shape_of-out : goal.shape_of-out
shape_of-out c = c.loop-i.invariant.long

pub returns : goal.returns
returns c = filled-end c.loop-i.invariant (omega arith)
