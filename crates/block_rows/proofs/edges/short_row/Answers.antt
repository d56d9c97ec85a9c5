-- `block_rows::edges::short_row` meets its contract. Assumes nothing.
use mathlib.Core.Path.{refl, ap, ◌∙◌}
use Prim.Native.Nat.{ℕ}
use native.Mathlib.Omega.{arith}
use lib.IntN.{ℤ, pos, ◌+ℤ◌}
use lib.ListN.{length, get_or}
use mir.Facts.{to_z-of_z}
use Rattle.integers.specs.Lists.{tab}
use Rattle.integers.proofs.Loop.{filled-start, filled-step, filled-end}
use Rattle.evc.specs.Planes.{edge}
use Rattle.block_rows.proofs.edges.short_row.Goals as goal

pub loop-i-init : goal.loop-i-init
loop-i-init c = filled-start refl

pub overflow_cast-i : goal.overflow_cast-i
overflow_cast-i c = omega (arith, c.requires)

pub edge-requires : goal.edge-requires
edge-requires c = tt

pub sample-requires : goal.sample-requires
sample-requires c = tt

pub offset_bounds-out-i : goal.offset_bounds-out-i
offset_bounds-out-i c = omega (arith, c.well_formed)

pub bounds-out-i : goal.bounds-out-i
bounds-out-i c = omega (arith, c.loop-i.invariant.long)

pub overflow_step-i : goal.overflow_step-i
overflow_step-i c = omega arith

pub loop-i-smaller : goal.loop-i-smaller
loop-i-smaller c = omega arith

pub loop-i-preserved : goal.loop-i-preserved
loop-i-preserved c =
    let a = c.args in
    filled-step c.loop-i.invariant (omega arith) (c.sample.ensures ∙ ap (λ (n : ℕ). get_or a.row.now n 0) c.edge.ensures)

pub shape_of-out : goal.shape_of-out
shape_of-out c = c.loop-i.invariant.long

pub returns : goal.returns
returns c =
    let a = c.args in
    filled-end c.loop-i.invariant (omega arith) ∙ ap (λ (z : ℤ). tab (length a.out.now) (λ i. get_or a.row.now (edge (z +ℤ pos i)) 0)) (to_z-of_z c.ranges.x)
