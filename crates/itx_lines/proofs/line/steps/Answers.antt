-- `itx_lines::line::steps` meets its contract: place after place. Assumes nothing.
use mathlib.Core.Path.{◌≡◌, sym, ◌∙◌}
use native.Mathlib.Omega.{arith}
use Rattle.itx_halving.proofs.Bounds.{half-size}
use Rattle.itx_lines.proofs.line.steps.Goals as goal

pub loop-n-init : goal.loop-n-init
loop-n-init c = (c.requires.1.0, c.requires.0)

pub step-requires : goal.step-requires
step-requires c =
    (c.loop-n.invariant.1, omega (arith, c.requires.1.1, c.loop-n-test.true))

pub overflow_step-n : goal.overflow_step-n
overflow_step-n c = omega (arith, c.requires.1.1, half-size c.requires.0.level)

pub loop-n-smaller : goal.loop-n-smaller
loop-n-smaller c = omega arith

pub loop-n-preserved : goal.loop-n-preserved
loop-n-preserved c = (omega arith, c.step.ensures)

pub shape_of-e : goal.shape_of-e
shape_of-e c = c.loop-n.invariant.1.part.long ∙ sym c.requires.0.part.long

pub returns : goal.returns
returns c =
    let e : c.loop-n.n ≡ c.args.b = omega (arith, c.loop-n.invariant.0, c.loop-n-test.false) in rw e at c.loop-n.invariant.1
