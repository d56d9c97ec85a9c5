-- `itx_lines::line::half64` meets its contract: level after level. Assumes nothing.
use mathlib.Core.Path.{sym, ◌∙◌}
use native.Mathlib.Omega.{arith}
use Rattle.itx_halving.proofs.Step.{begin, up, all}
use Rattle.itx_lines.proofs.line.half64.Goals as goal

pub steps-requires : goal.steps-requires
steps-requires c = (begin 16 c.start.ensures (omega arith), (omega arith, omega arith))

pub steps-requires-2 : goal.steps-requires-2
steps-requires-2 c = (up 8 c.steps.ensures (omega arith), (omega arith, omega arith))

pub steps-requires-3 : goal.steps-requires-3
steps-requires-3 c = (up 4 c.steps-2.ensures (omega arith), (omega arith, omega arith))

pub steps-requires-4 : goal.steps-requires-4
steps-requires-4 c = (c.steps-3.ensures, (omega arith, omega arith))

pub steps-requires-5 : goal.steps-requires-5
steps-requires-5 c = (up 2 c.steps-4.ensures (omega arith), (omega arith, omega arith))

pub steps-requires-6 : goal.steps-requires-6
steps-requires-6 c = (c.steps-5.ensures, (omega arith, omega arith))

pub steps-requires-7 : goal.steps-requires-7
steps-requires-7 c = (c.steps-6.ensures, (omega arith, omega arith))

pub steps-requires-8 : goal.steps-requires-8
steps-requires-8 c = (c.steps-7.ensures, (omega arith, omega arith))

pub shape_of-e : goal.shape_of-e
shape_of-e c =
    c.steps-8.ensures.part.long ∙ sym c.requires.1

pub returns : goal.returns
returns c = all c.steps-8.ensures.part
