-- `itx_lines::line::line16` meets its contract: level after level. Assumes nothing.
use native.Mathlib.Omega.{arith}
use Rattle.itx_halving.proofs.Step.{begin, up, all}
use Rattle.itx_lines.proofs.line.line16.Goals as goal

pub steps-requires : goal.steps-requires
steps-requires c = (begin 4 c.start.ensures (omega arith), (omega arith, omega arith))

pub steps-requires-2 : goal.steps-requires-2
steps-requires-2 c = (up 2 c.steps.ensures (omega arith), (omega arith, omega arith))

pub steps-requires-3 : goal.steps-requires-3
steps-requires-3 c = (up 1 c.steps-2.ensures (omega arith), (omega arith, omega arith))

pub steps-requires-4 : goal.steps-requires-4
steps-requires-4 c = (c.steps-3.ensures, (omega arith, omega arith))

pub returns : goal.returns
returns c = all c.steps-4.ensures.part
