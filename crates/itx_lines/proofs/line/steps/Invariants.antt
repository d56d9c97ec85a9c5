-- `itx_lines::line::steps` meets its contract: place after place. Assumes nothing.
use Prim.Native.Nat.{◌-◌, ◌≤◌}
use Rattle.itx_halving.specs.Line.{Steps}
use Rattle.itx_lines.proofs.line.steps.Given as goal

abbrev pub invariant-loop-n : goal.invariant-loop-n
invariant-loop-n l = (l.n ≤ l.b) × Steps l.t l.w l.x l.e l.m l.q l.n

abbrev pub decreases-loop-n : goal.decreases-loop-n
decreases-loop-n l = l.b - l.n
