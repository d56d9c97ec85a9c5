-- `itx_lines::line::odd_sum` meets its contract: the sum so far is the odd half of so many terms. Assumes nothing.
use mathlib.Core.Path.{◌≡◌}
use Prim.Native.Nat.{◌-◌, ◌≤◌}
use Rattle.itx_halving.specs.Line.{rows, line, odd}
use Rattle.itx_lines.proofs.line.odd_sum.Given as goal

abbrev pub invariant-loop-k : goal.invariant-loop-k
invariant-loop-k l = (l.k ≤ l.m) × (l.sum ≡ odd (rows l.t l.w) l.q l.k l.n (line l.x))

abbrev pub decreases-loop-k : goal.decreases-loop-k
decreases-loop-k l = l.m - l.k
