-- `itx_lines::gather::gather_i16` meets its contract: input after input. Assumes nothing.
use Prim.Native.Nat.{◌-◌, ◌≤◌}
use Rattle.itx_halving.specs.Lines.{Gathered}
use Rattle.itx_lines.proofs.gather.gather_i16.Given as goal

abbrev pub invariant-loop-k : goal.invariant-loop-k
invariant-loop-k l = (l.k ≤ l.n) × Gathered l.x l.src l.n l.k l.l l.j

abbrev pub decreases-loop-k : goal.decreases-loop-k
decreases-loop-k l = l.n - l.k
