-- `itx_lines::gather::gather_i32` meets its contract: input after input. Assumes nothing.
use Prim.Native.Nat.{◌-◌, ◌≤◌}
use Rattle.itx_halving.specs.Lines.{Gathered}
use Rattle.itx_lines.proofs.gather.gather_i32.Given as goal

abbrev pub invariant-loop-i : goal.invariant-loop-i
invariant-loop-i l = (l.i ≤ l.n) × Gathered l.x l.src l.n l.i l.l l.j

abbrev pub decreases-loop-i : goal.decreases-loop-i
decreases-loop-i l = l.n - l.i
