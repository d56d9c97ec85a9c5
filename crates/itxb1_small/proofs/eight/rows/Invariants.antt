-- `itxb1_small::eight::rows` meets its contract: line after line, summed with document 01's table, and kept. Assumes nothing.
use Prim.Native.Nat.{◌+◌, ◌*◌, ◌-◌}
use Rattle.itx_halving.proofs.Lines.{Upto}
use Rattle.itxb1_small.specs.Groups.{quotient_at}
use Rattle.itxb1_small.proofs.eight.rows.Given as goal

abbrev pub invariant-loop-j : goal.invariant-loop-j
invariant-loop-j l = Upto (λ i. quotient_at l.l l.r.shift l.src (l.j0 * 8 + i)) 8 l.m l.initial.z l.z l.j

abbrev pub decreases-loop-j : goal.decreases-loop-j
decreases-loop-j l = l.m - l.j
