-- `itxb1_small::stage_two::rows` meets its contract: line after line, summed with document 01's table, and stored. Assumes nothing.
use Prim.Native.Nat.{◌-◌}
use Rattle.evc.specs.Table.{tm}
use Rattle.evc.specs.Stages.{stage_two_at}
use Rattle.itx_halving.proofs.Lines.{Upto}
use Rattle.itxb1_small.proofs.stage_two.rows.Given as goal

abbrev pub invariant-loop-j : goal.invariant-loop-j
invariant-loop-j g l = let n = g.row.N in Upto (stage_two_at (tm n) n l.l l.r.shift l.src) n l.l l.initial.dst l.dst l.j

abbrev pub decreases-loop-j : goal.decreases-loop-j
decreases-loop-j g l = l.l - l.j
