-- `block_rows::edges::short_row` meets its contract. Assumes nothing.
use Prim.Native.Nat.{ℕ, ◌-◌}
use lib.IntN.{pos, ◌+ℤ◌}
use lib.ListN.{length, get_or}
use Rattle.integers.proofs.Loop.{Filled}
use Rattle.evc.specs.Planes.{edge}
use Rattle.block_rows.proofs.edges.short_row.Given as goal

abbrev pub invariant-loop-i : goal.invariant-loop-i
invariant-loop-i l = Filled ℕ 0 (length l.initial.out) (λ k. get_or l.row (edge (l.x +ℤ pos k)) 0) l.out l.i

abbrev pub decreases-loop-i : goal.decreases-loop-i
decreases-loop-i l = l.i-end - l.i
