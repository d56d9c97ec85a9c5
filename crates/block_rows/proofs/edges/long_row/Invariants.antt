-- `block_rows::edges::long_row` meets its contract: while a position is negative it reads at 0, and then one place further each time. Assumes nothing.
use Prim.Native.Nat.{ℕ, ◌-◌, ◌≤◌}
use Rattle.integers.proofs.Loop.{Filled}
use Rattle.block_rows.specs.Edges.{row_at_edge}
use Rattle.block_rows.proofs.edges.long_row.Given as goal

abbrev pub invariant-loop-i : goal.invariant-loop-i
invariant-loop-i l = Filled ℕ 0 l.w (row_at_edge l.row l.x) l.out l.i × (l.i ≤ l.n)

abbrev pub invariant-loop-i-2 : goal.invariant-loop-i-2
invariant-loop-i-2 l = Filled ℕ 0 l.w (row_at_edge l.row l.x) l.out l.i × (l.n ≤ l.i) × (l.i ≤ l.m)

abbrev pub invariant-loop-i-3 : goal.invariant-loop-i-3
invariant-loop-i-3 l = Filled ℕ 0 l.w (row_at_edge l.row l.x) l.out l.i × (l.m ≤ l.i)
