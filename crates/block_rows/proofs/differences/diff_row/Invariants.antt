-- `block_rows::differences::diff_row` meets its contract. Assumes nothing.
use Prim.Native.Nat.{◌-◌}
use lib.ListN.{length, get_or}
use lib.IntN.{ℤ, pos, ◌-ℤ◌}
use Rattle.integers.proofs.Loop.{Filled}
use Rattle.block_rows.specs.Small.{wrapped}
use Rattle.block_rows.proofs.differences.diff_row.Given as goal

abbrev pub invariant-loop-i : goal.invariant-loop-i
invariant-loop-i l = Filled ℤ (pos 0) (length l.initial.out) (λ k. wrapped (pos (get_or l.a k 0) -ℤ pos (get_or l.b k 0))) l.out l.i

abbrev pub decreases-loop-i : goal.decreases-loop-i
decreases-loop-i l = l.i-end - l.i
