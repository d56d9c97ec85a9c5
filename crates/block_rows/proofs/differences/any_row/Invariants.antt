-- `block_rows::differences::any_row` meets its contract. Assumes nothing.
use Prim.Native.Nat.{◌-◌}
use lib.Bits.{bit_or}
use lib.ListN.{length, get_or}
use Rattle.integers.specs.Or.{addition_or}
use Rattle.integers.proofs.Loop.{Summed}
use Rattle.block_rows.proofs.differences.any_row.Given as goal

abbrev pub invariant-loop-i : goal.invariant-loop-i
invariant-loop-i l = Summed addition_or (length l.a) (λ k. bit_or (get_or l.a k 0) (get_or l.b k 0)) l.any l.i

abbrev pub decreases-loop-i : goal.decreases-loop-i
decreases-loop-i l = l.i-end - l.i
