-- `itxb1_blocks::tail::offsets` meets its contract: place after place. Assumes nothing.
use lib.ListN.{get_or}
use lib.IntN.{ℤ, pos, ◌+ℤ◌}
use Rattle.integers.proofs.Loop.{Filled}
use Rattle.itxb1_blocks.proofs.tail.offsets.Given as goal

abbrev pub invariant-loop-k : goal.invariant-loop-k
invariant-loop-k g l = Filled ℤ (pos 0) g.row.N (λ i. get_or l.col i (pos 0) +ℤ l.add) l.c l.k
