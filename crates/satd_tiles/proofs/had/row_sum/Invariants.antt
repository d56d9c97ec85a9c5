-- `satd_tiles::had::row_sum` meets its contract. The invariant: the sum is that of the sizes passed. Assumes nothing.
use Rattle.std.proofs.Common.{nat_abs}
use Rattle.integers.specs.Sum.{addition_n+}
use Rattle.integers.proofs.Loop.{Summed}
use Rattle.satd_tiles.specs.Passes.{place}
use Rattle.satd_tiles.proofs.had.row_sum.Given as goal

abbrev pub invariant-loop-x : goal.invariant-loop-x
invariant-loop-x g l = Summed addition_n+ g.row.N (λ k. nat_abs (place l.row k)) l.s l.x-index
