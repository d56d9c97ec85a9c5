-- `satd_tiles::had::sum` meets its contract. The invariant: the sum is that of the rows passed. Assumes nothing.
use Rattle.std.proofs.Common.{get_or, []}
use Rattle.integers.specs.Sum.{addition_n+}
use Rattle.integers.proofs.Loop.{Summed}
use Rattle.satd_tiles.specs.Passes.{row_sizes}
use Rattle.satd_tiles.proofs.had.sum.Given as goal

abbrev pub invariant-loop-row : goal.invariant-loop-row
invariant-loop-row g l = Summed addition_n+ g.row.N (λ k. row_sizes g.row.N (get_or l.m k [])) l.s l.row-index
