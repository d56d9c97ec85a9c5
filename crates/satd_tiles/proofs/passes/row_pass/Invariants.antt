-- `satd_tiles::passes::row_pass` meets its contract. The invariant: the columns passed are filled with the columns' coefficients. Assumes nothing.
use Rattle.std.proofs.Common.{ℤ, pos}
use Rattle.satd_tiles.specs.Passes.{entry, line}
use Rattle.satd_tiles.proofs.Columns.{Columns}
use Rattle.satd_tiles.proofs.passes.row_pass.Given as goal

abbrev pub invariant-loop-i : goal.invariant-loop-i
invariant-loop-i g l = Columns ℤ (pos 0) g.row.N (λ b i. line g.row.N (λ k. entry l.block k i) b) l.out l.i
