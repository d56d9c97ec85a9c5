-- `satd_tiles::passes::column_pass` meets its contract. The invariant: the columns passed are filled with the rows' coefficients. Assumes nothing.
use Rattle.std.proofs.Common.{ℤ, pos}
use Rattle.satd_tiles.specs.Passes.{entry, line}
use Rattle.satd_tiles.proofs.Columns.{Columns}
use Rattle.satd_tiles.proofs.passes.column_pass.Given as goal

abbrev pub invariant-loop-j : goal.invariant-loop-j
invariant-loop-j g l = Columns ℤ (pos 0) g.row.N (λ b i. line g.row.N (entry l.m i) b) l.out l.j
