-- `satd_tiles::passes::column` meets its contract. The invariant: the numbers passed are filled in. Assumes nothing.
use Rattle.std.proofs.Common.{ℤ, pos}
use Rattle.integers.proofs.Loop.{Filled}
use Rattle.satd_tiles.specs.Passes.{entry}
use Rattle.satd_tiles.proofs.passes.column.Given as goal

abbrev pub invariant-loop-j : goal.invariant-loop-j
invariant-loop-j g l = Filled ℤ (pos 0) g.row.N (λ j. entry l.m j l.i) l.x l.j
