-- `satd_tiles::passes::row` meets its contract. The invariant: the numbers passed are filled in. Assumes nothing.
use Rattle.std.proofs.Common.{ℤ, pos}
use Rattle.integers.proofs.Loop.{Filled}
use Rattle.satd_tiles.specs.Passes.{entry}
use Rattle.satd_tiles.proofs.passes.row.Given as goal

abbrev pub invariant-loop-i : goal.invariant-loop-i
invariant-loop-i g l = Filled ℤ (pos 0) g.row.N (entry l.m l.j) l.x l.i
