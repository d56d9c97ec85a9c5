-- `satd_tiles::passes::widened` meets its contract. The invariant: the rows passed are filled in. Assumes nothing.
use Rattle.std.proofs.Common.{ℤ, List, []}
use Rattle.integers.specs.Lists.{tab}
use Rattle.integers.proofs.Loop.{Filled}
use Rattle.satd_tiles.specs.Passes.{entry}
use Rattle.satd_tiles.proofs.passes.widened.Given as goal

abbrev pub invariant-loop-j : goal.invariant-loop-j
invariant-loop-j g l = Filled (List ℤ) [] g.row.N (λ j. tab g.row.N (entry l.diff j)) l.out l.j
