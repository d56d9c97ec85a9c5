-- `satd::tiles::number` meets its contract. Assumes nothing.
use mathlib.Core.List.{List, []}
use lib.IntN.{ℤ}
use Rattle.integers.specs.Lists.{tab}
use Rattle.integers.proofs.Loop.{Filled}
use Rattle.block_rows.specs.Small.{apart_from}
use Rattle.satd.proofs.tiles.number.Given as goal

abbrev pub invariant-loop-j : goal.invariant-loop-j
invariant-loop-j g l = Filled (List ℤ) [] g.row.N (λ j. tab g.row.N (apart_from l.a l.a_at l.a_stride l.b l.b_at l.b_stride j)) l.out l.j
