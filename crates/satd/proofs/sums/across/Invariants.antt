-- `satd::sums::across` meets its contract. Assumes nothing.
use Prim.Native.Nat.{◌/◌}
use Rattle.integers.specs.Sum.{addition_n+}
use Rattle.integers.proofs.Loop.{Summed}
use Rattle.evc.specs.Tiles.{tile_number, tile}
use Rattle.block_rows.specs.Small.{apart_from}
use Rattle.satd.proofs.sums.across.Given as goal

abbrev pub invariant-loop-u : goal.invariant-loop-u
invariant-loop-u g l =
    Summed addition_n+ (l.w / g.row.N) (λ u. tile_number g.row.N (tile g.row.N (apart_from l.a l.a_at l.a_stride l.b l.b_at l.w) 0 u)) l.sum l.u
