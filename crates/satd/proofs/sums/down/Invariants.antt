-- `satd::sums::down` meets its contract. Assumes nothing.
use Prim.Native.Nat.{◌/◌}
use Rattle.integers.specs.Sum.{addition_n+, sum_n}
use Rattle.integers.proofs.Loop.{Summed}
use Rattle.evc.specs.Tiles.{tile_number, tile}
use Rattle.block_rows.specs.Small.{apart_from}
use Rattle.satd.proofs.sums.down.Given as goal

abbrev pub invariant-loop-v : goal.invariant-loop-v
invariant-loop-v g l =
    Summed addition_n+ (l.h / g.row.N) (λ v. sum_n (l.w / g.row.N) (λ u. tile_number g.row.N (tile g.row.N (apart_from l.a l.a_at l.a_stride l.b 0 l.w) v u))) l.sum l.v
