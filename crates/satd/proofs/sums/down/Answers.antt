-- `satd::sums::down` meets its contract. Assumes nothing.
use Rattle.std.proofs.Common.{◌≡◌, ◌+◌, ◌*◌, ◌/◌, ◌≤◌, arith}
use native.Mathlib.Nat.{mul-le-mul_right}
use Rattle.integers.specs.Sum.{sum_n}
use Rattle.integers.proofs.Loop.{summed-start, summed-step, summed-end, summed-next}
use Rattle.evc.specs.Tiles.{tile_number, tile, satd_total}
use Rattle.block_rows.specs.Small.{Tested, apart_from}
use Rattle.satd.proofs.Tiling.{tiles-most, tile-ends, side-count}
use Rattle.satd.proofs.sums.Standing.{packed-rows, tiles-are, side-some}
use Rattle.satd.proofs.sums.down.Given.{Over}
use Rattle.satd.proofs.sums.down.Goals.{After-across-sum, In-loop-v}
use Rattle.satd.proofs.sums.down.Goals as goal

pub loop-v-init : goal.loop-v-init
loop-v-init g c = summed-start

-- the row of tiles stands inside both blocks
ends : (g : Over) (c : In-loop-v g) → c.loop-v.v * g.row.N + g.row.N ≤ c.args.h
ends g c = tile-ends g.row.N c.args.h c.loop-v.v c.loop-v-test.true

stands :
    (g : Over) (c : In-loop-v g) →
    let a = c.args in
    let y = c.loop-v.v * g.row.N in Tested a.w g.row.N a.a.now (a.a_at + y * a.a_stride) a.a_stride a.b.now (y * a.w) a.w
stands g c = packed-rows c.requires (c.loop-v.v * g.row.N) g.row.N (side-some g.met.T.Tile.side) (ends g c)

pub across-sum-requires : goal.across-sum-requires
across-sum-requires g c = stands g c

-- the row's numbers
numbers :
    (g : Over) (c : After-across-sum g) →
    let a = c.args in
    c.across-sum.result
    ≡ sum_n (a.w / g.row.N) (λ u. tile_number g.row.N (tile g.row.N (apart_from a.a.now a.a_at a.a_stride a.b.now 0 a.w) c.loop-v.v u))
numbers g c =
    let a = c.args in
    tiles-are g.row.N a.a.now a.a_at a.a_stride a.b.now a.w c.loop-v.v (a.w / g.row.N) c.across-sum.result c.across-sum.ensures

pub overflow_add-sum : goal.overflow_add-sum
overflow_add-sum g c =
    let s = g.met.T.Tile.side in
    let f = mul-le-mul_right 4294705152 (side-count g.row.N c.args.h c.requires.blocks.low) in
    omega (arith, summed-next 4294705152 c.loop-v.invariant c.loop-v-test.true (numbers g c) (λ v p. tiles-most c.requires s v p), f)

pub loop-v-preserved : goal.loop-v-preserved
loop-v-preserved g c = summed-step c.loop-v.invariant c.loop-v-test.true (numbers g c)

pub returns : goal.returns
unfolding satd_total
returns g c = summed-end c.loop-v.invariant c.loop-v-test.false
