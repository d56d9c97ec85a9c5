-- `satd::sums::across` meets its contract. Assumes nothing.
use Rattle.std.proofs.Common.{◌≡◌, ◌+◌, ◌*◌, ◌≤◌, arith}
use native.Mathlib.Nat.{mul-le-mul_right}
use Rattle.integers.proofs.Loop.{summed-start, summed-step, summed-end, summed-next}
use Rattle.evc.specs.Tiles.{tile_number, tile}
use Rattle.block_rows.specs.Small.{Tested, apart_from}
use Rattle.satd.proofs.Tiling.{tile-most, tile-ends, side-count}
use Rattle.satd.proofs.sums.Standing.{tested-columns, tile-is, one-tile}
use Rattle.satd.proofs.sums.across.Given.{Over}
use Rattle.satd.proofs.sums.across.Goals.{After-number, In-loop-u}
use Rattle.satd.proofs.sums.across.Goals as goal

pub loop-u-init : goal.loop-u-init
loop-u-init g c = summed-start

-- the tile stands inside both blocks
ends : (g : Over) (c : In-loop-u g) → c.loop-u.u * g.row.N + g.row.N ≤ c.args.w
ends g c = tile-ends g.row.N c.args.w c.loop-u.u c.loop-u-test.true

stands :
    (g : Over) (c : In-loop-u g) →
    let a = c.args in
    let x = c.loop-u.u * g.row.N in Tested g.row.N g.row.N a.a.now (a.a_at + x) a.a_stride a.b.now (a.b_at + x) a.w
stands g c = tested-columns c.requires (c.loop-u.u * g.row.N) g.row.N (ends g c)

pub number-requires : goal.number-requires
number-requires g c = stands g c

-- the tile's number
number :
    (g : Over) (c : After-number g) →
    let a = c.args in
    c.number.result ≡ tile_number g.row.N (tile g.row.N (apart_from a.a.now a.a_at a.a_stride a.b.now a.b_at a.w) 0 c.loop-u.u)
number g c =
    let a = c.args in
    tile-is g.row.N a.a.now a.a_at a.a_stride a.b.now a.b_at a.w c.loop-u.u c.number.result c.number.ensures

pub overflow_add-sum : goal.overflow_add-sum
overflow_add-sum g c =
    let s = g.met.T.Tile.side in
    let f = mul-le-mul_right 67104768 (side-count g.row.N c.args.w c.requires.blocks.narrow) in
    let o = one-tile s in
    omega (arith, summed-next 67104768 c.loop-u.invariant c.loop-u-test.true (number g c) (λ u p. tile-most c.requires s 0 u o p), f)

pub loop-u-preserved : goal.loop-u-preserved
loop-u-preserved g c = summed-step c.loop-u.invariant c.loop-u-test.true (number g c)

pub returns : goal.returns
returns g c = summed-end c.loop-u.invariant c.loop-u-test.false
