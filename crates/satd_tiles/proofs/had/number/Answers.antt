-- `satd_tiles::had::number` meets its contract: what the passes leave are the tile's coefficients (proofs/Tiles.antt). Assumes nothing.
use Rattle.std.proofs.Common.{◌≡◌, ◌<◌, ◌+◌, ◌-◌, ◌/◌, arith, sym, ap, ◌∙◌, subst, nat_abs}
use mir.Syntax.{w16, w32}
use Rattle.integers.proofs.Bits.{back}
use Rattle.evc.specs.Tiles.{tile_number, tile_sum, rounded}
use Rattle.satd_tiles.specs.Passes.{entry, BlockWithin, rows_passed}
use Rattle.satd_tiles.proofs.Blocks.{block-small, line-small, entry-within}
use Rattle.satd_tiles.proofs.Tiles.{ByPasses, shares}
use Rattle.satd_tiles.proofs.had.number.Given.{Over}
use Rattle.satd_tiles.proofs.had.number.Goals.{After-abs_i32-dc, After-number}
use Rattle.satd_tiles.proofs.had.number.Goals as goal

pub row_pass-m-requires : goal.row_pass-m-requires
row_pass-m-requires g c =
    let k = g.met.L.Line.sides.1 in
    (block-small k, (line-small k, subst (BlockWithin 32768) (sym c.widened.ensures) (entry-within w16 g.row.N g.row.N c.args.diff _ c.well_formed.0)))

pub at-requires : goal.at-requires
at-requires g c =
    let k = g.met.L.Line.sides in
    let inside : 1 < g.row.N = k.0 in
    (block-small k.1, (line-small k.1, (omega (arith, inside), omega (arith, inside))))

-- the tile, by what the calls gave
tile : (g : Over) (c : After-abs_i32-dc g) → ByPasses g.row.N c.args.diff c.row_pass-m.result c.column_pass-c.result c.sum-all.result c.abs_i32-dc.result
tile g c = record {
  rows = c.row_pass-m.ensures.is ∙ ap (rows_passed g.row.N) c.widened.ensures;
  columns = c.column_pass-c.ensures.is;
  total = c.sum-all.ensures;
  first = c.abs_i32-dc.ensures ∙ ap nat_abs (back w32 c.at.result c.at.type_inv ∙ c.at.ensures);
}

pub overflow_sub-all : goal.overflow_sub-all
overflow_sub-all g c = (shares (omega (arith, g.met.L.Line.sides.0)) (tile g c)).1

-- the number, by the tile's sum
is : (g : Over) (c : After-number g) → c.number.result ≡ rounded g.row.N (tile_sum g.row.N (entry c.args.diff))
is g c =
    let k = shares (omega (arith, g.met.L.Line.sides.0)) (tile g (goal.at.returns g c).After-abs_i32-dc) in
    let e : c.sum-all.result - c.abs_i32-dc.result + c.abs_i32-dc.result / 4 ≡ tile_sum g.row.N (entry c.args.diff) = omega (arith, k) in
    c.number.ensures.rounded ∙ ap (rounded g.row.N) e

pub returns : goal.returns
unfolding tile_number
returns g c = is g c
