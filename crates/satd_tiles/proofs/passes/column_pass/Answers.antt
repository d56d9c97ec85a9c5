-- `satd_tiles::passes::column_pass` meets its contract. Assumes nothing.
use Rattle.std.proofs.Common.{pos, arith, sym, subst, le_trans}
use native.Mathlib.Nat.{mul-le-mul_right}
use Rattle.satd_tiles.specs.Passes.{place, whole_line, BlockWithin, passed}
use Rattle.satd_tiles.proofs.Blocks.{block-small, line-small}
use Rattle.satd_tiles.proofs.Lines.{took-within, took-line}
use Rattle.satd_tiles.proofs.Columns.{columns-start, columns-turn, columns-end}
use Rattle.satd_tiles.proofs.Tiles.{passed-within}
use Rattle.satd_tiles.proofs.passes.column_pass.Goals as goal

pub loop-j-init : goal.loop-j-init
loop-j-init g c = columns-start (pos 0)

pub put-requires : goal.put-requires
put-requires g c =
    let k = g.met.L.Line.sides.1 in
    (block-small k, (line-small k, (c.loop-j-test.true, took-within g.row.N 262144 _ _ c.row.ensures (c.requires c.loop-j.j))))

pub loop-j-preserved : goal.loop-j-preserved
loop-j-preserved g c =
    rw c.put.ensures
    (columns-turn (place (whole_line g.row.N c.row.result)) c.loop-j.invariant c.loop-j-test.true (took-line g.row.N _ _ c.row.ensures))

pub returns : goal.returns
unfolding passed
returns g c =
    let n = g.row.N in
    let e = columns-end c.loop-j.invariant (omega arith) in
    let w : BlockWithin 2097152 (passed n c.args.m) =
    λ a i. le_trans (passed-within n 262144 c.args.m c.requires a i) (mul-le-mul_right 262144 g.met.L.Line.sides.1) in
    record { is = e; within = subst (BlockWithin 2097152) (sym e) w }
