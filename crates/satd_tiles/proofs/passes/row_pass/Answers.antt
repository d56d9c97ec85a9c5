-- `satd_tiles::passes::row_pass` meets its contract. Assumes nothing.
use Rattle.std.proofs.Common.{pos, arith, sym, subst, le_trans, lit≤}
use native.Mathlib.Nat.{mul-le-mul_right}
use Rattle.satd_tiles.specs.Passes.{place, whole_line, BlockWithin, rows_passed}
use Rattle.satd_tiles.proofs.Blocks.{block-small, line-small}
use Rattle.satd_tiles.proofs.Lines.{took-within, took-line}
use Rattle.satd_tiles.proofs.Columns.{columns-start, columns-turn, columns-end}
use Rattle.satd_tiles.proofs.Tiles.{rows-passed-within}
use Rattle.satd_tiles.proofs.passes.row_pass.Goals as goal

pub loop-i-init : goal.loop-i-init
loop-i-init g c = columns-start (pos 0)

pub put-requires : goal.put-requires
put-requires g c =
    let k = g.met.L.Line.sides.1 in
    (block-small k, (line-small k, (c.loop-i-test.true, took-within g.row.N 262144 _ _ c.column.ensures (λ k. le_trans (c.requires k c.loop-i.i) (lit≤ tt)))))

pub loop-i-preserved : goal.loop-i-preserved
loop-i-preserved g c =
    rw c.put.ensures
    (columns-turn (place (whole_line g.row.N c.column.result)) c.loop-i.invariant c.loop-i-test.true (took-line g.row.N _ _ c.column.ensures))

pub returns : goal.returns
unfolding rows_passed
returns g c =
    let n = g.row.N in
    let e = columns-end c.loop-i.invariant (omega arith) in
    let w : BlockWithin 262144 (rows_passed n c.args.block) =
    λ a i. le_trans (rows-passed-within n 32768 c.args.block c.requires a i) (mul-le-mul_right 32768 g.met.L.Line.sides.1) in
    record { is = e; within = subst (BlockWithin 262144) (sym e) w }
