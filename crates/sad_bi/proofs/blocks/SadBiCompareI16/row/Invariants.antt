-- `sad_bi::blocks::SadBi::row` meets its contract. Assumes nothing.
use Rattle.std.proofs.Common.{length, get_or, pos}
use lib.Bits.{bit_or}
use Rattle.sad_bi.specs.Marks.{low_mark_of}
use Rattle.sad_bi.specs.Totals.{apart_bi}
use Rattle.block_rows.proofs.Running.{Running}
use Rattle.sad_bi.proofs.blocks.SadBiCompareI16.row.Given as goal

abbrev pub invariant-loop-i : goal.invariant-loop-i
invariant-loop-i l =
    let a = l.rows.a.now in
    let b = l.rows.b.now in
    Running 98303 (length a) (λ k. apart_bi (get_or a k (pos 0)) (get_or b k 0)) (λ k. bit_or (low_mark_of (get_or a k (pos 0))) (get_or b k 0)) l.sum l.any l.i
