-- `sad::rows::Sad::row` meets its contract. Assumes nothing.
use Rattle.std.proofs.Common.{length, get_or, bit_or}
use Rattle.block_rows.specs.Totals.{apart}
use Rattle.block_rows.proofs.Running.{Running}
use Rattle.sad.proofs.rows.SadCompareU16.row.Given as goal

abbrev pub invariant-loop-i : goal.invariant-loop-i
invariant-loop-i l =
    let a = l.rows.a.now in
    let b = l.rows.b.now in
    Running 65535 (length a) (λ k. apart (get_or a k 0) (get_or b k 0)) (λ k. bit_or (get_or a k 0) (get_or b k 0)) l.sum l.any l.i
