-- `ssd::rows::Ssd::row` meets its contract. Assumes nothing.
use lib.Bits.{bit_or}
use lib.ListN.{length, get_or}
use Rattle.ssd.specs.Squares.{squared_low}
use Rattle.block_rows.proofs.Running.{Running}
use Rattle.ssd.proofs.rows.SsdCompareU16.row.Given as goal

abbrev pub invariant-loop-i : goal.invariant-loop-i
invariant-loop-i l =
    let a = l.rows.a.now in
    let b = l.rows.b.now in
    Running 65535 (length a) (λ k. squared_low l.fn.self.depth (get_or a k 0) (get_or b k 0)) (λ k. bit_or (get_or a k 0) (get_or b k 0)) l.sum l.any l.i
