-- `sad_bi::near::pairs` meets its contract. A signed slice tells nothing of the elements that aren't read yet, so the invariant bounds the sums themselves.
-- Assumes nothing.
use Rattle.std.proofs.Common.{◌-◌, get_or, pos}
use Rattle.sad_bi.specs.Marks.{low_mark_of}
use Rattle.sad_bi.specs.Near.{near_bi}
use Rattle.sad_bi.proofs.Pairs.{Paired}
use Rattle.sad_bi.proofs.near.pairs.Given as goal

abbrev pub invariant-loop-i : goal.invariant-loop-i
invariant-loop-i l =
    Paired l.n (λ k. near_bi (get_or l.a k (pos 0)) (get_or l.b k 0)) (λ k. low_mark_of (get_or l.a k (pos 0))) (λ k. get_or l.b k 0) l.high l.both l.any (low_mark_of l.low) l.i

abbrev pub decreases-loop-i : goal.decreases-loop-i
decreases-loop-i l = l.n - l.i
