-- `sad_bi::near::runs` meets its contract. Assumes nothing.
use Rattle.std.proofs.Common.{◌+◌, ◌-◌, pos}
use Rattle.integers.specs.Sum.{sum_n}
use Rattle.integers.specs.Or.{or_n}
use Rattle.plane_tests.specs.Blocks.{cell}
use Rattle.block_rows.proofs.Running.{Running}
use Rattle.sad_bi.specs.Totals.{mark_bi}
use Rattle.sad_bi.specs.Near.{near_bi}
use Rattle.sad_bi.proofs.near.runs.Given as goal

abbrev pub invariant-loop-j : goal.invariant-loop-j
invariant-loop-j l =
    Running 16842495 l.count (λ j. sum_n (l.n + l.n) (λ i. near_bi (cell (pos 0) l.a 0 (l.n + l.n) j i) (cell 0 l.b l.b_at (l.n + l.n) j i)))
    (λ j. or_n (l.n + l.n) (λ i. mark_bi (cell (pos 0) l.a 0 (l.n + l.n) j i) (cell 0 l.b l.b_at (l.n + l.n) j i))) l.sum l.any l.j

abbrev pub decreases-loop-j : goal.decreases-loop-j
decreases-loop-j l = l.count - l.j
