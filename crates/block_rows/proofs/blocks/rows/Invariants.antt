-- `block_rows::blocks::rows` meets its contract. Assumes nothing.
use Rattle.std.proofs.Common.{◌*◌}
use Rattle.integers.specs.Sum.{sum_n}
use Rattle.integers.specs.Or.{or_n}
use Rattle.plane_tests.specs.Blocks.{cell}
use Rattle.block_rows.proofs.Running.{Running}
use Rattle.block_rows.proofs.blocks.rows.Given as goal

abbrev pub invariant-loop-j : goal.invariant-loop-j
invariant-loop-j g l =
    let p = l.pair in
    let t = g.C.Compare in
    Running (64 * t.most) l.h (λ j. sum_n l.w (λ i. t.adds l.compare (cell t.none p.a.now p.a_at p.a_stride j i) (cell 0 p.b.now p.b_at p.b_stride j i)))
    (λ j. or_n l.w (λ i. t.marks l.compare (cell t.none p.a.now p.a_at p.a_stride j i) (cell 0 p.b.now p.b_at p.b_stride j i))) l.sum l.any l.j
