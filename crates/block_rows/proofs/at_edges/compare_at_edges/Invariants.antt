-- `block_rows::at_edges::compare_at_edges` meets its contract. Assumes nothing.
use Rattle.std.proofs.Common.{◌*◌}
use Rattle.integers.specs.Sum.{sum_n}
use Rattle.integers.specs.Or.{or_n}
use Rattle.plane_tests.specs.Blocks.{cell}
use Rattle.block_rows.specs.Edges.{edge_cell}
use Rattle.block_rows.proofs.Running.{Running}
use Rattle.block_rows.proofs.at_edges.compare_at_edges.Given as goal

abbrev pub invariant-loop-j : goal.invariant-loop-j
invariant-loop-j g l =
    let p = l.pair in
    let t = g.C.Compare in
    Running (64 * t.most) p.h
    (λ j. sum_n p.w (λ i. t.adds l.compare (cell t.none p.org.now p.at p.stride j i) (edge_cell p.reference.now p.ref_stride p.mv_x p.mv_y j i)))
    (λ j. or_n p.w (λ i. t.marks l.compare (cell t.none p.org.now p.at p.stride j i) (edge_cell p.reference.now p.ref_stride p.mv_x p.mv_y j i))) l.sum l.any l.j
