-- `ssd::edges::edge_rows` meets its contract. Assumes nothing.
use Rattle.std.proofs.Common.{◌*◌, bit_or}
use Rattle.integers.specs.Sum.{sum_n}
use Rattle.integers.specs.Or.{or_n}
use Rattle.block_rows.specs.Edges.{edge_cell}
use Rattle.block_rows.proofs.Running.{Running}
use Rattle.ssd.specs.Squares.{squared_low}
use Rattle.ssd.proofs.edges.edge_rows.Given as goal

abbrev pub invariant-loop-j : goal.invariant-loop-j
invariant-loop-j l =
    let p = l.pair in
    Running (64 * 65535) p.h (λ j. sum_n p.w (λ i. squared_low l.ssd.depth (edge_cell p.one.now p.stride1 p.x p.y j i) (edge_cell p.two.now p.stride2 p.x p.y j i)))
    (λ j. or_n p.w (λ i. bit_or (edge_cell p.one.now p.stride1 p.x p.y j i) (edge_cell p.two.now p.stride2 p.x p.y j i))) l.sum l.any l.j
