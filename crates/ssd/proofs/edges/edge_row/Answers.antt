-- `ssd::edges::edge_row` meets its contract. Assumes nothing.
use Rattle.std.proofs.Common.{bit_or}
use Rattle.block_rows.proofs.Cells.{rows_alike}
use Rattle.block_rows.proofs.Line.{line-length, line_same}
use Rattle.ssd.specs.Squares.{squared_low}
use Rattle.ssd.proofs.edges.edge_row.Goals as goal

pub returns : goal.returns
returns c =
    let a = c.args in
    let e = line-length _ _ c.requires _ _ c.edge_row.ensures in
    rows_alike (squared_low a.ssd.depth) bit_or (line_same _ _ a.a.now c.requires c.ranges.x c.edge_row.ensures)
    (line_same _ _ a.b.now c.requires c.ranges.x c.edge_row-2.ensures) (rw e at c.row.ensures)
