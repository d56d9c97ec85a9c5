-- `block_rows::at_edges::compare_edge_row` meets its contract. Assumes nothing.
use Rattle.block_rows.specs.Totals.{value_at}
use Rattle.block_rows.proofs.Cells.{same, rows_alike}
use Rattle.block_rows.proofs.Line.{line_same}
use Rattle.block_rows.proofs.at_edges.compare_edge_row.Goals as goal

pub returns : goal.returns
returns g c =
    let t = g.C.Compare in
    rows_alike (t.adds c.args.compare) (t.marks c.args.compare) (same (value_at t.none c.args.a.now))
    (line_same _ _ c.args.row.now c.requires c.ranges.x c.edge_row.ensures) c.row.ensures
