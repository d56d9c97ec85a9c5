-- `block_rows::edges::edge_row` meets its contract. Assumes nothing.
use mathlib.Core.Path.{ap, ◌∙◌}
use lib.IntN.{ℤ, pos, ◌+ℤ◌}
use lib.ListN.{length, get_or}
use mir.Facts.{to_z-of_z}
use Rattle.integers.specs.Lists.{tab}
use Rattle.evc.specs.Planes.{edge}
use Rattle.block_rows.proofs.edges.edge_row.Goals as goal

pub returns-then-out-le4 : goal.returns-then-out-le4
returns-then-out-le4 c =
    let a = c.args in
    c.short_row.ensures ∙ ap (λ (z : ℤ). tab (length a.out.now) (λ i. get_or a.row.now (edge (z +ℤ pos i)) 0)) (to_z-of_z c.ranges.x)

pub returns-else-out-le4 : goal.returns-else-out-le4
returns-else-out-le4 c =
    let a = c.args in
    c.long_row.ensures ∙ ap (λ (z : ℤ). tab (length a.out.now) (λ i. get_or a.row.now (edge (z +ℤ pos i)) 0)) (to_z-of_z c.ranges.x)
