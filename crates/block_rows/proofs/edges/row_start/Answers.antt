-- `block_rows::edges::row_start` meets its contract. Assumes nothing.
use mathlib.Core.Path.{ap, ◌∙◌}
use lib.IntN.{ℤ, pos, ◌+ℤ◌}
use mir.Facts.{to_z-of_z}
use Rattle.evc.specs.Planes.{edge}
use Rattle.block_rows.proofs.edges.row_start.Goals as goal

pub edge-requires : goal.edge-requires
edge-requires c = tt

pub edge-requires-2 : goal.edge-requires-2
edge-requires-2 c = tt

pub returns : goal.returns
returns c = (
  c.edge.ensures ∙ ap (λ (z : ℤ). edge (z +ℤ pos c.args.j)) (to_z-of_z c.ranges.y),
  c.edge-2.ensures ∙ ap (λ (z : ℤ). edge (z +ℤ pos 0)) (to_z-of_z c.ranges.x),
)
