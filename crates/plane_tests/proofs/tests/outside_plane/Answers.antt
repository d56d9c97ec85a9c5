-- `plane_tests::tests::outside_plane` meets its contract. Assumes nothing.
use mathlib.Core.Path.{sym, ◌∙◌}
use Rattle.integers.proofs.Bools.{or-second, or-third}
use Rattle.plane_tests.proofs.tests.outside_plane.Goals as goal

pub returns-then-bad_plane : goal.returns-then-bad_plane
returns-then-bad_plane c = rw (sym c.bad_plane.ensures ∙ c.if-bad_plane.true)

pub returns-then-beyond : goal.returns-then-beyond
returns-then-beyond c =
    or-second _ _ _ (sym c.bad_plane.ensures ∙ c.if-bad_plane.false) (sym c.beyond.ensures ∙ c.if-beyond.true)

pub returns-else-beyond : goal.returns-else-beyond
returns-else-beyond c =
    or-third _ _ _ _ (sym c.bad_plane.ensures ∙ c.if-bad_plane.false)
    (sym c.beyond.ensures ∙ c.if-beyond.false) c.beyond-else-beyond.ensures
