-- `plane_tests::tests::outside_edges` meets its contract. Assumes nothing.
use mathlib.Core.Path.{◌≡◌, sym, ap, ◌∙◌}
use mathlib.Core.Bool.{false}
use lib.IntN.{ℤ}
use mir.Facts.{to_z-of_z}
use Rattle.integers.proofs.Bools.{or-second, or-third}
use Rattle.evc.specs.Planes.{past_edge}
use Rattle.plane_tests.specs.Areas.{is_bad_plane}
use Rattle.plane_tests.proofs.Planes.{well-formed}
use Rattle.plane_tests.proofs.tests.outside_edges.Goals.{After-past, Else-bad_plane}
use Rattle.plane_tests.proofs.tests.outside_edges.Goals as goal

pub returns-then-bad_plane : goal.returns-then-bad_plane
returns-then-bad_plane c = rw (sym c.bad_plane.ensures ∙ c.if-bad_plane.true)

-- the plane is well formed from here on
formed : (c : Else-bad_plane) → let a = c.args in is_bad_plane a.n a.width a.height a.stride ≡ false
formed c = sym c.bad_plane.ensures ∙ c.if-bad_plane.false

pub past-requires : goal.past-requires
past-requires c = let a = c.args in (well-formed a.n a.width a.height a.stride (formed c)).wide.1

-- what the two calls of `past` say: a signed argument comes as its bits
across : (c : After-past) → let a = c.args in c.past.result ≡ past_edge a.x a.w a.width
across c =
    c.past.ensures ∙ ap (λ (z : ℤ). past_edge z c.args.w c.args.width) (to_z-of_z c.ranges.x)

pub past-requires-else-past : goal.past-requires-else-past
past-requires-else-past c =
    let a = c.args in (well-formed a.n a.width a.height a.stride (formed (goal.at.past-requires-else-past c).Else-bad_plane)).high.1

pub returns-then-past : goal.returns-then-past
returns-then-past c =
    let a = c.args in
    or-second (is_bad_plane a.n a.width a.height a.stride) (past_edge a.x a.w a.width) (past_edge a.y a.h a.height)
    (formed (goal.at.returns-then-past c).Else-bad_plane) (sym (across (goal.at.returns-then-past c).After-past) ∙ c.if-past.true)

pub returns-else-past : goal.returns-else-past
returns-else-past c =
    let a = c.args in
    or-third c.past-else-past.result (is_bad_plane a.n a.width a.height a.stride) (past_edge a.x a.w a.width) (past_edge a.y a.h a.height)
    (formed (goal.at.returns-else-past c).Else-bad_plane) (sym (across (goal.at.returns-else-past c).After-past) ∙ c.if-past.false)
    (c.past-else-past.ensures ∙ ap (λ (z : ℤ). past_edge z a.h a.height) (to_z-of_z c.ranges.y))
