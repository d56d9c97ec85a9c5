-- `plane_tests::tests::bad_plane` meets its contract. Assumes nothing.
use mathlib.Core.Path.{sym, ◌∙◌}
use borrow.Author.Tests.{lt-ltb, le-ltb}
use Rattle.evc.proofs.Tests.{outside-no}
use Rattle.plane_tests.proofs.tests.bad_plane.Goals as goal

pub returns-then-outside : goal.returns-then-outside
returns-then-outside c = rw (sym c.outside.ensures ∙ c.if-outside.true)

pub returns-then-outside-2 : goal.returns-then-outside-2
returns-then-outside-2 c = rw (sym c.outside.ensures ∙ c.if-outside.false, sym c.outside-2.ensures ∙ c.if-outside-2.true)

pub returns-then-stride-width : goal.returns-then-stride-width
returns-then-stride-width c =
    let a = c.args in
    rw (
      sym c.outside.ensures ∙ c.if-outside.false,
      sym c.outside-2.ensures ∙ c.if-outside-2.false,
      lt-ltb a.stride a.width c.if-stride-width.true,
    )

pub too_short-requires : goal.too_short-requires
too_short-requires c =
    outside-no 1 16384 c.args.height (sym c.outside-2.ensures ∙ c.if-outside-2.false)

pub returns : goal.returns
returns c =
    let a = c.args in
    rw (
      sym c.outside.ensures ∙ c.if-outside.false,
      sym c.outside-2.ensures ∙ c.if-outside-2.false,
      le-ltb a.stride a.width c.if-stride-width.false,
    )
    c.too_short.ensures
