-- `sad::sad::evce_sad_16i` meets its contract: each refusal is the first broken test, and what is left is read alike. Assumes nothing.
use mathlib.Core.Path.{◌≡◌, refl, sym, ◌∙◌}
use mathlib.Core.Bool.{false, ◌||◌}
use Prim.Native.Nat.{◌+◌, ◌*◌}
use native.Mathlib.Omega.{arith}
use lib.ListN.{length}
use Rattle.evc.specs.Tests.{outside}
use Rattle.evc.proofs.Tests.{outside-no}
use Rattle.plane_tests.specs.Areas.{is_outside_plane}
use Rattle.plane_tests.specs.Blocks.{TwoBlocks}
use Rattle.plane_tests.proofs.Planes.{planes-hold, plane-alike}
use Rattle.sad_answer.proofs.Sads.{sad-size, sad-depth, sad-area, sad-second, sad-sides, sad-ends}
use Rattle.sad.proofs.sad.Ends.{sad-totalled}
use Rattle.sad.proofs.sad.evce_sad_16i.Goals.{Else-bad_depth, Else-bad_sides, Else-outside_plane, Else-outside_plane-2}
use Rattle.sad.proofs.sad.evce_sad_16i.Goals as goal

-- what each test that was left says
sized : (c : Else-bad_sides) → let a = c.args in outside 1 64 a.w || outside 1 64 a.h ≡ false
sized c = sym c.bad_sides.ensures ∙ c.if-bad_sides.false

deep : (c : Else-bad_depth) → outside 8 14 c.args.depth ≡ false
deep c = sym c.bad_depth.ensures ∙ c.if-bad_depth.false

one :
    (c : Else-outside_plane) →
    let a = c.args in
    is_outside_plane (length a.org.now) a.width a.height a.stride a.x a.y a.w a.h ≡ false
one c = sym c.outside_plane.ensures ∙ c.if-outside_plane.false

two :
    (c : Else-outside_plane-2) →
    let a = c.args in
    is_outside_plane (length a.pred.now) a.w a.h a.w 0 0 a.w a.h ≡ false
two c = sym c.outside_plane-2.ensures ∙ c.if-outside_plane-2.false

pub returns-then-bad_sides : goal.returns-then-bad_sides
returns-then-bad_sides c = sad-size _ _ _ _ _ (sym c.bad_sides.ensures ∙ c.if-bad_sides.true)

pub returns-then-bad_depth : goal.returns-then-bad_depth
returns-then-bad_depth c = sad-depth _ _ _ _ _ (sized (goal.at.returns-then-bad_depth c).Else-bad_sides) (sym c.bad_depth.ensures ∙ c.if-bad_depth.true)

pub returns-then-outside_plane : goal.returns-then-outside_plane
returns-then-outside_plane c =
    sad-area _ _ _ _ _ (sized (goal.at.returns-then-outside_plane c).Else-bad_sides) (deep (goal.at.returns-then-outside_plane c).Else-bad_depth) (sym c.outside_plane.ensures ∙ c.if-outside_plane.true)

pub returns-then-outside_plane-2 : goal.returns-then-outside_plane-2
returns-then-outside_plane-2 c =
    sad-second _ _ _ _ _ (sized (goal.at.returns-then-outside_plane-2 c).Else-bad_sides) (deep (goal.at.returns-then-outside_plane-2 c).Else-bad_depth) (one (goal.at.returns-then-outside_plane-2 c).Else-outside_plane)
    (sym c.outside_plane-2.ensures ∙ c.if-outside_plane-2.true)

-- so both blocks lie inside their buffers
blocks :
    (c : Else-outside_plane-2) →
    let a = c.args in
    TwoBlocks a.w a.h (length a.org.now) (a.y * a.stride + a.x) a.stride (length a.pred.now) 0 a.w
blocks c =
    let a = c.args in
    let k = sad-sides a.w a.h (sized (goal.at.overflow_mul-y c).Else-bad_sides) in
    planes-hold (length a.org.now) a.width a.height a.stride a.x a.y (length a.pred.now) a.w a.h k.0 k.1 (one (goal.at.overflow_mul-y c).Else-outside_plane) (two c)

pub overflow_mul-y : goal.overflow_mul-y
overflow_mul-y c = omega (arith, (blocks c).one)

pub overflow_add-y : goal.overflow_add-y
overflow_add-y c = omega (arith, (blocks c).one)

pub invariant_of-compare_blocks : goal.invariant_of-compare_blocks
invariant_of-compare_blocks c = record { inside = blocks c }

pub returns : goal.returns
returns c =
    let d = deep (goal.at.returns c).Else-bad_depth in
    let a = c.args in
    sad-ends (plane-alike a.org.now a.width a.height a.stride a.x a.y a.w a.h a.depth (a.y * a.stride + a.x) refl)
    (plane-alike a.pred.now a.w a.h a.w 0 0 a.w a.h a.depth 0 (omega arith)) a.depth
    (c.sad_answer.ensures ∙ sad-totalled _ _ _ _ _ (outside-no 8 14 a.depth d) c.compare_blocks-t.ensures)
    (sized (goal.at.returns c).Else-bad_sides) d (one (goal.at.returns c).Else-outside_plane) (two (goal.at.returns c).Else-outside_plane-2)
