-- `sad_bi::sad_bi::evce_sad_bi_16i` meets its contract: each refusal is the first broken test, and what is left is read alike. Assumes nothing.
use Rattle.std.proofs.Common.{◌≡◌, false, ◌||◌, length, sym, ◌∙◌, arith}
use Rattle.evc.specs.Tests.{outside}
use Rattle.evc.proofs.Tests.{outside-no}
use Rattle.plane_tests.specs.Areas.{is_bad_plane, is_outside_plane}
use Rattle.plane_tests.proofs.Planes.{well-formed, is-inside, plane-alike}
use Rattle.sad_answer.proofs.Sads.{sad-size, sad-depth, sad-area, sad-second, sad-sides, sad-ends}
use Rattle.sad_bi.proofs.Ends.{bi-alike, bi-totalled}
use Rattle.sad_bi.proofs.sad_bi.evce_sad_bi_16i.Goals.{Else-bad_depth, Else-bad_plane, Else-bad_sides, Else-outside_plane}
use Rattle.sad_bi.proofs.sad_bi.evce_sad_bi_16i.Goals as goal

-- what each test that was left says
sized : (c : Else-bad_sides) → let a = c.args in outside 1 64 a.w || outside 1 64 a.h ≡ false
sized c = sym c.bad_sides.ensures ∙ c.if-bad_sides.false

deep : (c : Else-bad_depth) → outside 8 14 c.args.depth ≡ false
deep c = sym c.bad_depth.ensures ∙ c.if-bad_depth.false

one :
    (c : Else-bad_plane) →
    let a = c.args in is_bad_plane (length a.bi.now) a.w a.h a.w ≡ false
one c = sym c.bad_plane.ensures ∙ c.if-bad_plane.false

two :
    (c : Else-outside_plane) →
    let a = c.args in
    is_outside_plane (length a.pred.now) a.w a.h a.w 0 0 a.w a.h ≡ false
two c = sym c.outside_plane.ensures ∙ c.if-outside_plane.false

pub returns-then-bad_sides : goal.returns-then-bad_sides
returns-then-bad_sides c = sad-size _ _ _ _ _ (sym c.bad_sides.ensures ∙ c.if-bad_sides.true)

pub returns-then-bad_depth : goal.returns-then-bad_depth
returns-then-bad_depth c = sad-depth _ _ _ _ _ (sized (goal.at.returns-then-bad_depth c).Else-bad_sides) (sym c.bad_depth.ensures ∙ c.if-bad_depth.true)

pub returns-then-bad_plane : goal.returns-then-bad_plane
returns-then-bad_plane c = sad-area _ _ _ _ _ (sized (goal.at.returns-then-bad_plane c).Else-bad_sides) (deep (goal.at.returns-then-bad_plane c).Else-bad_depth) (sym c.bad_plane.ensures ∙ c.if-bad_plane.true)

pub returns-then-outside_plane : goal.returns-then-outside_plane
returns-then-outside_plane c =
    sad-second _ _ _ _ _ (sized (goal.at.returns-then-outside_plane c).Else-bad_sides) (deep (goal.at.returns-then-outside_plane c).Else-bad_depth) (one (goal.at.returns-then-outside_plane c).Else-bad_plane)
    (sym c.outside_plane.ensures ∙ c.if-outside_plane.true)

pub invariant_of-total : goal.invariant_of-total
invariant_of-total c =
    let a = c.args in
    let k = sad-sides a.w a.h (sized (goal.at.invariant_of-total c).Else-bad_sides) in
    record {
      inside = record {
        narrow = k.0.1;
        low = k.1.1;
        one = (well-formed (length a.bi.now) a.w a.h a.w (one (goal.at.invariant_of-total c).Else-bad_plane)).long;
        two = (is-inside (length a.pred.now) a.w a.h a.w 0 0 a.w a.h (two c)).formed.long;
      };
    }

pub returns : goal.returns
returns c =
    let d = deep (goal.at.returns c).Else-bad_depth in
    let a = c.args in
    sad-ends (bi-alike a.bi.now a.w a.h) (plane-alike a.pred.now a.w a.h a.w 0 0 a.w a.h a.depth 0 (omega arith)) a.depth
    (c.sad_answer.ensures ∙ bi-totalled _ _ _ _ _ (outside-no 8 14 a.depth d) c.total-t.ensures)
    (sized (goal.at.returns c).Else-bad_sides) d (one (goal.at.returns c).Else-bad_plane) (two (goal.at.returns c).Else-outside_plane)
