-- `satd::satd::evce_satd_16b` meets its contract: each refusal is the first broken test, and what is left is read alike. Assumes nothing.
use mathlib.Core.Path.{◌≡◌, refl, sym, ap, ◌∙◌}
use mathlib.Core.Bool.{false, ◌||◌}
use Prim.Native.Nat.{ℕ, ◌+◌, ◌*◌, ◌-◌, ◌/◌, ◌%◌, ◌^◌, ◌≤◌}
use native.Mathlib.Nat.{mul-le-mul}
use native.Mathlib.Omega.{arith}
use lib.ListN.{length}
use lib.Dec.{eqb, ltb}
use Rattle.integers.proofs.Bools.{neither_left, neither_right}
use Rattle.evc.specs.Tests.{outside}
use Rattle.evc.specs.Tiles.{tile_side}
use Rattle.evc.proofs.Tests.{outside-no}
use Rattle.plane_tests.specs.Areas.{is_outside_plane}
use Rattle.plane_tests.specs.Blocks.{TwoBlocks}
use Rattle.plane_tests.proofs.Planes.{is-inside, rows_inside, plane-alike}
use Rattle.plane_tests.proofs.Replies.{rest-alike}
use Rattle.block_rows.proofs.Tested.{areas-found}
use Rattle.satd.proofs.satd.Ends.{satd-alike, satd-size, satd-depth, satd-area, satd-rest}
use Rattle.satd.proofs.satd.evce_satd_16b.Goals.{After-outside_plane, Else-bad_depth, Else-bad_even_sides, Else-outside_plane-cur}
use Rattle.satd.proofs.satd.evce_satd_16b.Goals as goal

-- what each test that was left says
sized : (c : Else-bad_even_sides) → let a = c.args in (outside 2 64 a.w || eqb (a.w % 2) 1) || (outside 2 64 a.h || eqb (a.h % 2) 1) ≡ false
sized c = sym c.bad_even_sides.ensures ∙ c.if-bad_even_sides.false

deep : (c : Else-bad_depth) → outside 8 14 c.args.depth ≡ false
deep c = sym c.bad_depth.ensures ∙ c.if-bad_depth.false

pub returns-then-bad_even_sides : goal.returns-then-bad_even_sides
returns-then-bad_even_sides c = satd-size _ _ _ _ _ (sym c.bad_even_sides.ensures ∙ c.if-bad_even_sides.true)

pub returns-then-bad_depth : goal.returns-then-bad_depth
returns-then-bad_depth c = satd-depth _ _ _ _ _ (sized (goal.at.returns-then-bad_depth c).Else-bad_even_sides) (sym c.bad_depth.ensures ∙ c.if-bad_depth.true)

-- the sides are small
small :
    (c : Else-bad_even_sides) → let a = c.args in ((2 ≤ a.w) × (a.w ≤ 64)) × ((2 ≤ a.h) × (a.h ≤ 64))
small c =
    let a = c.args in
    let w = outside 2 64 a.w || eqb (a.w % 2) 1 in
    let h = outside 2 64 a.h || eqb (a.h % 2) 1 in (
      outside-no 2 64 a.w (neither_left (outside 2 64 a.w) (eqb (a.w % 2) 1) (neither_left w h (sized c))),
      outside-no 2 64 a.h (neither_left (outside 2 64 a.h) (eqb (a.h % 2) 1) (neither_right w h (sized c))),
    )

pub overflow_mul-h : goal.overflow_mul-h
overflow_mul-h c =
    let k = small (goal.at.overflow_mul-h c).Else-bad_even_sides in
    let p = mul-le-mul k.1.1 k.0.1 in
    omega arith

-- what the areas' tests find is what the definition asks
areas :
    (c : After-outside_plane) →
    let a = c.args in
    is_outside_plane (length a.org.now) a.width a.height a.stride a.x a.y a.w a.h
    || is_outside_plane (length a.cur.now) a.w a.h a.w 0 0 a.w a.h
    ≡ c.outside_plane.result || ltb (length a.cur.now) (a.h * a.w)
areas c =
    let a = c.args in
    let k = small (goal.at.overflow_mul-h c).Else-bad_even_sides in
    areas-found c.outside_plane.result (is_outside_plane (length a.org.now) a.width a.height a.stride a.x a.y a.w a.h)
    (length a.cur.now) a.w a.h (omega arith, k.0.1) (omega arith, k.1.1) c.outside_plane.ensures

pub returns-then-outside_plane-cur : goal.returns-then-outside_plane-cur
returns-then-outside_plane-cur c =
    satd-area _ _ _ _ _ (sized (goal.at.returns-then-outside_plane-cur c).Else-bad_even_sides) (deep (goal.at.returns-then-outside_plane-cur c).Else-bad_depth) (areas (goal.at.returns-then-outside_plane-cur c).After-outside_plane ∙ c.if-outside_plane-cur.true)

-- else both blocks lie inside their buffers
blocks :
    (c : Else-outside_plane-cur) →
    let a = c.args in
    TwoBlocks a.w a.h (length a.org.now) (a.y * a.stride + a.x) a.stride (length a.cur.now) 0 a.w
blocks c =
    let a = c.args in
    let k = small (goal.at.overflow_mul-y c).Else-bad_even_sides in
    let org = is_outside_plane (length a.org.now) a.width a.height a.stride a.x a.y a.w a.h in
    let cur = is_outside_plane (length a.cur.now) a.w a.h a.w 0 0 a.w a.h in
    let f = areas (goal.at.overflow_mul-y c).After-outside_plane ∙ c.if-outside_plane-cur.false in
    record {
      narrow = k.0.1;
      low = k.1.1;
      one =
          rows_inside (length a.org.now) a.width a.height a.stride a.x a.y a.w a.h (omega arith)
          (is-inside (length a.org.now) a.width a.height a.stride a.x a.y a.w a.h (neither_left org cur f));
      two = omega (arith, (is-inside (length a.cur.now) a.w a.h a.w 0 0 a.w a.h (neither_right org cur f)).formed.long);
    }

pub overflow_mul-y : goal.overflow_mul-y
overflow_mul-y c = omega (arith, (blocks c).one)

pub overflow_add-y : goal.overflow_add-y
overflow_add-y c = omega (arith, (blocks c).one)

pub of_blocks-requires : goal.of_blocks-requires
of_blocks-requires c =
    record { two_blocks = blocks c; le_depth = outside-no 8 14 c.args.depth (deep (goal.at.of_blocks-requires c).Else-bad_depth) }

pub returns : goal.returns
returns c =
    let a = c.args in
    let p = plane-alike a.org.now a.width a.height a.stride a.x a.y a.w a.h a.depth (a.y * a.stride + a.x) refl in
    let q = plane-alike a.cur.now a.w a.h a.w 0 0 a.w a.h a.depth 0 (omega arith) in
    c.of_blocks.ensures ∙ rest-alike p q _ _ (ap (λ (n : ℕ). n / 2 ^ (a.depth - 8)) (satd-alike p q (tile_side a.w a.h)))
    ∙ satd-rest _ _ _ _ _ (sized (goal.at.returns c).Else-bad_even_sides) (deep (goal.at.returns c).Else-bad_depth)
    (areas (goal.at.returns c).After-outside_plane ∙ c.if-outside_plane-cur.false)
