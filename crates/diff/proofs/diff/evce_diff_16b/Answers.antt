-- `diff::diff::evce_diff_16b` meets its contract: each refusal is the first broken test, and what is left is read alike. Assumes nothing.
use mathlib.Core.Path.{◌≡◌, refl, sym, ap, ◌∙◌}
use mathlib.Core.Bool.{Bool, false, ◌||◌}
use Prim.Native.Nat.{ℕ, ◌+◌, ◌*◌, ◌^◌, ◌≤◌}
use native.Mathlib.Nat.{mul-le-mul}
use native.Mathlib.Omega.{arith}
use borrow.Author.Tests.{ltb-false}
use lib.Dec.{ltb}
use lib.ListN.{length}
use Rattle.integers.proofs.Bools.{neither_left, neither_right}
use Rattle.evc.specs.Tests.{outside}
use Rattle.evc.specs.Planes.{Block, in_plane, in_packed, plane_of}
use Rattle.evc.proofs.Tests.{outside-no}
use Rattle.plane_tests.specs.Areas.{is_outside_plane}
use Rattle.plane_tests.specs.Blocks.{TwoBlocks}
use Rattle.plane_tests.proofs.Planes.{is-inside, rows_inside, plane-alike}
use Rattle.plane_tests.proofs.SmallSides.{logs-small, side-small, shifted, shifted-is}
use Rattle.diff.proofs.diff.Differing.{differed-alike, diff-size, diff-depth, diff-area, diff-rest}
use Rattle.block_rows.proofs.Tested.{areas-found}
use Rattle.diff.proofs.diff.evce_diff_16b.Goals.{After-outside_plane, Start, Else-bad_depth, Else-bad_logs, Else-outside_plane-cur}
use Rattle.diff.proofs.diff.evce_diff_16b.Goals as goal

-- the two blocks, by their sides
abbrev A : Start → ℕ → ℕ → Block
A c w h = let a = c.args in in_plane (plane_of a.org.now a.width a.height a.stride) a.x a.y w h a.depth

abbrev B : Start → ℕ → ℕ → Block
B c w h = let a = c.args in in_packed a.cur.now w h a.depth

-- what each test that was left says
sized : (c : Else-bad_logs) → let a = c.args in ltb 6 a.log2_w || ltb 6 a.log2_h ≡ false
sized c = sym c.bad_logs.ensures ∙ c.if-bad_logs.false

deep : (c : Else-bad_depth) → outside 8 14 c.args.depth ≡ false
deep c = sym c.bad_depth.ensures ∙ c.if-bad_depth.false

pub returns-then-bad_logs : goal.returns-then-bad_logs
returns-then-bad_logs c =
    let a = c.args in
    let both = diff-size a.log2_w a.log2_h a.depth (A (goal.at.returns-then-bad_logs c).Start) (B (goal.at.returns-then-bad_logs c).Start) a.diff.now (sym c.bad_logs.ensures ∙ c.if-bad_logs.true) in record { answer = both.0; exit = both.1 }

-- the sides
wide : (c : Else-bad_logs) → let a = c.args in shifted a.log2_w ≡ 2 ^ a.log2_w
wide c = let a = c.args in shifted-is a.log2_w (logs-small a.log2_w a.log2_h (sized c)).0

high : (c : Else-bad_logs) → let a = c.args in shifted a.log2_h ≡ 2 ^ a.log2_h
high c = let a = c.args in shifted-is a.log2_h (logs-small a.log2_w a.log2_h (sized c)).1

pub overflow_shl-w : goal.overflow_shl-w
overflow_shl-w c = let a = c.args in omega (arith, (logs-small a.log2_w a.log2_h (sized c)).0)

pub overflow_shl-h : goal.overflow_shl-h
overflow_shl-h c = let a = c.args in omega (arith, (logs-small a.log2_w a.log2_h (sized c)).1)

pub returns-then-bad_depth : goal.returns-then-bad_depth
returns-then-bad_depth c =
    let a = c.args in
    let both = diff-depth a.log2_w a.log2_h a.depth (A (goal.at.returns-then-bad_depth c).Start) (B (goal.at.returns-then-bad_depth c).Start) a.diff.now (shifted a.log2_w)
    (shifted a.log2_h) (wide (goal.at.returns-then-bad_depth c).Else-bad_logs) (high (goal.at.returns-then-bad_depth c).Else-bad_logs) (sized (goal.at.returns-then-bad_depth c).Else-bad_logs) (sym c.bad_depth.ensures ∙ c.if-bad_depth.true) in record { answer = both.0; exit = both.1 }

-- the sides are small
small :
    (c : Else-bad_logs) →
    let a = c.args in
    ((1 ≤ shifted a.log2_w) × (shifted a.log2_w ≤ 64)) × ((1 ≤ shifted a.log2_h) × (shifted a.log2_h ≤ 64))
small c =
    let a = c.args in
    let k = logs-small a.log2_w a.log2_h (sized c) in
    (side-small a.log2_w (shifted a.log2_w) (wide c) k.0, side-small a.log2_h (shifted a.log2_h) (high c) k.1)

pub overflow_mul-n : goal.overflow_mul-n
overflow_mul-n c =
    let k = small (goal.at.overflow_mul-n c).Else-bad_logs in
    let p = mul-le-mul k.1.1 k.0.1 in
    omega arith

-- what the areas' tests find is what the definition asks
areas :
    (c : After-outside_plane) →
    let a = c.args in
    let w = shifted a.log2_w in
    let h = shifted a.log2_h in
    let org = is_outside_plane (length a.org.now) a.width a.height a.stride a.x a.y w h in
    let cur = is_outside_plane (length a.cur.now) w h w 0 0 w h in
    ((1 ≤ w) × (w ≤ 64)) × ((1 ≤ h) × (h ≤ 64)) →
    org || cur || ltb (length a.diff.now) (h * w) ≡ c.outside_plane.result || ltb (length a.cur.now) (h * w) || ltb (length a.diff.now) (h * w)
areas c k =
    let a = c.args in
    let w = shifted a.log2_w in
    let h = shifted a.log2_h in
    let org = is_outside_plane (length a.org.now) a.width a.height a.stride a.x a.y w h in
    ap (λ (t : Bool). t || ltb (length a.diff.now) (h * w))
    (areas-found c.outside_plane.result org (length a.cur.now) w h k.0 k.1 c.outside_plane.ensures)

pub returns-then-outside_plane-cur : goal.returns-then-outside_plane-cur
returns-then-outside_plane-cur c =
    let a = c.args in
    let both = diff-area a.log2_w a.log2_h a.depth (A (goal.at.returns-then-outside_plane-cur c).Start) (B (goal.at.returns-then-outside_plane-cur c).Start) a.diff.now (shifted a.log2_w)
    (shifted a.log2_h) (wide (goal.at.returns-then-outside_plane-cur c).Else-bad_logs) (high (goal.at.returns-then-outside_plane-cur c).Else-bad_logs) (sized (goal.at.returns-then-outside_plane-cur c).Else-bad_logs) (deep (goal.at.returns-then-outside_plane-cur c).Else-bad_depth) (areas (goal.at.returns-then-outside_plane-cur c).After-outside_plane (small (goal.at.returns-then-outside_plane-cur c).Else-bad_logs) ∙ c.if-outside_plane-cur.true) in record { answer = both.0; exit = both.1 }

-- else both blocks lie inside their buffers, and the differences have room
inside :
    (c : Else-outside_plane-cur) →
    let a = c.args in
    let w = shifted a.log2_w in
    let h = shifted a.log2_h in
    TwoBlocks w h (length a.org.now) (a.y * a.stride + a.x) a.stride (length a.cur.now) 0 w × (h * w ≤ length a.diff.now)
inside c =
    let a = c.args in
    let w = shifted a.log2_w in
    let h = shifted a.log2_h in
    let k = small (goal.at.overflow_mul-pair c).Else-bad_logs in
    let org = is_outside_plane (length a.org.now) a.width a.height a.stride a.x a.y w h in
    let cur = is_outside_plane (length a.cur.now) w h w 0 0 w h in
    let room = ltb (length a.diff.now) (h * w) in
    let f = areas (goal.at.overflow_mul-pair c).After-outside_plane k ∙ c.if-outside_plane-cur.false in
    let g = neither_left (org || cur) room f in (
      record {
        narrow = k.0.1;
        low = k.1.1;
        one =
            rows_inside (length a.org.now) a.width a.height a.stride a.x a.y w h k.1.0
            (is-inside (length a.org.now) a.width a.height a.stride a.x a.y w h (neither_left org cur g));
        two = omega (arith, (is-inside (length a.cur.now) w h w 0 0 w h (neither_right org cur g)).formed.long);
      },
      ltb-false (length a.diff.now) (h * w) (neither_right (org || cur) room f),
    )

pub overflow_mul-pair : goal.overflow_mul-pair
overflow_mul-pair c = omega (arith, (inside c).0.one)

pub overflow_add-pair : goal.overflow_add-pair
overflow_add-pair c = omega (arith, (inside c).0.one)

pub invariant_of-pair : goal.invariant_of-pair
invariant_of-pair c = record { inside = (inside c).0 }

pub of_blocks-requires : goal.of_blocks-requires
of_blocks-requires c =
    record {
      deep = (outside-no 8 14 _ (deep (goal.at.of_blocks-requires c).Else-bad_depth)).1;
      room = (inside (goal.at.of_blocks-requires c).Else-outside_plane-cur).1;
    }

pub returns : goal.returns
returns c =
    let a = c.args in
    let w = shifted a.log2_w in
    let h = shifted a.log2_h in
    let p = plane-alike a.org.now a.width a.height a.stride a.x a.y w h a.depth (a.y * a.stride + a.x) refl in
    let q = plane-alike a.cur.now w h w 0 0 w h a.depth 0 (omega arith) in
    let both = diff-rest a.log2_w a.log2_h a.depth (A (goal.at.returns c).Start) (B (goal.at.returns c).Start) a.diff.now w h
    (wide (goal.at.returns c).Else-bad_logs) (high (goal.at.returns c).Else-bad_logs) (sized (goal.at.returns c).Else-bad_logs) (deep (goal.at.returns c).Else-bad_depth) (areas (goal.at.returns c).After-outside_plane (small (goal.at.returns c).Else-bad_logs) ∙ c.if-outside_plane-cur.false)
    (differed-alike (small (goal.at.returns c).Else-bad_logs).0.0 p q c.of_blocks.ensures) in record { answer = both.0; exit = both.1 }
