-- `ssd::ssd::evce_ssd_16b` meets its contract: each refusal is the first broken test, and what is left is read alike. Assumes nothing.
use mathlib.Core.Path.{◌≡◌, refl, sym, ◌∙◌}
use mathlib.Core.Bool.{false, ◌||◌}
use Prim.Native.Nat.{ℕ, ◌+◌, ◌*◌}
use native.Mathlib.Omega.{arith}
use lib.Dec.{ltb}
use lib.ListN.{length}
use Rattle.evc.specs.Tests.{outside}
use Rattle.evc.specs.Planes.{Block, in_plane, in_packed, plane_of}
use Rattle.evc.proofs.Tests.{outside-no}
use Rattle.plane_tests.specs.Areas.{is_outside_plane}
use Rattle.plane_tests.specs.Blocks.{TwoBlocks}
use Rattle.plane_tests.proofs.Planes.{planes-hold, plane-alike}
use Rattle.plane_tests.proofs.SmallSides.{logs-small, shifted}
use Rattle.ssd.proofs.ssd.Ends.{ssd-alike, ssd-totalled}
use Rattle.ssd.proofs.ssd.Logs.{shifted-sides, ssd-size, ssd-depth, ssd-area, ssd-second, ssd-rest}
use Rattle.ssd.proofs.ssd.evce_ssd_16b.Goals.{Start, Else-bad_depth, Else-bad_logs, Else-outside_plane, Else-outside_plane-2}
use Rattle.ssd.proofs.ssd.evce_ssd_16b.Goals as goal

-- the two blocks, by their sides
abbrev A : Start → ℕ → ℕ → Block
A c w h = let a = c.args in in_plane (plane_of a.org.now a.width a.height a.stride) a.x a.y w h a.depth

abbrev B : Start → ℕ → ℕ → Block
B c w h = let a = c.args in in_packed a.cur.now w h a.depth

-- what each test that was left says
sized : (c : Else-bad_logs) → let a = c.args in ltb 6 a.log2_w || ltb 6 a.log2_h ≡ false
sized c = sym c.bad_logs.ensures ∙ c.if-bad_logs.false

deep : (c : Else-bad_depth) → outside 8 14 c.args.depth ≡ false
deep c = sym c.bad_depth.ensures ∙ c.if-bad_depth.false

one :
    (c : Else-outside_plane) →
    let a = c.args in
    is_outside_plane (length a.org.now) a.width a.height a.stride a.x a.y (shifted a.log2_w) (shifted a.log2_h) ≡ false
one c = sym c.outside_plane.ensures ∙ c.if-outside_plane.false

two :
    (c : Else-outside_plane-2) →
    let a = c.args in
    is_outside_plane (length a.cur.now) (shifted a.log2_w) (shifted a.log2_h) (shifted a.log2_w) 0 0 (shifted a.log2_w) (shifted a.log2_h)
    ≡ false
two c = sym c.outside_plane-2.ensures ∙ c.if-outside_plane-2.false

pub returns-then-bad_logs : goal.returns-then-bad_logs
returns-then-bad_logs c =
    let a = c.args in
    ssd-size a.log2_w a.log2_h a.depth (A (goal.at.returns-then-bad_logs c).Start) (B (goal.at.returns-then-bad_logs c).Start) (sym c.bad_logs.ensures ∙ c.if-bad_logs.true)

pub overflow_shl-w : goal.overflow_shl-w
overflow_shl-w c = let a = c.args in omega (arith, (logs-small a.log2_w a.log2_h (sized c)).0)

pub overflow_shl-h : goal.overflow_shl-h
overflow_shl-h c = let a = c.args in omega (arith, (logs-small a.log2_w a.log2_h (sized c)).1)

pub returns-then-bad_depth : goal.returns-then-bad_depth
returns-then-bad_depth c =
    let a = c.args in
    ssd-depth a.log2_w a.log2_h a.depth (A (goal.at.returns-then-bad_depth c).Start) (B (goal.at.returns-then-bad_depth c).Start) (sized (goal.at.returns-then-bad_depth c).Else-bad_logs) (sym c.bad_depth.ensures ∙ c.if-bad_depth.true)

pub returns-then-outside_plane : goal.returns-then-outside_plane
returns-then-outside_plane c =
    let a = c.args in
    ssd-area a.log2_w a.log2_h a.depth (A (goal.at.returns-then-outside_plane c).Start) (B (goal.at.returns-then-outside_plane c).Start) (sized (goal.at.returns-then-outside_plane c).Else-bad_logs) (deep (goal.at.returns-then-outside_plane c).Else-bad_depth)
    (sym c.outside_plane.ensures ∙ c.if-outside_plane.true)

pub returns-then-outside_plane-2 : goal.returns-then-outside_plane-2
returns-then-outside_plane-2 c =
    let a = c.args in
    ssd-second a.log2_w a.log2_h a.depth (A (goal.at.returns-then-outside_plane-2 c).Start) (B (goal.at.returns-then-outside_plane-2 c).Start) (sized (goal.at.returns-then-outside_plane-2 c).Else-bad_logs) (deep (goal.at.returns-then-outside_plane-2 c).Else-bad_depth)
    (one (goal.at.returns-then-outside_plane-2 c).Else-outside_plane) (sym c.outside_plane-2.ensures ∙ c.if-outside_plane-2.true)

-- both blocks lie inside their buffers
blocks :
    (c : Else-outside_plane-2) →
    let a = c.args in
    TwoBlocks (shifted a.log2_w) (shifted a.log2_h) (length a.org.now) (a.y * a.stride + a.x) a.stride (length a.cur.now) 0
    (shifted a.log2_w)
blocks c =
    let a = c.args in
    let k = shifted-sides a.log2_w a.log2_h (sized (goal.at.overflow_mul-y c).Else-bad_logs) in
    planes-hold (length a.org.now) a.width a.height a.stride a.x a.y (length a.cur.now) (shifted a.log2_w) (shifted a.log2_h) k.0 k.1
    (one (goal.at.overflow_mul-y c).Else-outside_plane) (two c)

pub overflow_mul-y : goal.overflow_mul-y
overflow_mul-y c = omega (arith, (blocks c).one)

pub overflow_add-y : goal.overflow_add-y
overflow_add-y c = omega (arith, (blocks c).one)

pub invariant_of-ssd_block : goal.invariant_of-ssd_block
invariant_of-ssd_block c = record { inside = blocks c }

pub end-requires : goal.end-requires
end-requires c = ((outside-no 8 14 _ (deep (goal.at.end-requires c).Else-bad_depth)).1, omega (arith, c.ssd_block-t.ensures.most))

pub returns : goal.returns
returns c =
    let a = c.args in
    let w = shifted a.log2_w in
    let h = shifted a.log2_h in
    let p = plane-alike a.org.now a.width a.height a.stride a.x a.y w h a.depth (a.y * a.stride + a.x) refl in
    let q = plane-alike a.cur.now w h w 0 0 w h a.depth 0 (omega arith) in
    ssd-alike p q a.depth (c.end.ensures ∙ ssd-totalled w h a.depth _ _ c.ssd_block-t.ensures)
    ∙ ssd-rest a.log2_w a.log2_h a.depth (A (goal.at.returns c).Start) (B (goal.at.returns c).Start) (sized (goal.at.returns c).Else-bad_logs) (deep (goal.at.returns c).Else-bad_depth) (one (goal.at.returns c).Else-outside_plane) (two (goal.at.returns c).Else-outside_plane-2)
