-- `ssd::ssd::evce_ssd_16i` meets its contract: each refusal is the first broken test, and what is left is read alike. Assumes nothing.
use mathlib.Core.Path.{◌≡◌, sym, ◌∙◌}
use mathlib.Core.Bool.{false, ◌||◌}
use Prim.Native.Nat.{ℕ}
use native.Mathlib.Omega.{arith}
use lib.Dec.{ltb}
use lib.ListN.{length}
use mir.Facts.{to_z-of_z}
use Rattle.evc.specs.Tests.{outside}
use Rattle.evc.specs.Planes.{Block, at_edges, plane_of}
use Rattle.evc.proofs.Tests.{outside-no}
use Rattle.plane_tests.specs.Areas.{is_outside_edges}
use Rattle.plane_tests.proofs.SmallSides.{logs-small, shifted}
use Rattle.block_rows.specs.Edges.{EdgesIn}
use Rattle.block_rows.proofs.AtEdges.{edges-in, edges-alike}
use Rattle.ssd.proofs.ssd.Ends.{ssd-alike, ssd-totalled}
use Rattle.ssd.proofs.ssd.Logs.{shifted-sides, ssd-size, ssd-depth, ssd-area, ssd-second, ssd-rest}
use Rattle.ssd.proofs.ssd.evce_ssd_16i.Goals.{Start, Else-bad_depth, Else-bad_logs, Else-outside_edges, Else-outside_edges-2}
use Rattle.ssd.proofs.ssd.evce_ssd_16i.Goals as goal

-- the two blocks, by their sides
abbrev A : Start → ℕ → ℕ → Block
A c w h = let a = c.args in at_edges (plane_of a.one.now a.width1 a.height1 a.stride1) a.x a.y w h a.depth

abbrev B : Start → ℕ → ℕ → Block
B c w h = let a = c.args in at_edges (plane_of a.two.now a.width2 a.height2 a.stride2) a.x a.y w h a.depth

-- what each test that was left says
sized : (c : Else-bad_logs) → let a = c.args in ltb 6 a.log2_w || ltb 6 a.log2_h ≡ false
sized c = sym c.bad_logs.ensures ∙ c.if-bad_logs.false

deep : (c : Else-bad_depth) → outside 8 14 c.args.depth ≡ false
deep c = sym c.bad_depth.ensures ∙ c.if-bad_depth.false

-- the positions come as their bits
one :
    (c : Else-outside_edges) →
    let a = c.args in
    is_outside_edges (length a.one.now) a.width1 a.height1 a.stride1 a.x a.y (shifted a.log2_w) (shifted a.log2_h) ≡ false
one c =
    let f = c.ranges in
    rw (to_z-of_z f.x, to_z-of_z f.y) at (sym c.outside_edges.ensures ∙ c.if-outside_edges.false)

two :
    (c : Else-outside_edges-2) →
    let a = c.args in
    is_outside_edges (length a.two.now) a.width2 a.height2 a.stride2 a.x a.y (shifted a.log2_w) (shifted a.log2_h) ≡ false
two c =
    let f = c.ranges in
    rw (to_z-of_z f.x, to_z-of_z f.y) at (sym c.outside_edges-2.ensures ∙ c.if-outside_edges-2.false)

pub returns-then-bad_logs : goal.returns-then-bad_logs
returns-then-bad_logs c =
    let a = c.args in
    ssd-size a.log2_w a.log2_h a.depth (A (goal.at.returns-then-bad_logs c).Start) (B (goal.at.returns-then-bad_logs c).Start) (sym c.bad_logs.ensures ∙ c.if-bad_logs.true)

pub overflow_shl-w : goal.overflow_shl-w
overflow_shl-w c = let a = c.args in omega (arith, (logs-small a.log2_w a.log2_h (sized c)).0)

pub overflow_shl-h : goal.overflow_shl-h
overflow_shl-h c = let a = c.args in omega (arith, (logs-small a.log2_w a.log2_h (sized c)).1)

pub returns-then-bad_depth : goal.returns-then-bad_depth
returns-then-bad_depth c =
    let a = c.args in
    ssd-depth a.log2_w a.log2_h a.depth (A (goal.at.returns-then-bad_depth c).Start) (B (goal.at.returns-then-bad_depth c).Start) (sized (goal.at.returns-then-bad_depth c).Else-bad_logs) (sym c.bad_depth.ensures ∙ c.if-bad_depth.true)

pub returns-then-outside_edges : goal.returns-then-outside_edges
returns-then-outside_edges c =
    let a = c.args in
    ssd-area a.log2_w a.log2_h a.depth (A (goal.at.returns-then-outside_edges c).Start) (B (goal.at.returns-then-outside_edges c).Start) (sized (goal.at.returns-then-outside_edges c).Else-bad_logs) (deep (goal.at.returns-then-outside_edges c).Else-bad_depth)
    (rw (to_z-of_z c.ranges.x, to_z-of_z c.ranges.y) at (sym c.outside_edges.ensures ∙ c.if-outside_edges.true))

pub returns-then-outside_edges-2 : goal.returns-then-outside_edges-2
returns-then-outside_edges-2 c =
    let a = c.args in
    ssd-second a.log2_w a.log2_h a.depth (A (goal.at.returns-then-outside_edges-2 c).Start) (B (goal.at.returns-then-outside_edges-2 c).Start) (sized (goal.at.returns-then-outside_edges-2 c).Else-bad_logs) (deep (goal.at.returns-then-outside_edges-2 c).Else-bad_depth)
    (one (goal.at.returns-then-outside_edges-2 c).Else-outside_edges) (rw (to_z-of_z c.ranges.x, to_z-of_z c.ranges.y) at (sym c.outside_edges-2.ensures ∙ c.if-outside_edges-2.true))

-- both blocks read inside their planes
ready :
    (c : Else-outside_edges-2) →
    let a = c.args in
    let w = shifted a.log2_w in
    let h = shifted a.log2_h in
    EdgesIn (length a.one.now) a.stride1 a.x a.y w h × EdgesIn (length a.two.now) a.stride2 a.x a.y w h
ready c =
    let a = c.args in
    let w = shifted a.log2_w in
    let h = shifted a.log2_h in
    let k = shifted-sides a.log2_w a.log2_h (sized (goal.at.invariant_of-total c).Else-bad_logs) in (
      edges-in (length a.one.now) a.width1 a.height1 a.stride1 a.x a.y w h k.0 k.1 (one (goal.at.invariant_of-total c).Else-outside_edges),
      edges-in (length a.two.now) a.width2 a.height2 a.stride2 a.x a.y w h k.0 k.1 (two c),
    )

pub invariant_of-total : goal.invariant_of-total
invariant_of-total c =
    let f = c.ranges in
    record { first = rw (to_z-of_z f.x, to_z-of_z f.y) (ready c).0; second = rw (to_z-of_z f.x, to_z-of_z f.y) (ready c).1 }

pub end-requires : goal.end-requires
end-requires c = ((outside-no 8 14 _ (deep (goal.at.end-requires c).Else-bad_depth)).1, omega (arith, c.total-t.ensures.most))

pub returns : goal.returns
returns c =
    let a = c.args in
    let w = shifted a.log2_w in
    let h = shifted a.log2_h in
    let p = edges-alike a.one.now a.width1 a.height1 a.stride1 a.x a.y w h a.depth in
    let q = edges-alike a.two.now a.width2 a.height2 a.stride2 a.x a.y w h a.depth in
    ssd-alike p q a.depth (c.end.ensures ∙ ssd-totalled w h a.depth _ _ (rw (to_z-of_z c.ranges.x, to_z-of_z c.ranges.y) at c.total-t.ensures))
    ∙ ssd-rest a.log2_w a.log2_h a.depth (A (goal.at.returns c).Start) (B (goal.at.returns c).Start) (sized (goal.at.returns c).Else-bad_logs) (deep (goal.at.returns c).Else-bad_depth) (one (goal.at.returns c).Else-outside_edges) (two (goal.at.returns c).Else-outside_edges-2)
