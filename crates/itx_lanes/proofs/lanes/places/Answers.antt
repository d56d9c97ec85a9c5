-- `itx_lanes::lanes::places` meets its contract: place after place. Assumes nothing.
use mathlib.Core.Path.{◌≡◌, ◌∙◌}
use Prim.Native.Nat.{◌<◌}
use native.Mathlib.Omega.{arith}
use mir.Syntax.{w32}
use Rattle.integers.proofs.Bits.{back}
use Rattle.itx_lanes.proofs.AsLine.{kept-none}
use Rattle.itx_lanes.proofs.Steps.{halves, terms-of, odd-small, moved_more, stepped}
use Rattle.itx_lanes.proofs.lanes.places.Goals as goal

pub loop-n-init : goal.loop-n-init
loop-n-init c = (c.requires.1.0, λ s g. record { lane = g.lane; kept = kept-none })

pub odd-z-requires : goal.odd-z-requires
odd-z-requires c = (terms-of c.requires.0 _ (omega (arith, c.requires.1.1)), c.requires.0.given.picks.long)

pub put-requires : goal.put-requires
put-requires c =
    let r = c.requires.0 in
    let h : c.loop-n.n < c.args.m = omega (arith, c.requires.1.1, c.loop-n-test.true) in
    let v = c.loop-n.invariant.1 r.block r.given in
    halves v.lane h (odd-small r c.loop-n.n h (back w32 _ c.odd-z.type_inv ∙ c.odd-z.ensures))

pub loop-n-preserved : goal.loop-n-preserved
loop-n-preserved c =
    let h : c.loop-n.n < c.args.m = omega (arith, c.requires.1.1, c.loop-n-test.true) in
    (omega arith, λ s g. moved_more (c.loop-n.invariant.1 s g) g.picks h (back w32 _ c.odd-z.type_inv ∙ c.odd-z.ensures) c.put.ensures)

pub returns : goal.returns
returns c =
    let e : c.loop-n.n ≡ c.args.b = omega (arith, c.loop-n.invariant.0, c.loop-n-test.false) in
    stepped c.requires.0 (rw e at c.loop-n.invariant.1)
