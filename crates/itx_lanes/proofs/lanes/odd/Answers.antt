-- `itx_lanes::lanes::odd` meets its contract: term after term. Assumes nothing.
use mathlib.Core.Path.{◌≡◌, ap, ◌∙◌}
use Prim.Native.Nat.{ℕ}
use native.Mathlib.Omega.{arith}
use mir.Syntax.{w32}
use Rattle.integers.proofs.Bits.{back}
use Rattle.itx_lanes.specs.Steps.{terms}
use Rattle.itx_lanes.proofs.Steps.{terms-none}
use Rattle.itx_lanes.proofs.lanes.odd.Goals as goal

pub loop-k-init : goal.loop-k-init
loop-k-init c = (omega arith, terms-none _ _ _)

pub one-z-requires : goal.one-z-requires
one-z-requires c =
    (c.requires.0, omega (arith, c.requires.1, c.loop-k-test.true), c.loop-k.invariant.1)

pub loop-k-preserved : goal.loop-k-preserved
loop-k-preserved c = (omega (arith, c.loop-k-test.true), back w32 _ c.one-z.type_inv ∙ c.one-z.ensures)

pub returns : goal.returns
returns c =
    let e : c.loop-k.k ≡ c.args.m = omega (arith, c.loop-k.invariant.0, c.loop-k-test.false) in
    c.loop-k.invariant.1 ∙ ap (λ (i : ℕ). terms c.args.x.now c.args.q i c.args.n) e
