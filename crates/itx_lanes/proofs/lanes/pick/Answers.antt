-- `itx_lanes::lanes::pick` meets its contract: input after input. Assumes nothing.
use native.Mathlib.Omega.{arith}
use mir.Syntax.{w32}
use Rattle.integers.proofs.Bits.{back}
use Rattle.itx_lanes.proofs.Steps.{fewer, picking-none, picking-more, picking-all}
use Rattle.itx_lanes.proofs.lanes.pick.Goals as goal

pub loop-k-init : goal.loop-k-init
loop-k-init c = picking-none c.requires.0

pub input-requires : goal.input-requires
input-requires c = (fewer _ c.requires.1 (omega (arith, c.loop-k-test.true)), c.requires.2)

pub loop-k-preserved : goal.loop-k-preserved
loop-k-preserved c = picking-more c.loop-k.invariant c.loop-k-test.true (back w32 _ c.input.type_inv) c.input.ensures

pub returns : goal.returns
returns c = picking-all c.loop-k.invariant c.loop-k-test.false
