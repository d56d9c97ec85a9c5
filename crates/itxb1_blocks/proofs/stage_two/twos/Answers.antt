-- `itxb1_blocks::stage_two::twos` meets its contract: block after block. Assumes nothing.
use mathlib.Core.Path.{◌∙◌}
use native.Mathlib.Omega.{arith}
use mir.Syntax.{w64}
use Rattle.integers.proofs.Bits.{back}
use Rattle.itx_halving.proofs.Lines.{amount}
use Rattle.itx_halving.proofs.Places.{blocks-room, blocks_more, blocks-all}
use Rattle.itxb1_blocks.proofs.stage_two.Products.{offsets_are}
use Rattle.itxb1_blocks.proofs.stage_two.twos.Goals as goal

pub two-requires : goal.two-requires
two-requires g c =
    let room = c.requires.room in
    let add_is = amount _ room.0 (back w64 c.rounding.result c.rounding.type_inv ∙ c.rounding.ensures) in (
      omega arith,
      (c.requires.size, (offsets_are g.row.N _ add_is c.requires.columns c.offsets.ensures, blocks-room c.loop-i.invariant room.1.0.src-room c.loop-i-test.true)),
    )

pub loop-i-preserved : goal.loop-i-preserved
loop-i-preserved g c = blocks_more c.loop-i.invariant c.loop-i-test.true c.two.ensures

pub returns : goal.returns
returns g c = blocks-all c.loop-i.invariant c.loop-i-test.false
