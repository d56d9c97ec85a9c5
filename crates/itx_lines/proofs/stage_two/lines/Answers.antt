-- `itx_lines::stage_two::lines` meets its contract: line after line, each gathered, summed, stored. Assumes nothing.
use native.Mathlib.Omega.{arith}
use Rattle.evc.specs.Table.{tm}
use Rattle.evc.specs.Stages.{stage_two_at}
use Rattle.itx_halving.specs.Lines.{shifted}
use Rattle.itx_halving.proofs.Lines.{inputs, lined, upto-none, upto-room, upto-more}
use Rattle.itx_halving.proofs.Instance.{built-in-bounded}
use Rattle.itx_lines.proofs.Sizes.{size-most}
use Rattle.itx_lines.proofs.stage_two.lines.Goals as goal

pub loop-j-init : goal.loop-j-init
loop-j-init g c = upto-none c.requires.1.dst-room

pub store_i16-requires : goal.store_i16-requires
store_i16-requires g c = (
  built-in-bounded g.row.N (inputs c.gather_i32.ensures (size-most g.row.N c.requires.0)) c.built_in.ensures,
  (omega (arith, c.built_in.ensures.long), upto-room c.loop-j.invariant c.loop-j-test.true),
)

pub loop-j-preserved : goal.loop-j-preserved
unfolding stage_two_at
loop-j-preserved g c =
    upto-more c.loop-j.invariant c.loop-j-test.true
    (lined (shifted c.args.r.shift) (tm g.row.N) g.row.N _ _ _ c.gather_i32.ensures c.built_in.ensures c.store_i16.ensures)
