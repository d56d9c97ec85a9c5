-- `itx::both::with_block` meets its contract: the prefix that is lent is as many zeros as the area has samples. Assumes nothing.
use mathlib.Core.Path.{sym}
use native.Mathlib.Omega.{arith}
use lib.IntN.{pos}
use lib.ListN.{length-replicate}
use lib.Seq.{length-take-le}
use Rattle.itx.proofs.both.Ends.{by-zeros}
use Rattle.itx.proofs.both.with_block.Goals as goal

pub whole_as_front-stages_over : goal.whole_as_front-stages_over
whole_as_front-stages_over g c = (c.requires.0, omega (arith, c.requires.1))

pub slice_bounds-stages_over-end : goal.slice_bounds-stages_over-end
slice_bounds-stages_over-end g c = sym (length-take-le _ _ (rw (length-replicate g.row.N (pos 0)) c.requires.0))

pub returns : goal.returns
returns g c =
    by-zeros c.args.log2_w c.args.log2_h c.args.shift c.args.part.now g.row.N c.requires.0 _ c.stages_over.ensures
