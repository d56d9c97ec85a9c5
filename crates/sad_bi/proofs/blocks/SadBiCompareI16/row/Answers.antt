-- `sad_bi::blocks::SadBi::row` meets its contract. Assumes nothing.
use Rattle.std.proofs.Common.{◌≡◌, ℕ, get_or, ℤ, pos, ap, ◌∙◌, arith, w16, to_z, of_z}
use lib.Bits.{bit_or}
use Rattle.integers.proofs.Bits.{back}
use Rattle.sad_bi.specs.Marks.{low_mark_of}
use Rattle.sad_bi.specs.Totals.{apart_bi}
use Rattle.block_rows.proofs.Running.{running-start, running-step, running-end, running-next}
use Rattle.sad_bi.proofs.blocks.SadBiCompareI16.row.Goals as goal

pub loop-i-init : goal.loop-i-init
loop-i-init c = running-start

pub overflow_add-sum : goal.overflow_add-sum
overflow_add-sum c = omega (arith, running-next c.loop-i.invariant (omega arith) c.args.rows.small c.distance-sum.ensures.1)

pub loop-i-preserved : goal.loop-i-preserved
loop-i-preserved c =
    let a = c.args in
    let z = get_or a.rows.a.now c.loop-i.i (pos 0) in
    let v : to_z w16 (of_z w16 z) ≡ z = back w16 z (omega arith) in
    running-step c.loop-i.invariant (omega arith) (c.distance-sum.ensures.0 ∙ ap (λ (z : ℤ). apart_bi z (get_or a.rows.b.now c.loop-i.i 0)) v)
    (ap (λ (m : ℕ). bit_or m (get_or a.rows.b.now c.loop-i.i 0)) (c.low_mark.ensures ∙ ap low_mark_of v)) c.distance-sum.ensures.1

pub returns : goal.returns
returns c = running-end c.loop-i.invariant (omega arith) c.args.rows.small
