-- `dquant::area::Dequantizer::run` meets its contract. The invariant: the area is the entry's with its first places done. Assumes nothing.
use mathlib.Core.Path.{◌≡◌, ap, ◌∙◌}
use native.Mathlib.Omega.{arith}
use borrow.Author.Rules.{rules}
use lib.IntN.{pos}
use lib.ListN.{length, get_or}
use Rattle.integers.proofs.Bits.{back}
use mir.Syntax.{w16}
use Rattle.integers.proofs.Written.{written_none, written_step, written_read, written-map}
use Rattle.evc.specs.Dequantizer.{dequantized}
use Rattle.dquant.proofs.area.Dequantizer.run.Goals as goal

pub loop-v-init : goal.loop-v-init
loop-v-init c = written_none _ _

pub loop-v-preserved : goal.loop-v-preserved
loop-v-preserved c =
    let a = c.args in
    let h = c.loop-v in
    -- what is read there is the entry's, and what is stored there is that dequantized
    let old = back w16 (get_or h.area h.v-index (pos 0)) (search rules) ∙ written_read h.v-index _ a.area.now h.area h.v-index (pos 0) (omega arith) (omega arith) h.invariant in
    let new = back w16 c.one.result c.one.type_inv ∙ c.one.ensures ∙ ap (dequantized a.self.scale a.self.offset a.self.shift) old in
    written_step h.v-index _ a.area.now h.area _ (omega arith) h.invariant new

pub returns : goal.returns
returns c =
    let e : c.loop-v.v-index ≡ length c.args.area.now = omega arith in
    (rw e at c.loop-v.invariant) ∙ written-map _ c.args.area.now (pos 0)
