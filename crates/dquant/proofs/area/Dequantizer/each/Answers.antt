-- `dquant::area::Dequantizer::each` meets its contract. The invariant: the area is the entry's with its first i fours done. Assumes nothing.
use native.Mathlib.Omega.{arith}
use Rattle.integers.proofs.Grid.{wrote-start, wrote-row}
use Rattle.dquant.proofs.area.Fours.{four, fours-end}
use Rattle.dquant.proofs.area.Dequantizer.each.Goals as goal

pub loop-i-init : goal.loop-i-init
loop-i-init c = wrote-start (omega arith)

pub loop-i-preserved : goal.loop-i-preserved
loop-i-preserved c =
    let h = c.loop-i in
    wrote-row h.invariant c.loop-i-test.true _ (four _ c.args.area.now h.area h.i h.invariant c.loop-i-test.true _ c.run-in-loop-i.ensures)

pub returns-after-loop-i : goal.returns-after-loop-i
returns-after-loop-i c =
    let h = c.loop-i in
    fours-end _ c.args.area.now h.area h.i h.invariant c.if-area-ne0.false c.loop-i-test.false
