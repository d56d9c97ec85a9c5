-- `itxb0_small::narrow::line2` meets its contract: four products. Assumes nothing.
use native.Mathlib.Omega.{arith}
use mir.Syntax.{w32}
use Rattle.itx_halving.specs.Line.{rows}
use Rattle.itxb0_small.specs.Sums.{narrow}
use Rattle.itx_halving.proofs.Straight.{there}
use Rattle.itx_halving.proofs.Small.{pair_fits, line-two-is}
use Rattle.itxb0_small.proofs.narrow.line2.Goals as goal

pub term-requires : goal.term-requires
term-requires c = there c.requires 0 0 (omega arith) (omega arith)

pub term-requires-2 : goal.term-requires-2
term-requires-2 c = there c.requires 1 0 (omega arith) (omega arith)

pub overflow_add-a : goal.overflow_add-a
overflow_add-a c = pair_fits w32 narrow tt c.term.ensures c.term-2.ensures

pub term-requires-3 : goal.term-requires-3
term-requires-3 c = there c.requires 0 1 (omega arith) (omega arith)

pub term-requires-4 : goal.term-requires-4
term-requires-4 c = there c.requires 1 1 (omega arith) (omega arith)

pub overflow_add-b : goal.overflow_add-b
overflow_add-b c = pair_fits w32 narrow tt c.term-3.ensures c.term-4.ensures

pub returns : goal.returns
returns c =
    let a = c.args in
    line-two-is w32 narrow tt (rows a.t.now a.w) a.l a.x.now a.j c.term.ensures
    c.term-2.ensures c.term-3.ensures c.term-4.ensures
