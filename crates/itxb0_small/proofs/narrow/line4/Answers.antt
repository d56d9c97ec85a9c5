-- `itxb0_small::narrow::line4` meets its contract: from the half as large, by the halving step. Assumes nothing.
use native.Mathlib.Omega.{arith}
use lib.Dec.{lit<}
use mir.Syntax.{w32}
use Rattle.itxb0_small.specs.Sums.{narrow}
use Rattle.itx_halving.proofs.Straight.{there, half-reach}
use Rattle.itx_halving.proofs.Small.{Halves, pair_fits, low0-fits, low1-fits, high1-fits, high0-fits, turned1-fits, turned0-fits, line-four-is}
use Rattle.itxb0_small.proofs.narrow.line4.Goals.{After-term-4}
use Rattle.itxb0_small.proofs.narrow.line4.Goals as goal

pub overflow_add-w : goal.overflow_add-w
overflow_add-w c = omega (arith, (there c.requires.0 3 0 (omega arith) (omega arith)).0)

pub overflow_add-l : goal.overflow_add-l
overflow_add-l c = omega (arith, (there c.requires.0 3 0 (omega arith) (omega arith)).1)

pub line2-e-requires : goal.line2-e-requires
line2-e-requires c = half-reach 2 c.requires.0

pub term-requires : goal.term-requires
term-requires c = there c.requires.0 1 0 (omega arith) (omega arith)

pub term-requires-2 : goal.term-requires-2
term-requires-2 c = there c.requires.0 3 0 (omega arith) (omega arith)

pub overflow_add-a : goal.overflow_add-a
overflow_add-a c = pair_fits w32 narrow tt c.term.ensures c.term-2.ensures

pub term-requires-3 : goal.term-requires-3
term-requires-3 c = there c.requires.0 1 1 (omega arith) (omega arith)

pub term-requires-4 : goal.term-requires-4
term-requires-4 c = there c.requires.0 3 1 (omega arith) (omega arith)

pub overflow_add-b : goal.overflow_add-b
overflow_add-b c = pair_fits w32 narrow tt c.term-3.ensures c.term-4.ensures

halves :
    (c : After-term-4) →
    let a = c.args in
    Halves narrow a.t.now a.w a.x.now a.l a.j c.line2-e.result c.term.result
    c.term-2.result c.term-3.result c.term-4.result
halves c = record {
  even = c.line2-e.ensures;
  first1 = c.term.ensures;
  first3 = c.term-2.ensures;
  second1 = c.term-3.ensures;
  second3 = c.term-4.ensures;
}

pub bounds-e-0 : goal.bounds-e-0
bounds-e-0 c = lit< tt

pub bounds-e-1 : goal.bounds-e-1
bounds-e-1 c = lit< tt

pub overflow_add-result : goal.overflow_add-result
overflow_add-result c = low0-fits w32 narrow tt (halves (goal.at.overflow_add-result c).After-term-4)

pub overflow_add-result-2 : goal.overflow_add-result-2
overflow_add-result-2 c = low1-fits w32 narrow tt (halves (goal.at.overflow_add-result-2 c).After-term-4)

pub overflow_sub-result : goal.overflow_sub-result
overflow_sub-result c = let h = halves (goal.at.overflow_sub-result c).After-term-4 in search (high1-fits w32 narrow tt h, turned1-fits w32 narrow tt h)

pub overflow_sub-result-2 : goal.overflow_sub-result-2
overflow_sub-result-2 c = let h = halves (goal.at.overflow_sub-result-2 c).After-term-4 in search (high0-fits w32 narrow tt h, turned0-fits w32 narrow tt h)

pub returns : goal.returns
returns c = line-four-is w32 narrow tt (halves (goal.at.returns c).After-term-4) c.requires.1
