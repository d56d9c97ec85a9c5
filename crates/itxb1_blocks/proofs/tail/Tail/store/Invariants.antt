-- `itxb1_blocks::tail::Tail::store` meets its contract: line after line. Assumes nothing.
use Rattle.itx_halving.proofs.Places.{Lanes}
use Rattle.itxb1_blocks.specs.Halves.{tail_cell}
use Rattle.itxb1_blocks.proofs.tail.Tail.store.Given as goal

abbrev pub invariant-loop-j : goal.invariant-loop-j
invariant-loop-j g l = Lanes (tail_cell l.self.shift l.self.h.now l.self.a.now l.self.c.now) g.row.N l.j0 l.initial.dst l.dst l.j
