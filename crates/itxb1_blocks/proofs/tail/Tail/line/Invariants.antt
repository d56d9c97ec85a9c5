-- `itxb1_blocks::tail::Tail::line` meets its contract: place after place, four a turn. Assumes nothing.
use mathlib.Core.List.{List}
use Prim.Native.Nat.{◌+◌, ◌*◌, ◌/◌, ◌≤◌}
use lib.IntN.{ℤ}
use Rattle.itx_halving.specs.Lines.{Next}
use Rattle.itxb1_blocks.specs.Halves.{tail_cell}
use Rattle.itxb1_blocks.proofs.tail.Tail.line.Given as goal

-- within a turn: after whatever led to the turn's start
abbrev pub invariant-loop-r : goal.invariant-loop-r
invariant-loop-r g l =
    let cell = tail_cell l.self.shift l.self.h.now l.self.a.now l.self.c.now l.j in
    (l.r ≤ 4) × ((d : List ℤ) → Next d l.initial.dst l.at (4 * l.q) cell → Next d l.dst l.at (4 * l.q + l.r) cell)

abbrev pub invariant-loop-q : goal.invariant-loop-q
invariant-loop-q g l =
    (l.q ≤ g.row.N / 4) × Next l.initial.dst l.dst l.at (4 * l.q) (tail_cell l.self.shift l.self.h.now l.self.a.now l.self.c.now l.j)
