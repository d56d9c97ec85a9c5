-- `itxb1_blocks::halves::row` meets its contract: place after place. Assumes nothing.
use Prim.Native.Nat.{◌+◌, ◌≤◌}
use lib.ListN.{get_or}
use lib.IntN.{pos}
use Rattle.itx_halving.specs.Blocks.{Run}
use Rattle.itxb1_blocks.proofs.halves.row.Given as goal

abbrev pub invariant-loop-j : goal.invariant-loop-j
invariant-loop-j g l = (l.j ≤ 16) × Run l.initial.s l.s l.to l.j (λ i. g.H.Half.part (get_or l.src (l.from + i) (pos 0)))
