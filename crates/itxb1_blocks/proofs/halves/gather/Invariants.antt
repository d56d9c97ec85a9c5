-- `itxb1_blocks::halves::gather` meets its contract: row after row. Assumes nothing.
use Prim.Native.Nat.{◌≤◌}
use Rattle.itx_halving.specs.Blocks.{input, Rows}
use Rattle.itxb1_blocks.proofs.halves.gather.Given as goal

abbrev pub invariant-loop-k : goal.invariant-loop-k
invariant-loop-k g l = (l.k ≤ g.row.N) × Rows l.s l.p l.k (λ k j. g.H.Half.part (input l.src l.l l.j0 k j))
