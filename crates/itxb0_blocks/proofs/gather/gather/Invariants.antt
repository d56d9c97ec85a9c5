-- `itxb0_blocks::gather::gather` meets its contract: row after row. Assumes nothing.
use Prim.Native.Nat.{◌≤◌}
use Rattle.itx_halving.specs.Blocks.{input, Rows}
use Rattle.itxb0_blocks.proofs.gather.gather.Given as goal

abbrev pub invariant-loop-k : goal.invariant-loop-k
invariant-loop-k g l = (l.k ≤ g.row.N) × Rows l.s l.p l.k (input l.src l.l l.j0)
