-- `itxb0_blocks::store::store_line` meets its contract: place after place. Assumes nothing.
use Prim.Native.Nat.{◌+◌, ◌*◌, ◌≤◌}
use lib.ListN.{get_or}
use lib.IntN.{pos}
use Rattle.integers.specs.Z.{clip32}
use Rattle.itx_halving.specs.Lines.{Next}
use Rattle.itxb0_blocks.proofs.store.store_line.Given as goal

abbrev pub invariant-loop-k : goal.invariant-loop-k
invariant-loop-k g l = (l.k ≤ g.row.N) × Next l.initial.dst l.dst l.a l.k (λ i. clip32 (get_or l.e (i * 16 + l.j) (pos 0)))
