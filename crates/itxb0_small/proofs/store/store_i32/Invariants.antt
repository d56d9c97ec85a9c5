-- `itxb0_small::store::store_i32` meets its contract: place after place. Assumes nothing.
use Prim.Native.Nat.{◌*◌, ◌-◌, ◌≤◌}
use lib.ListN.{get_or}
use lib.IntN.{pos}
use Rattle.integers.specs.Z.{clip32}
use Rattle.itx_halving.specs.Lines.{Next}
use Rattle.itxb0_small.proofs.store.store_i32.Given as goal

abbrev pub invariant-loop-k : goal.invariant-loop-k
invariant-loop-k l = (l.k ≤ l.n) × Next l.initial.dst l.dst (l.j * l.n) l.k (λ i. clip32 (get_or l.y i (pos 0)))

abbrev pub decreases-loop-k : goal.decreases-loop-k
decreases-loop-k l = l.n - l.k
