-- `itxb1_small::store::store_i16` meets its contract: place after place. Assumes nothing.
use Prim.Native.Nat.{◌*◌, ◌-◌, ◌≤◌}
use lib.ListN.{get_or}
use lib.IntN.{pos}
use Rattle.itx_halving.specs.Lines.{shifted, Next}
use Rattle.itxb1_small.proofs.store.store_i16.Given as goal

abbrev pub invariant-loop-k : goal.invariant-loop-k
invariant-loop-k l = (l.k ≤ l.n) × Next l.initial.dst l.dst (l.j * l.n) l.k (λ i. shifted l.r.shift (get_or l.y i (pos 0)))

abbrev pub decreases-loop-k : goal.decreases-loop-k
decreases-loop-k l = l.n - l.k
