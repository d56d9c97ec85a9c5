-- `itxb1_small::store::store_quotients` meets its contract: place after place. Assumes nothing.
use Prim.Native.Nat.{◌*◌, ◌-◌, ◌≤◌}
use lib.ListN.{get_or}
use lib.IntN.{pos}
use Rattle.integers.specs.Z.{floor_pow, clip32}
use Rattle.itx_halving.specs.Lines.{Next}
use Rattle.itxb1_small.proofs.store.store_quotients.Given as goal

abbrev pub invariant-loop-k : goal.invariant-loop-k
invariant-loop-k l = (l.k ≤ l.n) × Next l.initial.z l.z (l.j * l.n) l.k (λ i. clip32 (floor_pow (get_or l.y i (pos 0)) l.shift))

abbrev pub decreases-loop-k : goal.decreases-loop-k
decreases-loop-k l = l.n - l.k
