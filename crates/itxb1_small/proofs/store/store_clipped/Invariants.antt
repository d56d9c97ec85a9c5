-- `itxb1_small::store::store_clipped` meets its contract: place after place. Assumes nothing.
use Prim.Native.Nat.{◌-◌, ◌≤◌}
use lib.ListN.{get_or}
use lib.IntN.{pos}
use Rattle.integers.specs.Z.{clip16}
use Rattle.itx_halving.specs.Lines.{Next}
use Rattle.itxb1_small.proofs.store.store_clipped.Given as goal

abbrev pub invariant-loop-i : goal.invariant-loop-i
invariant-loop-i l = (l.i ≤ l.n) × Next l.initial.dst l.dst l.at l.i (λ k. clip16 (get_or l.z k (pos 0)))

abbrev pub decreases-loop-i : goal.decreases-loop-i
decreases-loop-i l = l.n - l.i
