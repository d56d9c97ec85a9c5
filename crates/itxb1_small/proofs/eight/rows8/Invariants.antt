-- `itxb1_small::eight::rows8` meets its contract: group after group. Assumes nothing.
use mathlib.Core.Path.{◌≡◌}
use Prim.Native.Nat.{◌*◌, ◌-◌, ◌≤◌}
use Rattle.integers.specs.Lists.{written}
use Rattle.evc.specs.Table.{tm}
use Rattle.evc.specs.Stages.{stage_two_at}
use Rattle.itxb1_small.proofs.eight.rows8.Given as goal

abbrev pub invariant-loop-i : goal.invariant-loop-i
invariant-loop-i l = ((l.n * l.m ≡ l.l) × (l.m ≤ 8)) × ((l.i ≤ l.n) × (l.dst ≡ written (l.i * l.m * 8) (stage_two_at (tm 8) 8 l.l l.r.shift l.src) l.initial.dst))

abbrev pub decreases-loop-i : goal.decreases-loop-i
decreases-loop-i l = l.n - l.i
