-- `itx_lanes::base::base` meets its contract: lane after lane, from nothing to size 8. Assumes nothing.
use mathlib.Core.Path.{◌≡◌}
use lib.ListN.{length}
use Rattle.itx_lanes.proofs.Passes.{Places, Passed}
use Rattle.itx_lanes.proofs.base.base.Given as goal

abbrev pub invariant-loop-j : goal.invariant-loop-j
invariant-loop-j l = Passed (λ i l. length l ≡ 64) (Places l.s 4 4 8) l.initial.e l.e l.j
