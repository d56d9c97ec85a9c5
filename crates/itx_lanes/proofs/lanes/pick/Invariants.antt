-- `itx_lanes::lanes::pick` meets its contract: input after input. Assumes nothing.
use Rattle.itx_lanes.proofs.Steps.{Picking}
use Rattle.itx_lanes.proofs.lanes.pick.Given as goal

abbrev pub invariant-loop-k : goal.invariant-loop-k
invariant-loop-k l = Picking l.s l.q l.m l.j l.x l.k
