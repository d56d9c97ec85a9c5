-- `itx_lanes::levels::rows` meets its contract: lane after lane. Assumes nothing.
use Prim.Native.Nat.{◌+◌, ◌/◌}
use Rattle.itx_lanes.proofs.Passes.{Places, Passed}
use Rattle.itx_lanes.proofs.levels.rows.Given as goal

abbrev pub invariant-loop-j : goal.invariant-loop-j
invariant-loop-j g l =
    let m = g.row.M in
    Passed (Places l.s m g.row.FROM (32 / m + 32 / m)) (Places l.s m g.row.TO (32 / m)) l.initial.e l.e l.j
