-- `itx_lanes::lanes::odd` meets its contract: term after term. Assumes nothing.
use mathlib.Core.Path.{◌≡◌}
use Prim.Native.Nat.{◌≤◌}
use Rattle.itx_lanes.specs.Steps.{terms}
use Rattle.itx_lanes.proofs.lanes.odd.Given as goal

abbrev pub invariant-loop-k : goal.invariant-loop-k
invariant-loop-k l = (l.k ≤ l.m) × (l.z ≡ terms l.x l.q l.k l.n)
