-- `itx_lanes::lanes::places` meets its contract: place after place. Assumes nothing.
use mathlib.Core.List.{List}
use Prim.Native.Nat.{◌≤◌}
use lib.IntN.{ℤ}
use Rattle.itx_lanes.specs.Steps.{Given, Moved}
use Rattle.itx_lanes.proofs.lanes.places.Given as goal

abbrev pub invariant-loop-n : goal.invariant-loop-n
invariant-loop-n l = (l.n ≤ l.b) × ((s : List ℤ) → Given s l.x l.initial.e l.m l.a l.j → Moved l.initial.e s l.e l.m l.n l.j)
