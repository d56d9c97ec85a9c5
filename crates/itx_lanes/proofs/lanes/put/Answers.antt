-- `itx_lanes::lanes::put` meets its contract: the sum and the difference of the halves. Assumes nothing.
use mathlib.Core.List.{[], ◌∷◌}
use Prim.Native.Nat.{ℕ, ◌+◌, ◌*◌}
use lib.ListN.{get_or}
use lib.IntN.{pos}
use mir.Syntax.{w32}
use Rattle.integers.proofs.Expr.{var, add, sub, loc, Known, small, env, fit, reads}
use Rattle.itx_lanes.specs.Steps.{crossed}
use Rattle.itx_lanes.proofs.lanes.put.Goals.{Start}
use Rattle.itx_lanes.proofs.lanes.put.Goals as goal

-- the two halves
abbrev known : Start → ℕ → Known
known s =
    env (
    small w32 (get_or s.args.e.now (s.args.n * 16 + s.args.j) (pos 0)) 94371840 (record { bound = s.requires.even }) tt
    ∷ small w32 s.args.z 94371840 (record { bound = s.requires.odd }) tt
    ∷ []
    )

pub overflow_add-e : goal.overflow_add-e
overflow_add-e c = fit (known (goal.at.overflow_add-e c).Start) w32 (add (var 0) (var 1)) tt

-- the difference fits, whichever half is taken from the other: which it is, is the result's business
pub overflow_sub-e : goal.overflow_sub-e
overflow_sub-e c = search (fit (known (goal.at.overflow_sub-e c).Start) w32 (sub (var 0) (var 1)) tt, fit (known (goal.at.overflow_sub-e c).Start) w32 (sub (var 1) (var 0)) tt)

pub returns : goal.returns
unfolding crossed
returns c = rw (reads (known (goal.at.returns c).Start) (loc w32 (add (var 0) (var 1))) tt, reads (known (goal.at.returns c).Start) (loc w32 (sub (var 0) (var 1))) tt)
