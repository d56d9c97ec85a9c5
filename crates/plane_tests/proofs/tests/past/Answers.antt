-- `plane_tests::tests::past` meets its contract. Assumes nothing.
use mathlib.Core.Path.{ap, ◌∙◌}
use mathlib.Core.List.{[], ◌∷◌}
use Prim.Native.Nat.{ℕ, ◌+◌}
use lib.Dec.{ltb}
use lib.IntN.{ℤ, pos, nat_abs}
use mir.Syntax.{w16, w32, w64}
use Rattle.integers.proofs.Expr.{Ex, Known, env, arg, var, lit, add, loc, fit, reads, to-unsigned}
use Rattle.integers.proofs.Parts.{from_lowest}
use Rattle.plane_tests.proofs.Far.{past-far}
use Rattle.plane_tests.proofs.tests.past.Goals.{Start}
use Rattle.plane_tests.proofs.tests.past.Goals as goal

abbrev ρ : Start → ℕ → Known
ρ c = env (arg w16 c.args.x c.ranges.x ∷ [])

-- x counted from the lowest i16 on
abbrev from : Ex
from = add (loc w32 (var 0)) (lit (pos 32768))

pub overflow_cast-from : goal.overflow_cast-from
overflow_cast-from c = fit (ρ c) w32 (var 0) tt

pub overflow_add-from : goal.overflow_add-from
overflow_add-from c = fit (ρ c) w32 from tt

pub overflow_cast-from-2 : goal.overflow_cast-from-2
overflow_cast-from-2 c = to-unsigned (ρ c) w64 (loc w32 from) tt tt (from_lowest c.args.x c.ranges.x)

pub returns : goal.returns
returns c =
    let a = c.args in
    c.beyond.ensures ∙ ap (λ (z : ℤ). ltb (a.side + 32768) (nat_abs z + a.w)) (reads (ρ (goal.at.returns c).Start) (loc w32 from) tt)
    ∙ past-far a.x a.w a.side c.ranges.x
