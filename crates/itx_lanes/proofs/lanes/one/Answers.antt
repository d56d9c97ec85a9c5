-- `itx_lanes::lanes::one` meets its contract: a byte times 16 bits, added. Assumes nothing.
use mathlib.Core.Path.{◌∙◌, sym, subst}
use mathlib.Core.List.{List, [], ◌∷◌}
use Prim.Native.Nat.{ℕ, ◌+◌, ◌*◌}
use native.Mathlib.Omega.{arith}
use native.Mathlib.Nat.{le_of_lt}
use lib.ListN.{get_or}
use lib.IntN.{ℤ, pos}
use mir.Syntax.{w8, w32}
use Rattle.integers.proofs.Bound.{Within}
use Rattle.integers.proofs.Expr.{Ex, var, add, mul, loc, bare, Known, small, env, fit, reads}
use Rattle.itx_lanes.proofs.Bounds.{entry-within, row, terms-within}
use Rattle.itx_lanes.proofs.Steps.{terms-more}
use Rattle.itx_lanes.proofs.lanes.one.Goals.{Start}
use Rattle.itx_lanes.proofs.lanes.one.Goals as goal

-- where the table is read
abbrev at : Start → ℕ
at s = (2 * s.args.k + 1) * s.args.q * 64 + s.args.n

-- the sum so far, the table's number and the input
abbrev known : Start → ℕ → Known
known s =
    let g = s.requires.0 in
    env (
    small w32 s.args.z 94371840 (subst (Within 94371840) (sym s.requires.2) (terms-within g s.args.k (le_of_lt s.requires.1))) tt
    ∷ small w8 (get_or s.args.t.now (at s) (pos 0)) 90
    (subst (λ (l : List ℤ). Within 90 (get_or l (at s) (pos 0))) (sym g.table) (entry-within _ s.args.n (row g s.args.k s.requires.1) g.column))
    tt
    ∷ small w32 (get_or s.args.x.now s.args.k (pos 0)) 32768 (record { bound = g.small s.args.k s.requires.1 }) tt
    ∷ []
    )

abbrev product : Ex
product = loc w32 (mul (loc w32 (var 1)) (var 2))

pub overflow_mul-result-3 : goal.overflow_mul-result-3
overflow_mul-result-3 c = omega (arith, row c.requires.0 c.args.k c.requires.1)

pub overflow_cast-result : goal.overflow_cast-result
overflow_cast-result c = fit (known (goal.at.overflow_cast-result c).Start) w32 (var 1) tt

pub overflow_mul-result-4 : goal.overflow_mul-result-4
overflow_mul-result-4 c = fit (known (goal.at.overflow_mul-result-4 c).Start) w32 (bare product) tt

pub overflow_add-result-3 : goal.overflow_add-result-3
overflow_add-result-3 c = fit (known (goal.at.overflow_add-result-3 c).Start) w32 (add (var 0) product) tt

pub returns : goal.returns
returns c = reads (known (goal.at.returns c).Start) (loc w32 (add (var 0) product)) tt ∙ terms-more _ _ _ _ _ _ c.requires.0.table c.requires.2
