-- `itxb0_small::narrow::term` meets its contract: a byte times 16 bits fits 32. Assumes nothing.
use borrow.Author.Rules.{sfits_of}
use mathlib.Core.Path.{sym, subst}
use mathlib.Core.List.{[], ◌∷◌}
use Prim.Native.Nat.{ℕ, ◌≤◌}
use lib.IntN.{ℤ, nat_abs}
use mir.Syntax.{w8, w16, w32}
use Rattle.integers.proofs.Expr.{var, mul, loc, Known, arg, env, within, reads, fit}
use Rattle.itx_halving.specs.Line.{rows}
use Rattle.itxb0_small.specs.Sums.{narrow}
use Rattle.itxb0_small.proofs.narrow.term.Goals.{After-result-1, After-result-2-1}
use Rattle.itxb0_small.proofs.narrow.term.Goals as goal

-- the table's number and the input
abbrev entry : After-result-1 → Known
entry c = let a = c.args in arg w8 (rows a.t.now a.w a.k a.n) (sfits_of c.result-1.given)

abbrev known : After-result-2-1 → ℕ → Known
known c =
    let a = c.args in
    env (entry (goal.at.overflow_cast-result-2 c).After-result-1 ∷ arg w16 (rows a.x.now a.l a.k a.j) (sfits_of c.result-2-1.given) ∷ [])

pub overflow_cast-result : goal.overflow_cast-result
overflow_cast-result c = fit (env (entry c ∷ [])) w32 (var 0) tt

pub overflow_cast-result-2 : goal.overflow_cast-result-2
overflow_cast-result-2 c = fit (known c) w32 (var 1) tt

pub overflow_mul-result-3 : goal.overflow_mul-result-3
overflow_mul-result-3 c = fit (known c) w32 (mul (loc w32 (var 0)) (loc w32 (var 1))) tt

pub returns : goal.returns
returns c =
    let e = reads (known c) (loc w32 (mul (loc w32 (var 0)) (loc w32 (var 1)))) tt in
    record { is = e; small = subst (λ (z : ℤ). nat_abs z ≤ narrow) (sym e) (within (known c) (mul (var 0) (var 1))).bound }
