-- `itx_lines::line::term` meets its contract: a byte times 32 bits fits 64. Assumes nothing.
use borrow.Author.Rules.{sfits_of}
use mathlib.Core.Path.{sym, subst}
use mathlib.Core.List.{[], ◌∷◌}
use Prim.Native.Nat.{ℕ, ◌≤◌}
use lib.ListN.{get_or}
use lib.IntN.{ℤ, pos, nat_abs}
use mir.Syntax.{w8, w64}
use Rattle.integers.proofs.Expr.{var, mul, loc, Known, arg, small, env, within, reads, fit}
use Rattle.itx_halving.specs.Line.{line}
use Rattle.itx_lines.proofs.line.term.Goals.{After-result-1}
use Rattle.itx_lines.proofs.line.term.Goals as goal

-- the table'c number and the input
abbrev known : After-result-1 → ℕ → Known
known c =
    env (
    arg w8 (get_or c.args.t.now c.args.at (pos 0)) (sfits_of c.result-1.given)
    ∷ small w64 (line c.args.x.now c.args.i) 2147483648 (record { bound = c.requires.1.small }) tt
    ∷ []
    )

pub overflow_cast-result : goal.overflow_cast-result
overflow_cast-result c = fit (known c) w64 (var 0) tt

pub overflow_mul-result : goal.overflow_mul-result
overflow_mul-result c = fit (known (goal.at.overflow_mul-result c).After-result-1) w64 (mul (loc w64 (var 0)) (var 1)) tt

pub returns : goal.returns
returns c =
    let e = reads (known (goal.at.returns c).After-result-1) (loc w64 (mul (loc w64 (var 0)) (var 1))) tt in
    record { is = e; small = subst (λ (z : ℤ). nat_abs z ≤ 274877906944) (sym e) (within (known (goal.at.returns c).After-result-1) (mul (var 0) (var 1))).bound }
