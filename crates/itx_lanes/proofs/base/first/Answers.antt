-- `itx_lanes::base::first` meets its contract: two bytes times 16 bits, added. Assumes nothing.
use borrow.Author.Rules.{sfits_of}
use mathlib.Core.Path.{◌∙◌, sym, subst}
use mathlib.Core.List.{List, [], ◌∷◌}
use Prim.Native.Nat.{ℕ, ◌+◌}
use lib.ListN.{get_or}
use lib.IntN.{ℤ, pos}
use mir.Syntax.{w8, w16, w32}
use Rattle.integers.proofs.Bound.{Within, within-sfits}
use Rattle.integers.proofs.Expr.{Ex, var, add, mul, loc, bare, Known, arg, small, env, fit, reads}
use Rattle.itx_lanes.proofs.Bounds.{top_within}
use Rattle.itx_lanes.proofs.Steps.{two-terms, two-narrow}
use Rattle.itx_lanes.proofs.base.first.Goals.{After-result-3-1, After-result-4-1, Start}
use Rattle.itx_lanes.proofs.base.first.Goals as goal

-- the two numbers of the table; of the other any byte is small enough, so that a wrong row is refused for its product
abbrev upper : Start → Known
upper s =
    small w8 (get_or s.args.t.now s.args.n (pos 0)) 90
    (subst (λ (l : List ℤ). Within 90 (get_or l s.args.n (pos 0))) (sym s.requires.0) (top_within s.args.n s.requires.1))
    tt

abbrev lower : After-result-3-1 → Known
lower c = arg w8 (get_or c.args.t.now _ (pos 0)) (sfits_of c.result-3-1.given)

-- and the two inputs
abbrev known : After-result-4-1 → ℕ → Known
known c =
    env (
    upper (goal.at.overflow_cast-result-4 c).Start
    ∷ arg w16 (get_or c.args.s.now c.args.j (pos 0)) (sfits_of c.result-2-1.given)
    ∷ lower (goal.at.overflow_cast-result-4 c).After-result-3-1
    ∷ arg w16 (get_or c.args.s.now (512 + c.args.j) (pos 0)) (sfits_of c.result-4-1.given)
    ∷ []
    )

abbrev one : Ex
one = loc w32 (mul (loc w32 (var 0)) (loc w32 (var 1)))

abbrev other : Ex
other = loc w32 (mul (loc w32 (var 2)) (loc w32 (var 3)))

pub overflow_cast-result : goal.overflow_cast-result
overflow_cast-result c = fit (env (upper (goal.at.overflow_cast-result c).Start ∷ [])) w32 (var 0) tt

pub overflow_cast-result-2 : goal.overflow_cast-result-2
overflow_cast-result-2 c = fit (env (arg w16 (get_or c.args.s.now c.args.j (pos 0)) (sfits_of c.result-2-1.given) ∷ [])) w32 (var 0) tt

pub overflow_mul-result : goal.overflow_mul-result
overflow_mul-result c =
    fit (env (upper (goal.at.overflow_mul-result c).Start ∷ arg w16 (get_or c.args.s.now c.args.j (pos 0)) (sfits_of c.result-2-1.given) ∷ [])) w32
    (bare one) tt

pub overflow_cast-result-3 : goal.overflow_cast-result-3
overflow_cast-result-3 c = fit (env (lower c ∷ [])) w32 (var 0) tt

pub overflow_cast-result-4 : goal.overflow_cast-result-4
overflow_cast-result-4 c = fit (known c) w32 (var 3) tt

pub overflow_mul-result-2 : goal.overflow_mul-result-2
overflow_mul-result-2 c = fit (known c) w32 (bare other) tt

pub overflow_add-result-3 : goal.overflow_add-result-3
overflow_add-result-3 c = fit (known c) w32 (add one other) tt

pub returns : goal.returns
returns c =
    record {
      is = reads (known c) (loc w32 (add one other)) tt ∙ two-terms c.args.t.now c.args.s.now c.args.n c.args.j c.requires.0;
      narrow =
          two-narrow (within-sfits {w = w16} {z = get_or c.args.s.now c.args.j (pos 0)} (sfits_of c.result-2-1.given)).bound
          (within-sfits {w = w16} {z = get_or c.args.s.now (512 + c.args.j) (pos 0)} (sfits_of c.result-4-1.given)).bound;
    }
