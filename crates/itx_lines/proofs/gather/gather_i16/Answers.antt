-- `itx_lines::gather::gather_i16` meets its contract: input after input. Assumes nothing.
use borrow.Author.Rules.{sfits_of}
use mathlib.Core.Path.{sym, ◌∙◌, subst}
use mathlib.Core.List.{[], ◌∷◌}
use Prim.Native.Nat.{ℕ, ◌+◌, ◌*◌, ◌≤◌}
use native.Mathlib.Omega.{arith}
use lib.ListN.{length, get_or}
use lib.IntN.{ℤ, pos, nat_abs}
use mir.Syntax.{w16, w64}
use mir.Val.{SFits}
use Rattle.integers.proofs.Bound.{within-sfits, within-mono}
use Rattle.integers.proofs.Expr.{var, loc, Known, arg, env, fit, reads}
use Rattle.itx_halving.specs.Lines.{Gathered}
use Rattle.itx_halving.proofs.Lines.{gathered_none, gathered-more}
use Rattle.itx_lines.proofs.gather.Places.{Inside, inside}
use Rattle.itx_lines.proofs.gather.gather_i16.Goals.{After-x-1, In-loop-k}
use Rattle.itx_lines.proofs.gather.gather_i16.Goals as goal

-- the place read, and the one of the other order
at : (c : In-loop-k) → let a = c.args in Inside c.loop-k.k a.l a.j a.n (length a.src.now)
at c =
    let a = c.args in
    inside c.loop-k.k a.l a.j a.n _ c.loop-k-test.true c.requires.1.0 c.requires.1.1

module _ (c : After-x-1) where
  abbrev val : ℤ
  val = get_or c.args.src.now (c.loop-k.k * c.args.l + c.args.j) (pos 0)

  fits : SFits w16 val
  fits = sfits_of c.x-1.given

  abbrev known : ℕ → Known
  known = env (arg w16 val fits ∷ [])

pub loop-k-init : goal.loop-k-init
loop-k-init c = (omega arith, gathered_none c.requires.0)

pub overflow_cast-x : goal.overflow_cast-x
overflow_cast-x c = fit (known c) w64 (var 0) tt

pub loop-k-preserved : goal.loop-k-preserved
loop-k-preserved c = (
  omega arith,
  gathered-more _ c.loop-k.invariant.1 c.loop-k-test.true (reads (known c) (loc w64 (var 0)) tt)
      (subst (λ (z : ℤ). nat_abs z ≤ 2147483648) (sym (reads (known c) (loc w64 (var 0)) tt)) (within-mono (omega arith) (within-sfits (fits c))).bound),
)

pub shape_of-x : goal.shape_of-x
shape_of-x c = c.loop-k.invariant.1.long ∙ sym c.requires.0

pub returns : goal.returns
returns c =
    let a = c.args in
    subst (λ (k : ℕ). Gathered c.loop-k.x a.src.now a.n k a.l a.j) (omega arith) c.loop-k.invariant.1

pub overflow_mul-x : goal.overflow_mul-x
overflow_mul-x c = omega (arith, (at c).stands, (at c).turned)

pub overflow_add-x : goal.overflow_add-x
overflow_add-x c = omega (arith, (at c).stands, (at c).turned)

pub offset_bounds-src-k : goal.offset_bounds-src-k
offset_bounds-src-k c = omega (arith, (at c).stands, (at c).turned)

pub bounds-src-k : goal.bounds-src-k
bounds-src-k c = omega (arith, (at c).stands, (at c).turned)

pub offset_bounds-x-k : goal.offset_bounds-x-k
offset_bounds-x-k c = omega (arith, c.loop-k.invariant.1.long)

pub bounds-x-k : goal.bounds-x-k
bounds-x-k c = omega (arith, c.loop-k.invariant.1.long)

pub overflow_step-k : goal.overflow_step-k
overflow_step-k c = omega arith

pub loop-k-smaller : goal.loop-k-smaller
loop-k-smaller c = omega arith
