-- `sad::rows::gap` meets its contract. Assumes nothing.
use Rattle.std.proofs.Common.{ℕ, [], ◌∷◌, nat_abs, ap, ◌∙◌, arith}
use mir.Syntax.{w32}
use Rattle.integers.proofs.Expr.{Known, env, nat, var, sub, loc, reads}
use Rattle.integers.proofs.Parts.{abs-dif}
use Rattle.block_rows.specs.Totals.{apart}
use Rattle.sad.proofs.rows.gap.Goals as goal

pub returns-then-w-eq4-clause-value : goal.returns-then-w-eq4-clause-value
unfolding apart
returns-then-w-eq4-clause-value c =
    c.unsigned_abs.ensures.value ∙ ap nat_abs (reads known (loc w32 (sub (var 0) (var 1))) tt)
  where
    known : ℕ → Known
    known = env (nat w32 c.args.p 65535 (omega arith) tt ∷ nat w32 c.args.q 65535 (omega arith) tt ∷ [])

pub returns-else-w-eq4-clause-value : goal.returns-else-w-eq4-clause-value
unfolding apart
returns-else-w-eq4-clause-value c = rw (c.abs_diff.ensures, abs-dif c.args.p c.args.q) (omega arith)
