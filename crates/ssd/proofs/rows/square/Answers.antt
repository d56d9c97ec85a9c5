-- `ssd::rows::square` meets its contract. Assumes nothing.
use mathlib.Core.Path.{ap, ◌∙◌}
use mathlib.Core.List.{[], ◌∷◌}
use Prim.Native.Nat.{ℕ}
use native.Mathlib.Omega.{arith}
use lib.IntN.{ℤ, pos, negsuc, nat_abs, ◌-ℤ◌, ◌*ℤ◌}
use lib.Signed.{◌≤ℤ◌}
use mir.Syntax.{w16, w32}
use Rattle.integers.proofs.Bound.{abs-mul}
use Rattle.integers.proofs.Order.{nat-≤}
use Rattle.integers.proofs.Expr.{Ex, Known, env, nat, var, sub, mul, loc, fit, reads, to-unsigned}
use Rattle.block_rows.specs.Totals.{apart}
use Rattle.ssd.proofs.rows.square.Goals.{Start}
use Rattle.ssd.proofs.rows.square.Goals as goal

abbrev ρ : Start → ℕ → Known
ρ c = env (nat w16 c.args.p 16383 (omega arith) tt ∷ nat w16 c.args.q 16383 (omega arith) tt ∷ [])

abbrev d : Ex
d = sub (var 0) (var 1)

abbrev e : Ex
e = loc w32 (loc w16 d)

no-square-negative : (z : ℤ) → pos 0 ≤ℤ (z *ℤ z)
no-square-negative (pos n) = nat-≤ (omega arith)
no-square-negative (negsuc n) = nat-≤ (omega arith)

pub overflow_sub-d : goal.overflow_sub-d
overflow_sub-d c = fit (ρ c) w16 d tt

pub overflow_cast-e : goal.overflow_cast-e
overflow_cast-e c = fit (ρ c) w32 (loc w16 d) tt

pub overflow_mul-result : goal.overflow_mul-result
overflow_mul-result c = fit (ρ c) w32 (mul e e) tt

pub overflow_cast-result : goal.overflow_cast-result
overflow_cast-result c = to-unsigned (ρ c) w32 (loc w32 (mul e e)) tt tt (no-square-negative (pos c.args.p -ℤ pos c.args.q))

pub returns : goal.returns
unfolding apart
returns c =
    let z = pos c.args.p -ℤ pos c.args.q in
    ap nat_abs (reads (ρ c) (loc w32 (mul e e)) tt) ∙ abs-mul z z
