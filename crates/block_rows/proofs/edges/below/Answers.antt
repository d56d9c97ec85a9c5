-- `block_rows::edges::below` meets its contract. Assumes nothing.
use mathlib.Core.Path.{ap, ◌∙◌, subst}
use mathlib.Core.List.{[], ◌∷◌}
use Prim.Native.Nat.{ℕ}
use native.Mathlib.Omega.{arith}
use lib.IntN.{ℤ, pos, nat_abs}
use lib.Signed.{◌≤ℤ◌, ◌<ℤ◌}
use mir.Syntax.{w16, w32, w64}
use mir.Facts.{to_z-of_z}
use Rattle.integers.proofs.Order.{<ℤ-≤ℤ}
use Rattle.integers.proofs.Bits.{lt-held, lt-failed}
use Rattle.integers.proofs.Expr.{Ex, Known, env, arg, var, lit, sub, loc, fit, reads, within, to-unsigned}
use Rattle.integers.proofs.Parts.{sub-nonneg}
use Rattle.block_rows.proofs.Signed.{minus-behind, none-behind}
use Rattle.block_rows.proofs.edges.below.Goals.{Start, Then-x-lt0}
use Rattle.block_rows.proofs.edges.below.Goals as goal

abbrev ρ : Start → ℕ → Known
ρ c = env (arg w16 c.args.x c.ranges.x ∷ [])

abbrev minus : Ex
minus = sub (lit (pos 0)) (loc w32 (var 0))

less : (c : Then-x-lt0) → c.args.x <ℤ pos 0
less c = subst (λ (z : ℤ). z <ℤ pos 0) (to_z-of_z c.ranges.x) (lt-held _ _ c.if-x-lt0.true)

pub overflow_cast-result : goal.overflow_cast-result
overflow_cast-result c = fit (ρ (goal.at.overflow_cast-result c).Start) w32 (var 0) tt

pub overflow_sub-result : goal.overflow_sub-result
overflow_sub-result c = fit (ρ (goal.at.overflow_sub-result c).Start) w32 minus tt

pub overflow_cast-result-then-x-lt0 : goal.overflow_cast-result-then-x-lt0
overflow_cast-result-then-x-lt0 c = to-unsigned (ρ (goal.at.overflow_cast-result-then-x-lt0 c).Start) w64 (loc w32 minus) tt tt (sub-nonneg (pos 0) c.args.x (<ℤ-≤ℤ (less c)))

pub returns-then-x-lt0 : goal.returns-then-x-lt0
returns-then-x-lt0 c =
    let e = ap nat_abs (reads (ρ (goal.at.returns-then-x-lt0 c).Start) (loc w32 minus) tt) in
    (e ∙ minus-behind c.args.x (less c), omega (arith, e, (within (ρ (goal.at.returns-then-x-lt0 c).Start) minus).bound))

pub returns-else-x-lt0 : goal.returns-else-x-lt0
returns-else-x-lt0 c =
    (none-behind c.args.x (subst (λ (z : ℤ). pos 0 ≤ℤ z) (to_z-of_z c.ranges.x) (lt-failed _ _ c.if-x-lt0.false)), omega arith)
