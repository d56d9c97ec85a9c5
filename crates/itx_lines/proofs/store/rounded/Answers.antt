-- `itx_lines::store::rounded` meets its contract. Assumes nothing.
use mathlib.Core.Path.{sym, ap, ◌∙◌, subst}
use mathlib.Core.List.{[], ◌∷◌}
use Prim.Native.Nat.{ℕ, ◌^◌}
use lib.IntN.{ℤ, ◌+ℤ◌}
use lib.Signed.{shr_z}
use mir.Syntax.{w16, w64}
use Rattle.integers.specs.Z.{clip16}
use Rattle.integers.proofs.Bound.{Within}
use Rattle.integers.proofs.Expr.{var, add, shr, loc, Known, small, env, fit, reads}
use Rattle.itx_halving.proofs.Lines.{rounding-within}
use Rattle.integers.proofs.Bits.{back}
use Rattle.itx_lines.proofs.store.rounded.Goals.{Start}
use Rattle.itx_lines.proofs.store.rounded.Goals as goal

-- the sum and its rounding number
abbrev known : Start → ℕ → Known
known s =
    env (
    small w64 s.args.v 17592186044416 (record { bound = s.requires }) tt
    ∷ small w64 s.args.r.add 2147483648 (subst (Within 2147483648) (sym s.args.r.amount.is) (rounding-within s.args.r.shift s.args.r.amount.most)) tt
    ∷ []
    )

pub overflow_add-v : goal.overflow_add-v
overflow_add-v c = fit (known (goal.at.overflow_add-v c).Start) w64 (add (var 0) (var 1)) tt

pub returns : goal.returns
returns c =
    back w16 c.clip16.result c.clip16.type_inv ∙ c.clip16.ensures
    ∙ ap clip16 (reads (known (goal.at.returns c).Start) (loc w64 (shr (loc w64 (add (var 0) (var 1))) c.args.r.shift)) tt)
    ∙ ap (λ (y : ℤ). clip16 (shr_z (c.args.v +ℤ y) (2 ^ c.args.r.shift))) c.args.r.amount.is
