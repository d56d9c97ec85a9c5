-- `dquant::area::Dequantizer::one` meets its contract. What the machine computes is written once, as an expression; each goal is read off it. Assumes
-- nothing.
use mathlib.Core.Path.{ap, ◌∙◌}
use mathlib.Core.List.{[], ◌∷◌}
use Prim.Native.Nat.{ℕ}
use borrow.Author.Rules.{rules}
use mir.Syntax.{w16, w32, w64}
use mir.Val.{SFits}
use Rattle.integers.specs.Z.{clip16}
use Rattle.integers.proofs.Bits.{back}
use Rattle.integers.proofs.Expr.{Ex, Known, env, arg, var, add, mul, shr, loc, fit, reads}
use Rattle.evc.specs.Dequantizer.{dequantized}
use Rattle.dquant.proofs.area.Dequantizer.one.Goals.{Start}
use Rattle.dquant.proofs.area.Dequantizer.one.Goals as goal

scale-fits : (c : Start) → SFits w32 c.args.self.scale
scale-fits c = search rules

offset-fits : (c : Start) → SFits w32 c.args.self.offset
offset-fits c = search rules

-- v, scale, offset
abbrev ρ : Start → ℕ → Known
ρ c = env (arg w16 c.args.v c.ranges.v ∷ arg w32 c.args.self.scale (scale-fits c) ∷ arg w32 c.args.self.offset (offset-fits c) ∷ [])

abbrev sum : Ex
sum = add (loc w64 (mul (loc w64 (var 0)) (loc w64 (var 1)))) (loc w64 (var 2))

pub overflow_add-sum : goal.overflow_add-sum
overflow_add-sum c = fit (ρ (goal.at.overflow_add-sum c).Start) w64 sum tt

pub returns : goal.returns
unfolding dequantized
returns c =
    back w16 c.clip16.result c.clip16.type_inv ∙ c.clip16.ensures
    ∙ ap clip16 (reads (ρ (goal.at.returns c).Start) (loc w64 (shr (loc w64 sum) c.args.self.shift)) tt)
