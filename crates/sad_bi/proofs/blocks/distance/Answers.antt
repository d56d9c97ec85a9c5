-- `sad_bi::blocks::distance` meets its contract. Assumes nothing.
use Rattle.std.proofs.Common.{ℕ, [], ◌∷◌, nat_abs, ap, ◌∙◌, arith, w16, w32}
use Rattle.integers.proofs.Expr.{Ex, Known, env, arg, nat, var, sub, loc, reads, within}
use Rattle.sad_bi.specs.Totals.{apart_bi}
use Rattle.sad_bi.proofs.blocks.distance.Goals.{Start}
use Rattle.sad_bi.proofs.blocks.distance.Goals as goal

abbrev ρ : Start → ℕ → Known
ρ c = env (arg w16 c.args.v c.ranges.v ∷ nat w32 c.args.q 65535 (omega arith) tt ∷ [])

abbrev difference : Ex
difference = sub (loc w32 (var 0)) (var 1)

pub returns : goal.returns
unfolding apart_bi
returns c =
    let b = (goal.at.returns c).Start in
    let e = c.abs_diff.ensures ∙ ap nat_abs (reads (ρ b) difference tt) in
    (e, omega (arith, e, (within (ρ b) difference).bound))
