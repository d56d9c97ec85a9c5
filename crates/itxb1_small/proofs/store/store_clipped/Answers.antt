-- `itxb1_small::store::store_clipped` meets its contract: place after place. Assumes nothing.
use borrow.Author.Rules.{sfits_of}
use mathlib.Core.Path.{ap, ◌∙◌, subst}
use mathlib.Core.List.{[], ◌∷◌}
use Prim.Native.Nat.{ℕ}
use native.Mathlib.Omega.{arith}
use lib.ListN.{get_or}
use lib.IntN.{pos}
use mir.Syntax.{w16, w32, w64}
use mir.Val.{to_z, of_z}
use Rattle.integers.specs.Z.{clip16}
use Rattle.integers.proofs.Expr.{var, loc, Known, arg, env, fit, reads}
use Rattle.itx_halving.specs.Lines.{Next}
use Rattle.itx_halving.proofs.Lines.{next_more}
use Rattle.integers.proofs.Bits.{back}
use Rattle.itxb1_small.proofs.store.store_clipped.Goals.{After-clip16-arg-1}
use Rattle.itxb1_small.proofs.store.store_clipped.Goals as goal

-- the number that is clipped
abbrev known : After-clip16-arg-1 → ℕ → Known
known c = env (arg w32 (get_or c.args.z.now c.loop-i.i (pos 0)) (sfits_of c.clip16-arg-1.given) ∷ [])

pub overflow_cast-z : goal.overflow_cast-z
overflow_cast-z c = fit (known c) w64 (var 0) tt

pub loop-i-preserved : goal.loop-i-preserved
loop-i-preserved c = (
  omega arith,
  next_more (to_z w16 (of_z w16 c.clip16.result)) c.loop-i.invariant.1
      (back w16 c.clip16.result c.clip16.type_inv ∙ c.clip16.ensures ∙ ap clip16 (reads (known (goal.at.loop-i-preserved c).After-clip16-arg-1) (loc w64 (var 0)) tt)),
)

pub returns : goal.returns
returns c =
    let a = c.args in
    subst (λ (k : ℕ). Next a.dst.now c.loop-i.dst a.at k (λ i. clip16 (get_or a.z.now i (pos 0))))
    (omega arith) c.loop-i.invariant.1
