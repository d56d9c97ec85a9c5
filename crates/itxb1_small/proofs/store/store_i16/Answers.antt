-- `itxb1_small::store::store_i16` meets its contract: place after place. Assumes nothing.
use mathlib.Core.Path.{sym, ap, ◌∙◌, subst}
use mathlib.Core.List.{[], ◌∷◌}
use Prim.Native.Nat.{ℕ, ◌*◌, ◌^◌}
use native.Mathlib.Omega.{arith}
use lib.ListN.{get_or}
use lib.IntN.{ℤ, pos, ◌+ℤ◌}
use lib.Signed.{shr_z}
use mir.Syntax.{w16, w64}
use mir.Val.{to_z, of_z}
use Rattle.itx_halving.specs.Lines.{shifted, Next}
use Rattle.integers.specs.Z.{clip16}
use Rattle.integers.proofs.Bound.{Within}
use Rattle.integers.proofs.Expr.{var, add, shr, loc, Known, small, env, fit, reads}
use Rattle.itx_halving.proofs.Lines.{next_more, rounding-within}
use Rattle.integers.proofs.Bits.{back}
use Rattle.itxb1_small.proofs.store.store_i16.Goals.{After-clip16-arg-1}
use Rattle.itxb1_small.proofs.store.store_i16.Goals as goal

pub bounds-y-k : goal.bounds-y-k
bounds-y-k c = omega (arith, c.requires.1.0)

-- the sum and its rounding number
abbrev known : After-clip16-arg-1 → ℕ → Known
known c =
    let k = c.loop-k.k in
    env (
    small w64 (get_or c.args.y.now k (pos 0)) 17592186044416 (record { bound = c.requires.0.small k c.loop-k-test.true }) tt
    ∷ small w64 c.args.r.add 2147483648 (subst (Within 2147483648) (sym c.args.r.amount.is) (rounding-within c.args.r.shift c.args.r.amount.most)) tt
    ∷ []
    )

pub overflow_add-y : goal.overflow_add-y
overflow_add-y c = fit (known (goal.at.overflow_add-y c).After-clip16-arg-1) w64 (add (var 0) (var 1)) tt

pub overflow_shr-y : goal.overflow_shr-y
overflow_shr-y c = omega (arith, c.args.r.amount.most)

pub loop-k-preserved : goal.loop-k-preserved
loop-k-preserved c =
    let k = c.loop-k.k in (
      omega arith,
      next_more (to_z w16 (of_z w16 c.clip16.result)) c.loop-k.invariant.1
          (back w16 c.clip16.result c.clip16.type_inv ∙ c.clip16.ensures
          ∙ ap clip16 (reads (known (goal.at.loop-k-preserved c).After-clip16-arg-1) (loc w64 (shr (loc w64 (add (var 0) (var 1))) c.args.r.shift)) tt)
          ∙ ap (λ (r : ℤ). clip16 (shr_z (get_or c.args.y.now k (pos 0) +ℤ r) (2 ^ c.args.r.shift))) c.args.r.amount.is),
    )

pub returns : goal.returns
returns c =
    let a = c.args in
    subst (λ (k : ℕ). Next a.dst.now c.loop-k.dst (a.j * a.n) k (λ i. shifted a.r.shift (get_or a.y.now i (pos 0))))
    (omega arith) c.loop-k.invariant.1
