-- `itxb0_small::store::store_i32` meets its contract: place after place. Assumes nothing.
use borrow.Author.Rules.{sfits_of}
use mathlib.Core.Path.{ap, ◌∙◌, subst}
use mathlib.Core.List.{[], ◌∷◌}
use Prim.Native.Nat.{ℕ, ◌*◌}
use native.Mathlib.Omega.{arith}
use lib.ListN.{get_or}
use lib.IntN.{pos}
use mir.Syntax.{w32, w64}
use mir.Val.{to_z, of_z}
use Rattle.integers.specs.Z.{clip32}
use Rattle.integers.proofs.Expr.{var, loc, Known, arg, env, fit, reads}
use Rattle.itx_halving.specs.Lines.{Next}
use Rattle.itx_halving.proofs.Lines.{next-none, next_more}
use Rattle.integers.proofs.Bits.{back}
use Rattle.itxb0_small.proofs.store.store_i32.Goals.{After-clip32-arg-1}
use Rattle.itxb0_small.proofs.store.store_i32.Goals as goal

-- the sum read
abbrev known : After-clip32-arg-1 → ℕ → Known
known c = env (arg w32 (get_or c.args.y.now c.loop-k.k (pos 0)) (sfits_of c.clip32-arg-1.given) ∷ [])

pub loop-k-init : goal.loop-k-init
loop-k-init c = (omega arith, next-none)

pub offset_bounds-y-k : goal.offset_bounds-y-k
offset_bounds-y-k c = omega (arith, c.requires.0)

pub bounds-y-k : goal.bounds-y-k
bounds-y-k c = omega (arith, c.requires.0)

pub overflow_cast-y : goal.overflow_cast-y
overflow_cast-y c = fit (known c) w64 (var 0) tt

pub clip32-requires : goal.clip32-requires
clip32-requires c = tt

pub overflow_mul-j : goal.overflow_mul-j
overflow_mul-j c = omega (arith, c.requires.1)

pub overflow_add-j : goal.overflow_add-j
overflow_add-j c = omega (arith, c.requires.1)

pub offset_bounds-dst-j : goal.offset_bounds-dst-j
offset_bounds-dst-j c = omega (arith, c.requires.1)

pub bounds-dst-j : goal.bounds-dst-j
bounds-dst-j c = omega (arith, c.requires.1, c.loop-k.invariant.1.long)

pub overflow_step-k : goal.overflow_step-k
overflow_step-k c = omega arith

pub loop-k-smaller : goal.loop-k-smaller
loop-k-smaller c = omega arith

pub loop-k-preserved : goal.loop-k-preserved
loop-k-preserved c = (
  omega arith,
  next_more (to_z w32 (of_z w32 c.clip32.result)) c.loop-k.invariant.1
      (back w32 c.clip32.result c.clip32.type_inv ∙ c.clip32.ensures ∙ ap clip32 (reads (known (goal.at.loop-k-preserved c).After-clip32-arg-1) (loc w64 (var 0)) tt)),
)

pub shape_of-dst : goal.shape_of-dst
shape_of-dst c = c.loop-k.invariant.1.long

pub returns : goal.returns
returns c =
    let a = c.args in
    subst (λ (k : ℕ). Next a.dst.now c.loop-k.dst (a.j * a.n) k (λ i. clip32 (get_or a.y.now i (pos 0))))
    (omega arith) c.loop-k.invariant.1
