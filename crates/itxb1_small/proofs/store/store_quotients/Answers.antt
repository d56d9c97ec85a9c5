-- `itxb1_small::store::store_quotients` meets its contract: place after place. Assumes nothing.
use borrow.Author.Rules.{sfits_of}
use mathlib.Core.Path.{ap, ◌∙◌, subst}
use Prim.Native.Nat.{ℕ, ◌+◌, ◌*◌, ◌<◌}
use native.Mathlib.Omega.{arith}
use lib.ListN.{length, get_or}
use lib.IntN.{ℤ, pos}
use mir.Syntax.{w32, w64}
use mir.Val.{SFits, to_z, of_z}
use mir.Facts.{to_z-of_z}
use Rattle.integers.specs.Z.{floor_pow, clip32}
use Rattle.itx_halving.specs.Lines.{Next}
use Rattle.itx_halving.proofs.Lines.{place, next-none, next_more}
use Rattle.integers.proofs.Bits.{back}
use Rattle.itxb1_small.proofs.store.store_quotients.Goals.{After-quotient}
use Rattle.itxb1_small.proofs.store.store_quotients.Goals as goal

pub loop-k-init : goal.loop-k-init
loop-k-init c = (omega arith, next-none)

pub offset_bounds-y-k : goal.offset_bounds-y-k
offset_bounds-y-k c = omega (arith, c.requires.1.0)

pub bounds-y-k : goal.bounds-y-k
bounds-y-k c = omega (arith, c.requires.1.0)

pub quotient-requires : goal.quotient-requires
quotient-requires c =
    let k = c.loop-k.k in
    let fe : SFits w64 (get_or c.args.y.now k (pos 0)) = sfits_of c.quotient-arg-1.given in
    rw (to_z-of_z fe) (c.requires.0.0, c.requires.0.1 k c.loop-k-test.true)

-- the place with line and place exchanged has room too: a wrong order is refused for what it writes, not for where
across :
    (c : After-quotient) →
    let s = c in
    c.loop-k.k * s.args.n + s.args.j < length s.args.z.now
across c =
    let s = c in
    place c.loop-k.k s.args.n s.args.j s.args.n _ c.loop-k-test.true s.requires.1.1.1.0 s.requires.1.1.1.1

pub overflow_mul-j : goal.overflow_mul-j
overflow_mul-j c = omega (arith, c.requires.1.1.0, across c)

pub overflow_add-j : goal.overflow_add-j
overflow_add-j c = omega (arith, c.requires.1.1.0, across c)

pub offset_bounds-z-j : goal.offset_bounds-z-j
offset_bounds-z-j c = omega (arith, c.requires.1.1.0, across c)

pub bounds-z-j : goal.bounds-z-j
bounds-z-j c = omega (arith, c.requires.1.1.0, across c, c.loop-k.invariant.1.long)

pub overflow_step-k : goal.overflow_step-k
overflow_step-k c = omega arith

pub loop-k-smaller : goal.loop-k-smaller
loop-k-smaller c = omega arith

pub loop-k-preserved : goal.loop-k-preserved
loop-k-preserved c =
    let k = c.loop-k.k in
    let fe : SFits w64 (get_or c.args.y.now k (pos 0)) = sfits_of c.quotient-arg-1.given in (
      omega arith,
      next_more (to_z w32 (of_z w32 c.quotient.result)) c.loop-k.invariant.1
          (back w32 c.quotient.result c.quotient.type_inv ∙ c.quotient.ensures ∙ ap (λ (v : ℤ). clip32 (floor_pow v c.args.shift)) (to_z-of_z fe)),
    )

pub shape_of-z : goal.shape_of-z
shape_of-z c = c.loop-k.invariant.1.long

pub returns : goal.returns
returns c =
    let a = c.args in
    subst (λ (k : ℕ). Next a.z.now c.loop-k.z (a.j * a.n) k (λ i. clip32 (floor_pow (get_or a.y.now i (pos 0)) a.shift)))
    (omega arith) c.loop-k.invariant.1
