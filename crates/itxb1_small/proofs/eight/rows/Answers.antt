-- `itxb1_small::eight::rows` meets its contract: line after line, summed with document 01's table, and kept. Assumes nothing.
use mathlib.Core.Path.{◌≡◌, sym, ap, ap₂, ◌∙◌, subst}
use mathlib.Core.List.{[], ◌∷◌}
use Prim.Native.Nat.{ℕ, ◌+◌}
use native.Mathlib.Omega.{arith}
use lib.IntN.{ℤ, ◌+ℤ◌}
use mir.Syntax.{w64}
use mir.Val.{to_z, of_z}
use Rattle.integers.specs.Z.{floor_pow, clip32}
use Rattle.integers.proofs.Bound.{Within}
use Rattle.integers.proofs.Expr.{var, small, env, reads}
use Rattle.evc.specs.Table.{tm}
use Rattle.evc.specs.Stages.{rounding}
use Rattle.itx_halving.specs.Lines.{Amount}
use Rattle.itx_halving.specs.Line.{rows}
use Rattle.itx_halving.proofs.Instance.{built-in-table, built-in-same}
use Rattle.itx_halving.proofs.Lines.{next-ext, rounding-within, upto-none, upto-room, upto-more}
use Rattle.itx_halving.proofs.Rows.{reach-at, same_sum}
use Rattle.itxb1_small.proofs.Quotients.{kept_at}
use Rattle.itxb1_small.proofs.eight.rows.Goals as goal

-- the rounding number as it is handed on
handed : (add : ℤ) (shift : ℕ) → Amount add shift → to_z w64 (of_z w64 add) ≡ rounding shift
handed add shift a =
    reads (env (small w64 add 2147483648 (subst (Within 2147483648) (sym a.is) (rounding-within shift a.most)) tt ∷ [])) (var 0) tt ∙ a.is

pub loop-j-init : goal.loop-j-init
loop-j-init c = upto-none (omega (arith, c.requires.few, c.requires.z-room))

pub line8-y-requires : goal.line8-y-requires
line8-y-requires c =
    let t = built-in-table 3 (omega arith) _ c.table-t.ensures in
    let u = built-in-table 2 (omega arith) _ c.table-t.ensures in (
      (reach-at 512 8 _ _ t (omega (arith, c.requires.among, c.loop-j-test.true)) c.requires.src-room, (t.mirrored, u.mirrored)),
      rw (handed c.args.r.add c.args.r.shift c.args.r.amount) (rounding-within c.args.r.shift c.args.r.amount.most).bound,
    )

pub store_quotients-requires : goal.store_quotients-requires
store_quotients-requires c =
    let y = c.line8-y.ensures in
    let g = c.requires in (
      (c.args.r.amount.most, y.small),
      (
        omega (arith, y.long),
        (
          upto-room c.loop-j.invariant c.loop-j-test.true,
          (omega (arith, c.loop-j-test.true, g.few), omega (arith, g.z-room, c.loop-j.invariant.long)),
        ),
      ),
    )

pub loop-j-preserved : goal.loop-j-preserved
loop-j-preserved c =
    upto-more c.loop-j.invariant c.loop-j-test.true
    (next-ext c.store_quotients.ensures
    (λ k h.
    let e = same_sum (rows c.table-t.result 512) (tm 8) 8 c.args.l (c.args.j0 + c.loop-j.j) k c.args.src.now (built-in-same 3 (omega arith) _ c.table-t.ensures) h in
    ap (λ (z : ℤ). clip32 (floor_pow z c.args.r.shift)) (c.line8-y.ensures.at k h ∙ ap₂ ◌+ℤ◌ e (handed c.args.r.add c.args.r.shift c.args.r.amount))
    ∙ kept_at c.args.l c.args.r.shift c.args.src.now c.args.j0 c.loop-j.j k h))
