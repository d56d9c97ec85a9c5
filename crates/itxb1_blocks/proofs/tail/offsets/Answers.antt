-- `itxb1_blocks::tail::offsets` meets its contract: place after place. Assumes nothing.
use borrow.Author.Rules.{sfits_of}
use mathlib.Core.Path.{sym, ap, ◌∙◌}
use mathlib.Core.List.{[], ◌∷◌}
use Prim.Native.Nat.{ℕ}
use native.Mathlib.Omega.{arith}
use lib.ListN.{get_or}
use lib.IntN.{ℤ, pos, ◌+ℤ◌}
use mir.Syntax.{w32, w64}
use mir.Facts.{to_z-of_z}
use Rattle.integers.specs.Lists.{tab}
use Rattle.integers.proofs.Loop.{filled-step, filled-end}
use Rattle.integers.proofs.Expr.{var, add, loc, Known, arg, small, env, reads}
use Rattle.itxb1_blocks.proofs.tail.offsets.Goals as goal

pub loop-k-preserved : goal.loop-k-preserved
loop-k-preserved g c =
    let known : ℕ → Known = env (arg w32 (get_or c.args.col.now c.loop-k.k (pos 0)) (sfits_of c.c-1.given) ∷ small w64 c.args.add 2147483648 (record { bound = c.requires }) tt ∷ []) in
    filled-step c.loop-k.invariant c.loop-k-test.true
    (reads known (loc w64 (add (loc w64 (var 0)) (var 1))) tt
    ∙ sym (ap (λ (z : ℤ). get_or c.args.col.now c.loop-k.k (pos 0) +ℤ z) (to_z-of_z c.ranges.add)))

pub returns : goal.returns
returns g c =
    filled-end c.loop-k.invariant (omega arith)
    ∙ ap (λ (z : ℤ). tab g.row.N (λ i. get_or c.args.col.now i (pos 0) +ℤ z)) (to_z-of_z c.ranges.add)
