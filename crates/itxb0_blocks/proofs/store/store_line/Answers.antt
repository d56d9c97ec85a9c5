-- `itxb0_blocks::store::store_line` meets its contract: place after place. Assumes nothing.
use borrow.Author.Rules.{sfits_of}
use mathlib.Core.Path.{ap, ◌∙◌}
use mathlib.Core.List.{[], ◌∷◌}
use native.Mathlib.Omega.{arith}
use lib.ListN.{get_or}
use lib.IntN.{pos}
use mir.Syntax.{w32, w64}
use mir.Val.{SFits, to_z, of_z}
use Rattle.integers.specs.Z.{clip32}
use Rattle.integers.proofs.Expr.{var, loc, arg, env, reads}
use Rattle.integers.proofs.Bits.{back}
use Rattle.itx_halving.proofs.Lines.{next_more}
use Rattle.itxb0_blocks.proofs.store.store_line.Goals as goal

pub loop-k-preserved : goal.loop-k-preserved
loop-k-preserved g c =
    let fe : SFits w32 (get_or c.args.e.now _ (pos 0)) = sfits_of c.clip32-arg-1.given in (
      omega (arith, c.loop-k-test.true),
      next_more (to_z w32 (of_z w32 c.clip32.result)) c.loop-k.invariant.1
          (back w32 c.clip32.result c.clip32.type_inv ∙ c.clip32.ensures ∙ ap clip32 (reads (env (arg w32 (get_or c.args.e.now _ (pos 0)) fe ∷ [])) (loc w64 (var 0)) tt)),
    )
