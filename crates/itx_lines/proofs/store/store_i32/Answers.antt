-- `itx_lines::store::store_i32` meets its contract: place after place. Assumes nothing.
use borrow.Author.Rules.{sfits_of}
use mathlib.Core.Path.{ap, ◌∙◌, subst}
use Prim.Native.Nat.{ℕ, ◌*◌}
use native.Mathlib.Omega.{arith}
use lib.ListN.{get_or}
use lib.IntN.{pos}
use mir.Syntax.{w32, w64}
use mir.Val.{SFits, to_z, of_z}
use mir.Facts.{to_z-of_z}
use Rattle.integers.specs.Z.{clip32}
use Rattle.itx_halving.specs.Lines.{Next}
use Rattle.itx_halving.proofs.Lines.{next_more}
use Rattle.integers.proofs.Bits.{back}
use Rattle.itx_lines.proofs.store.store_i32.Goals as goal

pub loop-k-preserved : goal.loop-k-preserved
loop-k-preserved c =
    let k = c.loop-k.k in
    let fe : SFits w64 (get_or c.args.e.now k (pos 0)) = sfits_of c.clip32-arg-1.given in (
      omega arith,
      next_more (to_z w32 (of_z w32 c.clip32.result)) c.loop-k.invariant.1
          (back w32 c.clip32.result c.clip32.type_inv ∙ c.clip32.ensures ∙ ap clip32 (to_z-of_z fe)),
    )

pub returns : goal.returns
returns c =
    let a = c.args in
    subst (λ (k : ℕ). Next a.dst.now c.loop-k.dst (a.j * a.n) k (λ i. clip32 (get_or a.e.now i (pos 0))))
    (omega arith) c.loop-k.invariant.1
