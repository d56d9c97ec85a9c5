-- Both stages on one block, as the code leaves it: through stage one into the block between, through stage two back. Assumes nothing.
use Prim.Native.Nat.{ℕ, ◌+◌, ◌^◌, ◌≤◌}
use native.Mathlib.Nat.{add_comm}
use native.Mathlib.Omega.{arith}
use lib.Pow.{pow_mono}
use mathlib.Core.Path.{◌≡◌, refl, sym, ap, ◌∙◌}
use mathlib.Core.List.{List}
use lib.ListN.{length, replicate, length-replicate}
use lib.IntN.{ℤ, pos}
use Rattle.integers.proofs.Written.{tab-length}
use Rattle.evc.specs.Tests.{samples_of}
use Rattle.evc.specs.Table.{tm}
use Rattle.evc.specs.Stages.{itxb0_exit, itxb1_exit, stage_one_out}
use Rattle.itx_halving.proofs.Calls.{stage-one-whole, stage-two-whole}
use Rattle.itx.specs.Both.{through, both_exit}
use Rattle.itx.specs.Blocks.{TwoStageBlock, two_stages}
use Rattle.itx.proofs.both.Ends.{taken}

turned : (logw logh : ℕ) → samples_of logw logh ≡ samples_of logh logw
turned logw logh = ap (λ (k : ℕ). 2 ^ k) (add_comm logw logh)

module _ (logw logh shift : ℕ) where
  -- a block has at most 4,096 samples
  block-most : {n : ℕ} → TwoStageBlock n logw logh shift → n ≤ 4096
  block-most {n} w =
      let h : 2 ^ (logw + logh) ≤ 2 ^ 12 = pow_mono {j = 12} (omega (arith, w.w6, w.h6)) in
      omega (arith, w.long)

  both-steps : (p m n b : List ℤ) → TwoStageBlock (length p) logw logh shift → length m ≡ length p
      → n ≡ itxb0_exit logh logw p m → b ≡ itxb1_exit logw logh shift n p → b ≡ two_stages logw logh shift p
  unfolding two_stages
  both-steps p m n b w l en eb =
      let n1 : n ≡ stage_one_out (tm (2 ^ logh)) (2 ^ logh) (2 ^ logw) p = en ∙ (stage-one-whole logh logw p m w.h1 w.h6 w.w6 (w.long ∙ turned logw logh) (l ∙ w.long ∙ turned logw logh)).1 in
      eb ∙ rw n1 (stage-two-whole logw logh (stage_one_out (tm (2 ^ logh)) (2 ^ logh) (2 ^ logw) p) p w.w1 w.w6 w.h6 (tab-length _ _ ∙ w.long) w.long shift w.s31).1

  through-block : (p : List ℤ) → TwoStageBlock (length p) logw logh shift → through logw logh shift p ≡ two_stages logw logh shift p
  unfolding through
  through-block p w = both-steps p (replicate (length p) (pos 0)) _ _ w (length-replicate (length p) (pos 0)) refl refl

  -- so both stages make of a block what the definition makes of it
  pub both-block : (p : List ℤ) → TwoStageBlock (length p) logw logh shift → both_exit logw logh shift p ≡ two_stages logw logh shift p
  both-block p w = sym (taken logw logh shift p (block-most w)) ∙ through-block p w
