-- How a call of SAD ends once its blocks are compared. Assumes nothing.
use mathlib.Core.Path.{◌≡◌, refl, ap, ◌∙◌}
use mathlib.Core.List.{[], ◌∷◌}
use Prim.Native.Nat.{ℕ, ◌*◌, ◌-◌, ◌/◌, ◌^◌, ◌≤◌}
use native.Mathlib.Omega.{arith}
use lib.Bits.{bit_or}
use lib.Dec.{leb}
use Rattle.evc.specs.declared.Refusal.TheVariants.{Sample}
use Rattle.evc.specs.Tests.{◌when◌, first, reply}
use Rattle.evc.specs.Differences.{difference, sad_total}
use Rattle.evc.specs.Calls.{depth_test}
use Rattle.plane_tests.specs.Blocks.{rest}
use Rattle.sad_answer.specs.In32.{in32}
use Rattle.sad_answer.proofs.Answered.{answered}
use Rattle.plane_tests.proofs.Replies.{marked-rest}
use Rattle.block_rows.specs.Totals.{BlocksTotalled, apart}
use Rattle.block_rows.proofs.Marked.{samples}

-- A and B give what row j, column i of each block reads
module _ (w h depth : ℕ) (A B : ℕ → ℕ → ℕ) {sum any : ℕ} where
  pub sad-totalled :
      (8 ≤ depth) × (depth ≤ 14) → BlocksTotalled (64 * (64 * 65535)) apart bit_or w h A B sum any →
      reply (first (depth_test depth ∷ (Sample when leb (2 ^ depth) any) ∷ [])) (in32 (sum / 2 ^ (depth - 8)))
      ≡ rest w h (samples depth A) (samples depth B) (sad_total w h (difference (samples depth A) (samples depth B)) / 2 ^ (depth - 8))
  unfolding sad_total apart
  sad-totalled d t =
      answered sum any depth d (omega (arith, t.most))
      ∙ marked-rest w h depth (samples depth A) (samples depth B) A B (λ j i. refl) (λ j i. refl) t.marks (sum / 2 ^ (depth - 8))
      ∙ ap (λ (n : ℕ). rest w h (samples depth A) (samples depth B) (n / 2 ^ (depth - 8))) t.total
