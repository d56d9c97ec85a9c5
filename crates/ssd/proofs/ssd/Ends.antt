-- What SSD adds up to, of blocks that are read alike; and how a call of SSD ends once its blocks are compared. Assumes nothing.
use mathlib.Core.Path.{◌≡◌, refl, ap, ◌∙◌}
use mathlib.Core.List.{[], ◌∷◌}
use Prim.Native.Nat.{ℕ, ◌*◌, ◌-◌, ◌/◌, ◌^◌, ◌<◌}
use lib.Bits.{bit_or}
use lib.Dec.{leb}
use lib.IntN.{ℤ, pos, nat_abs}
use Rattle.integers.specs.Sum.{addition_n+, sum_n}
use Rattle.integers.proofs.Sum.{sum-ext}
use Rattle.evc.specs.Answers.{Reply}
use Rattle.evc.specs.declared.Refusal.TheVariants.{Sample}
use Rattle.evc.specs.Tests.{◌when◌, first, reply}
use Rattle.evc.specs.Planes.{Block}
use Rattle.evc.specs.Differences.{difference, ssd_total}
use Rattle.evc.proofs.Marks.{below_all}
use Rattle.plane_tests.specs.Blocks.{rest}
use Rattle.plane_tests.proofs.Replies.{Alike, dif-alike, rest-alike}
use Rattle.block_rows.specs.Totals.{BlocksTotalled, apart}
use Rattle.block_rows.proofs.Marked.{samples, marked-value}
use Rattle.ssd.specs.Squares.{squared, squared_low}
use Rattle.ssd.proofs.Squares.{squared-low-is}

module _ {w h : ℕ} {a a' b b' : Block} (p : Alike w h a a') (q : Alike w h b b') where
  totals : (shift : ℕ) → ssd_total shift w h (difference a b) ≡ ssd_total shift w h (difference a' b')
  unfolding ssd_total
  totals shift =
      let f : ℤ → ℕ = λ z. nat_abs z * nat_abs z / 2 ^ shift in
      sum-ext addition_n+ h (λ j. sum_n w (λ i. f (difference a b j i))) (λ j. sum_n w (λ i. f (difference a' b' j i)))
      (λ j n. sum-ext addition_n+ w (λ i. f (difference a b j i)) (λ i. f (difference a' b' j i)) (λ i m. ap f (dif-alike p q j i n m)))

  -- what was compared, said of the blocks of the definition
  pub ssd-alike :
      (depth : ℕ) {x : Reply ℤ} → x ≡ rest w h a b (pos (ssd_total (2 * (depth - 8)) w h (difference a b))) →
      x ≡ rest w h a' b' (pos (ssd_total (2 * (depth - 8)) w h (difference a' b')))
  ssd-alike depth t = t ∙ rest-alike p q _ _ (ap pos (totals (2 * (depth - 8))))

-- A and B give what row j, column i of each block reads
module _ (w h depth : ℕ) (A B : ℕ → ℕ → ℕ) {sum any : ℕ} (t : BlocksTotalled (64 * (64 * 65535)) (squared_low depth) bit_or w h A B sum any) where
  -- where no sample reaches the depth's limit, the sum is that of the definition
  whole : any < 2 ^ depth → sum ≡ sum_n h (λ j. sum_n w (λ i. squared (2 * (depth - 8)) (A j i) (B j i)))
  whole k =
      let each = below_all w h depth A B any t.marks k in
      t.total
      ∙ sum-ext addition_n+ h (λ j. sum_n w (λ i. squared_low depth (A j i) (B j i))) (λ j. sum_n w (λ i. squared (2 * (depth - 8)) (A j i) (B j i)))
      (λ j m. sum-ext addition_n+ w (λ i. squared_low depth (A j i) (B j i)) (λ i. squared (2 * (depth - 8)) (A j i) (B j i))
      (λ i n. squared-low-is depth (A j i) (B j i) (each j i m n).0 (each j i m n).1))

  pub ssd-totalled :
      reply (first ((Sample when leb (2 ^ depth) any) ∷ [])) (pos sum)
      ≡ rest w h (samples depth A) (samples depth B) (pos (ssd_total (2 * (depth - 8)) w h (difference (samples depth A) (samples depth B))))
  unfolding ssd_total squared apart
  ssd-totalled =
      marked-value w h depth (samples depth A) (samples depth B) A B (λ j i. refl) (λ j i. refl) t.marks (pos sum)
      (pos (sum_n h (λ j. sum_n w (λ i. squared (2 * (depth - 8)) (A j i) (B j i))))) (λ k. ap pos (whole k))
