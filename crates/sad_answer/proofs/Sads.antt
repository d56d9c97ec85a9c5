-- What SAD adds up to, of blocks that are read alike; and how a call of SAD ends. Assumes nothing.
use mathlib.Core.Path.{◌≡◌, ap, ◌∙◌}
use mathlib.Core.Bool.{Bool, true, false, ◌||◌}
use Prim.Native.Nat.{ℕ, ◌-◌, ◌/◌, ◌^◌, ◌≤◌}
use lib.IntN.{nat_abs}
use Rattle.integers.specs.Sum.{addition_n+, sum_n}
use Rattle.integers.proofs.Sum.{sum-ext}
use Rattle.integers.proofs.Bools.{neither_left, neither_right}
use Rattle.evc.specs.Answers.{Reply, refused}
use Rattle.evc.specs.Tests.{first, reply, outside}
use Rattle.evc.specs.Planes.{Block}
use Rattle.evc.specs.Differences.{difference, sad_total}
use Rattle.evc.specs.Calls.{compare_tests, tests_of_samples, sad_sizes, sad_reply}
use Rattle.evc.proofs.Tests.{outside-no}
use Rattle.plane_tests.specs.Blocks.{rest}
use Rattle.plane_tests.proofs.Replies.{Alike, dif-alike, at_size, at-depth, at-area, at_second, at_rest, rest-alike}

module _ {w h : ℕ} {a a' b b' : Block} (p : Alike w h a a') (q : Alike w h b b') where
  pub sad-alike : sad_total w h (difference a b) ≡ sad_total w h (difference a' b')
  unfolding sad_total
  sad-alike =
      sum-ext addition_n+ h (λ j. sum_n w (λ i. nat_abs (difference a b j i))) (λ j. sum_n w (λ i. nat_abs (difference a' b' j i)))
      (λ j n. sum-ext addition_n+ w (λ i. nat_abs (difference a b j i)) (λ i. nat_abs (difference a' b' j i)) (λ i m. ap nat_abs (dif-alike p q j i n m)))

-- ---- how a call of SAD ends
abbrev sides : ℕ → ℕ → Bool
sides w h = outside 1 64 w || outside 1 64 h

module _ (w h depth : ℕ) (a b : Block) where
  abbrev sad_value : ℕ
  sad_value = sad_total w h (difference a b) / 2 ^ (depth - 8)

  -- from the number to the answer
  sad-of : (n : ℕ) → n ≡ first (compare_tests (sad_sizes w h) w h depth a b) → reply n sad_value ≡ sad_reply w h depth a b
  unfolding sad_reply
  sad-of n e = ap (λ (m : ℕ). reply m sad_value) e

  pub sad-size : sides w h ≡ true → refused 1 ≡ sad_reply w h depth a b
  sad-size e = sad-of 1 (at_size (outside 1 64 w) (outside 1 64 h) depth a.area b.area (tests_of_samples w h a b) e)

  module _ (e : sides w h ≡ false) where
    pub sad-depth : outside 8 14 depth ≡ true → refused 4 ≡ sad_reply w h depth a b
    sad-depth f = sad-of 4 (at-depth (outside 1 64 w) (outside 1 64 h) depth a.area b.area (tests_of_samples w h a b) e f)

    module _ (f : outside 8 14 depth ≡ false) where
      pub sad-area : a.area ≡ true → refused 5 ≡ sad_reply w h depth a b
      sad-area g = sad-of 5 (at-area (outside 1 64 w) (outside 1 64 h) depth a.area b.area (tests_of_samples w h a b) e f g)

      module _ (g : a.area ≡ false) where
        pub sad-second : b.area ≡ true → refused 5 ≡ sad_reply w h depth a b
        sad-second k = sad-of 5 (at_second (outside 1 64 w) (outside 1 64 h) depth a.area b.area (tests_of_samples w h a b) e f g k)

        pub sad-rest : b.area ≡ false → rest w h a b sad_value ≡ sad_reply w h depth a b
        unfolding rest
        sad-rest k =
            sad-of (first (tests_of_samples w h a b)) (at_rest (outside 1 64 w) (outside 1 64 h) depth a.area b.area (tests_of_samples w h a b) e f g k)

-- sides that are allowed
pub sad-sides : (w h : ℕ) → sides w h ≡ false → ((1 ≤ w) × (w ≤ 64)) × ((1 ≤ h) × (h ≤ 64))
sad-sides w h e =
    let a = outside 1 64 w in
    let b = outside 1 64 h in
    (outside-no 1 64 w (neither_left a b e), outside-no 1 64 h (neither_right a b e))

-- what was compared, said of the blocks of the definition
module _ {w h : ℕ} {a a' b b' : Block} (p : Alike w h a a') (q : Alike w h b b') where
  pub sad-ends :
      (depth : ℕ) {x : Reply ℕ} → x ≡ rest w h a b (sad_value w h depth a b) → sides w h ≡ false → outside 8 14 depth ≡ false → a'.area ≡ false →
      b'.area ≡ false → x ≡ sad_reply w h depth a' b'
  sad-ends depth t d e f g =
      t ∙ rest-alike p q _ _ (ap (λ (n : ℕ). n / 2 ^ (depth - 8)) (sad-alike p q)) ∙ sad-rest w h depth a' b' d e f g
