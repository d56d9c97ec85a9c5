-- How a call of SSD ends, whose sides are given by logarithms. A and B give the two blocks by their sides, so that code may speak of the sides that it
-- forms where the definitions speak of powers. Assumes nothing.
use mathlib.Core.Path.{◌≡◌, refl, ap, ap₂, ◌∙◌}
use mathlib.Core.Bool.{true, false, ◌||◌}
use Prim.Native.Nat.{ℕ, ◌*◌, ◌-◌, ◌^◌, ◌≤◌}
use lib.Dec.{ltb}
use lib.IntN.{ℤ, pos}
use Rattle.evc.specs.Answers.{Reply, refused}
use Rattle.evc.specs.Tests.{first, reply, outside, log_sizes}
use Rattle.evc.specs.Planes.{Block}
use Rattle.evc.specs.Differences.{difference, ssd_total}
use Rattle.evc.specs.Calls.{compare_tests, tests_of_samples, ssd_reply}
use Rattle.plane_tests.specs.Blocks.{rest}
use Rattle.plane_tests.proofs.SmallSides.{logs-small, side-small, shifted, shifted-is}
use Rattle.plane_tests.proofs.Replies.{at_size, at-depth, at-area, at_second, at_rest}

-- the sides of logarithms that are allowed
pub shifted-sides :
    (j k : ℕ) → ltb 6 j || ltb 6 k ≡ false → ((1 ≤ shifted j) × (shifted j ≤ 64)) × ((1 ≤ shifted k) × (shifted k ≤ 64))
shifted-sides j k e =
    let h = logs-small j k e in
    (side-small j (shifted j) (shifted-is j h.0) h.0, side-small k (shifted k) (shifted-is k h.1) h.1)

module _ (logw logh depth : ℕ) (A B : ℕ → ℕ → Block) where
  -- the promised answer
  abbrev promised : Reply ℤ
  promised = ssd_reply logw logh depth (A (2 ^ logw) (2 ^ logh)) (B (2 ^ logw) (2 ^ logh))

  abbrev ssd_value : ℕ → ℕ → ℤ
  ssd_value w h = pos (ssd_total (2 * (depth - 8)) w h (difference (A w h) (B w h)))

  abbrev number : ℕ → ℕ → ℕ
  number w h = first (compare_tests (log_sizes logw logh) w h depth (A w h) (B w h))

  -- from the number to the answer
  ssd-of : (w h n : ℕ) → w ≡ 2 ^ logw → h ≡ 2 ^ logh → n ≡ number w h → reply n (ssd_value w h) ≡ promised
  unfolding ssd_reply
  ssd-of w h n p q e = ap (λ (m : ℕ). reply m (ssd_value w h)) e ∙ ap₂ (λ (w h : ℕ). reply (number w h) (ssd_value w h)) p q

  pub ssd-size : ltb 6 logw || ltb 6 logh ≡ true → refused 1 ≡ promised
  ssd-size e =
      let a = A (2 ^ logw) (2 ^ logh) in
      let b = B (2 ^ logw) (2 ^ logh) in
      ssd-of (2 ^ logw) (2 ^ logh) 1 refl refl (at_size (ltb 6 logw) (ltb 6 logh) depth a.area b.area (tests_of_samples (2 ^ logw) (2 ^ logh) a b) e)

  module _ (e : ltb 6 logw || ltb 6 logh ≡ false) where
    abbrev w : ℕ
    w = shifted logw

    abbrev h : ℕ
    h = shifted logh

    of-shifted : (n : ℕ) → n ≡ number w h → reply n (ssd_value w h) ≡ promised
    of-shifted n = let k = logs-small logw logh e in ssd-of w h n (shifted-is logw k.0) (shifted-is logh k.1)

    pub ssd-depth : outside 8 14 depth ≡ true → refused 4 ≡ promised
    ssd-depth f = of-shifted 4 (at-depth (ltb 6 logw) (ltb 6 logh) depth (A w h).area (B w h).area (tests_of_samples w h (A w h) (B w h)) e f)

    module _ (f : outside 8 14 depth ≡ false) where
      pub ssd-area : (A w h).area ≡ true → refused 5 ≡ promised
      ssd-area g = of-shifted 5 (at-area (ltb 6 logw) (ltb 6 logh) depth (A w h).area (B w h).area (tests_of_samples w h (A w h) (B w h)) e f g)

      module _ (g : (A w h).area ≡ false) where
        pub ssd-second : (B w h).area ≡ true → refused 5 ≡ promised
        ssd-second k = of-shifted 5 (at_second (ltb 6 logw) (ltb 6 logh) depth (A w h).area (B w h).area (tests_of_samples w h (A w h) (B w h)) e f g k)

        pub ssd-rest : (B w h).area ≡ false → rest w h (A w h) (B w h) (ssd_value w h) ≡ promised
        unfolding rest
        ssd-rest k =
            of-shifted (first (tests_of_samples w h (A w h) (B w h)))
            (at_rest (ltb 6 logw) (ltb 6 logh) depth (A w h).area (B w h).area (tests_of_samples w h (A w h) (B w h)) e f g k)
