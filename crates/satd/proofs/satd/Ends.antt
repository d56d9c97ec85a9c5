-- How a call of SATD ends: the side of its tiles, blocks that are read alike, and its answer, test by test. Assumes nothing.
use mathlib.Core.Path.{◌≡◌, refl, ap}
use mathlib.Core.Logic.{inl, inr}
use Prim.Native.Nat.{ℕ, ◌+◌, ◌-◌, ◌*◌, ◌/◌, ◌%◌, ◌^◌, ◌<◌}
use mathlib.Core.Bool.{Bool, true, false, cond, ◌||◌}
use native.Mathlib.Omega.{arith}
use lib.Dec.{eqb}
use Rattle.integers.proofs.Bools.{neither_left, neither_right}
use Rattle.integers.specs.Sum.{addition_n+, sum_n}
use Rattle.integers.proofs.Sum.{sum-ext}
use Rattle.evc.specs.Tiles.{tile_number, tile, multiples, tile_side, satd_total}
use Rattle.evc.specs.Answers.{refused}
use Rattle.evc.specs.Tests.{first, reply, outside}
use Rattle.evc.specs.Planes.{Block}
use Rattle.evc.specs.Differences.{difference}
use Rattle.evc.specs.Calls.{compare_tests, tests_of_samples, satd_sizes, satd_reply}
use Rattle.plane_tests.specs.Blocks.{rest}
use Rattle.plane_tests.proofs.Replies.{Alike, dif-alike, at_size, at-depth, at-area, at_second, at_rest}
use Rattle.satd.specs.Sides.{Side}
use Rattle.satd.proofs.Tiling.{number-ext, tile-ends}

pub side-is : (w h : ℕ) → Side (tile_side w h)
unfolding tile_side
side-is w h = go (multiples 8 w h) (multiples 4 w h)
  where
    go : (x y : Bool) → Side (cond x 8 (cond y 4 2))
    go true y = inl refl
    go false true = inr (inl refl)
    go false false = inr (inr refl)

-- ---- blocks that are read alike have one total
tile-inside : (n h v j : ℕ) → v < h / n → j < n → v * n + j < h
tile-inside n h v j p q = omega (arith, tile-ends n h v p)

pub satd-alike : {w h : ℕ} {a a' b b' : Block} → Alike w h a a' → Alike w h b b' → (n : ℕ) → satd_total n w h (difference a b) ≡ satd_total n w h (difference a' b')
unfolding satd_total
satd-alike {w} {h} {a} {a'} {b} {b'} p q n =
    sum-ext addition_n+ (h / n) (λ v. sum_n (w / n) (λ u. tile_number n (tile n (difference a b) v u))) (λ v. sum_n (w / n) (λ u. tile_number n (tile n (difference a' b') v u)))
    (λ v m. sum-ext addition_n+ (w / n) (λ u. tile_number n (tile n (difference a b) v u)) (λ u. tile_number n (tile n (difference a' b') v u))
    (λ u k. number-ext n (tile n (difference a b) v u) (tile n (difference a' b') v u)
    (λ j i r s. dif-alike p q (v * n + j) (u * n + i) (tile-inside n h v j m r) (tile-inside n w u i k s))))

-- ---- how a call of SATD ends
or-either : {C : Type 0} (s t : Bool) → s || t ≡ true → (s ≡ true → C) → (s ≡ false → t ≡ true → C) → C
or-either true t e f g = f refl
or-either false t e f g = g refl e

module _ (w h depth : ℕ) (a b : Block) where
  abbrev uneven : ℕ → Bool
  uneven x = outside 2 64 x || eqb (x % 2) 1

  abbrev satd_value : ℕ
  satd_value = satd_total (tile_side w h) w h (difference a b) / 2 ^ (depth - 8)

  -- from the number to the answer
  satd-of : (n : ℕ) → n ≡ first (compare_tests (satd_sizes w h) w h depth a b) → reply n satd_value ≡ satd_reply w h depth a b
  unfolding satd_reply
  satd-of n e = ap (λ (m : ℕ). reply m satd_value) e

  pub satd-size : uneven w || uneven h ≡ true → refused 1 ≡ satd_reply w h depth a b
  satd-size e = satd-of 1 (at_size (uneven w) (uneven h) depth a.area b.area (tests_of_samples w h a b) e)

  module _ (e : uneven w || uneven h ≡ false) where
    pub satd-depth : outside 8 14 depth ≡ true → refused 4 ≡ satd_reply w h depth a b
    satd-depth f = satd-of 4 (at-depth (uneven w) (uneven h) depth a.area b.area (tests_of_samples w h a b) e f)

    module _ (f : outside 8 14 depth ≡ false) where
      pub satd-area : a.area || b.area ≡ true → refused 5 ≡ satd_reply w h depth a b
      satd-area g =
          or-either a.area b.area g (λ p. satd-of 5 (at-area (uneven w) (uneven h) depth a.area b.area (tests_of_samples w h a b) e f p))
          (λ p q. satd-of 5 (at_second (uneven w) (uneven h) depth a.area b.area (tests_of_samples w h a b) e f p q))

      pub satd-rest : a.area || b.area ≡ false → rest w h a b satd_value ≡ satd_reply w h depth a b
      unfolding rest
      satd-rest g =
          satd-of (first (tests_of_samples w h a b))
          (at_rest (uneven w) (uneven h) depth a.area b.area (tests_of_samples w h a b) e f (neither_left a.area b.area g)
          (neither_right a.area b.area g))
