-- What bi-prediction values and samples add up to. Cited by the contracts of src/blocks.rt and src/near.rt. Assumes nothing.
use Rattle.std.specs.Prelude.{◌≡◌, ℕ, ◌^◌, ◌<◌, ℤ, pos, ◌-ℤ◌, bit_or, nat_abs}
use Rattle.integers.specs.Sum.{sum_n}
use Rattle.integers.specs.Or.{or_n}
use Rattle.sad_bi.specs.Marks.{low_mark_of}

-- how far a bi-prediction value and a sample are apart
unfoldable pub apart_bi : ℤ → ℕ → ℕ
apart_bi v q = nat_abs (v -ℤ pos q)

-- what they leave for the test of SAMPLE
abbrev pub mark_bi : ℤ → ℕ → ℕ
mark_bi v q = bit_or (low_mark_of v) q

-- what is left of two blocks' total where values were cut, given by what row j, column i of each reads: the OR of all marks, and the sum where no mark
-- has more than 14 bits
pub record BiCounted (w h : ℕ) (A : ℕ → ℕ → ℤ) (B : ℕ → ℕ → ℕ) (sum any : ℕ) : Type 0 where
  pub total : any < 2 ^ 14 → sum ≡ sum_n h (λ j. sum_n w (λ i. apart_bi (A j i) (B j i)))
  pub marks : any ≡ or_n h (λ j. or_n w (λ i. mark_bi (A j i) (B j i)))
  pub most : sum < 2 ^ 32
