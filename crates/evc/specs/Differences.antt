-- DIFF, and the totals of SAD and SSD before any caller divides them. Document 01, "Distortion".
-- d j i is the difference, first minus second, in row j, column i of a block of w by h. Assumes nothing.
use Rattle.std.specs.Prelude.{ℕ, ◌*◌, ◌/◌, ◌%◌, ◌^◌, ℤ, ◌-ℤ◌, nat_abs}
use Rattle.integers.specs.Sum.{sum_n}
use Rattle.evc.specs.Planes.{Block}

abbrev pub difference : Block → Block → ℕ → ℕ → ℤ
difference a b j i = a.reads j i -ℤ b.reads j i

-- what DIFF leaves at a place, row after row
unfoldable pub diff_at : ℕ → (ℕ → ℕ → ℤ) → ℕ → ℤ
diff_at w d place = d (place / w) (place % w)

-- SAD: the absolute differences, added
unfoldable pub sad_total : ℕ → ℕ → (ℕ → ℕ → ℤ) → ℕ
sad_total w h d = sum_n h (λ j. sum_n w (λ i. nat_abs (d j i)))

-- SSD: each squared difference divided by 2^shift and rounded down, then added
unfoldable pub ssd_total : ℕ → ℕ → ℕ → (ℕ → ℕ → ℤ) → ℕ
ssd_total shift w h d = sum_n h (λ j. sum_n w (λ i. nat_abs (d j i) * nat_abs (d j i) / 2 ^ shift))
