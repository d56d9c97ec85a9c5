-- A packed row, as code takes it: from j * w on. Assumes nothing.
use Rattle.std.proofs.Common.{◌≡◌, ℕ, ◌+◌, ◌-◌, ◌*◌, ◌≤◌, List, length, take, drop, subst, arith}
use Rattle.plane_tests.specs.Blocks.{cell}
use Rattle.block_rows.specs.Totals.{value_at}
use Rattle.block_rows.proofs.Cells.{Same, part_length, part_same}

module _ {A : Type 0} (l : List A) (j w : ℕ) where
  from : 0 + j * w ≡ j * w
  from = omega arith

  pub packed-length : 0 + j * w + w ≤ length l → length (take (j * w + w - j * w) (drop (j * w) l)) ≡ w
  packed-length h = subst (λ (n : ℕ). length (take (n + w - n) (drop n l)) ≡ w) from (part_length l 0 w j w h)

  pub packed-same : (d : A) → Same w (value_at d (take (j * w + w - j * w) (drop (j * w) l))) (cell d l 0 w j)
  packed-same d = subst (λ (n : ℕ). Same w (value_at d (take (n + w - n) (drop n l))) (cell d l 0 w j)) from (part_same d l 0 w j w)
