-- A line that `edge_row` filled: the first w places of a longer list. Assumes nothing.
use mathlib.Core.Path.{◌≡◌, sym, ap, ◌∙◌}
use mathlib.Core.List.{List, ◌++◌}
use Prim.Native.Nat.{ℕ, ◌≤◌, ◌<◌}
use native.Mathlib.Omega.{arith}
use lib.ListN.{length, get_or, take, drop, length-take, length-append, get_or-append}
use lib.Seq.{get_or-take}
use lib.IntN.{ℤ}
use mir.Syntax.{w16}
use mir.Val.{SFits, to_z, of_z}
use mir.Facts.{to_z-of_z}
use Rattle.integers.specs.Lists.{tab}
use Rattle.integers.proofs.Written.{tab-length, tab-at}
use Rattle.block_rows.specs.Totals.{value_at}
use Rattle.block_rows.specs.Edges.{row_at_edge}
use Rattle.block_rows.proofs.Cells.{Same}

module _ (z : List ℕ) (w : ℕ) (h : w ≤ length z) where
  pub line-room : w ≡ length (take w z)
  line-room = sym (rw length-take (omega arith))

  module _ (g : ℕ → ℕ) (l : List ℕ) (e : l ≡ tab (length (take w z)) g) where
    filled : length l ≡ w
    filled = ap length e ∙ tab-length (length (take w z)) g ∙ sym line-room

    pub line-long : w ≤ length (l ++ drop w z)
    line-long = rw length-append (omega (arith, filled))

    pub line-length : length (take w (l ++ drop w z)) ≡ w
    line-length = rw (length-take, length-append) (omega (arith, filled))

    pub line_at : (i : ℕ) → i < w → get_or (take w (l ++ drop w z)) i 0 ≡ g i
    line_at i p =
        rw get_or-take
        (get_or-append l (drop w z) 0 i (omega (arith, filled)) ∙ ap (λ (k : List ℕ). get_or k i 0) e
        ∙ tab-at (length (take w z)) g i 0 (omega (arith, line-room)))

-- filled with a row that is read from x on, which comes as its bits
pub line_same :
    (z l row : List ℕ) {w : ℕ} {x : ℤ} → w ≤ length z → SFits w16 x → l ≡ tab (length (take w z)) (row_at_edge row (to_z w16 (of_z w16 x))) →
    Same w (value_at 0 (take w (l ++ drop w z))) (row_at_edge row x)
line_same z l row {w} {x} h f e = record {
  at = λ i p. line_at z w h (row_at_edge row (to_z w16 (of_z w16 x))) l e i p ∙ ap (λ (y : ℤ). row_at_edge row y i) (to_z-of_z f);
}
