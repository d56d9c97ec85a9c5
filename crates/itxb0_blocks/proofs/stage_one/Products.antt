-- What a block's sums are in stage one, once they are stored. Assumes nothing.
use mathlib.Core.Path.{◌≡◌, sym, ap, ◌∙◌}
use mathlib.Core.List.{List}
use Prim.Native.Nat.{ℕ, ◌*◌, ◌/◌, ◌<◌}
use lib.IntN.{ℤ}
use Rattle.integers.specs.Z.{clip32}
use Rattle.integers.specs.Lists.{tab}
use Rattle.evc.specs.Table.{tm}
use Rattle.evc.specs.Stages.{stage_one_at}
use Rattle.itx_halving.specs.Lines.{Next}
use Rattle.itx_halving.specs.Blocks.{input, crossed, Rows, Blocked}
use Rattle.itx_halving.proofs.Lines.{next-ext}
use Rattle.itx_halving.proofs.Products.{crossed-sum, block-product}
use Rattle.itx_lanes.specs.Lanes.{lane_sum}

-- the block s, gathered from the lines from j0 on with p places from row to row, its sums e, and what is stored of them
pub block-stored :
    {s e d₀ d : List ℤ} (src : List ℤ) (N p l j0 M : ℕ) →
    p ≡ 64 / N * 16 →
    M ≡ N * 16 →
    0 < N →
    Rows s p N (input src l j0) →
    e ≡ tab M (lane_sum N s) →
    Next d₀ d (j0 * N) (16 * N) (λ i. clip32 (crossed N e i)) →
    Blocked (stage_one_at (tm N) N l src) d₀ d N j0
unfolding lane_sum stage_one_at
block-stored src N p l j0 M stride m some r q n =
    next-ext n (λ i h. ap clip32 (crossed-sum N p stride r M m q some i h ∙ sym (block-product N l j0 src some i)))
