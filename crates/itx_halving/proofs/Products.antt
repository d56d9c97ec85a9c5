-- What the sums of a block of 16 lines are: the products of document 01's stages. Assumes nothing.
use mathlib.Core.Path.{◌≡◌, sym, ap, ◌∙◌}
use mathlib.Core.List.{List}
use Prim.Native.Nat.{ℕ, ◌+◌, ◌*◌, ◌/◌, ◌%◌, ◌<◌}
use native.Mathlib.Omega.{arith}
use native.Mathlib.Nat.{add-mul, mul_assoc, mod-lt, div-add-mod', lt_of_mul-lt-mul_right}
use lib.ListN.{get_or}
use lib.IntN.{ℤ, pos, ◌*ℤ◌}
use Rattle.integers.specs.Sum.{addition_z+, sum_z}
use Rattle.integers.specs.Lists.{tab}
use Rattle.integers.proofs.Sum.{sum-ext}
use Rattle.integers.proofs.Written.{tab-at, grid-at}
use Rattle.evc.specs.Table.{tm64, tm}
use Rattle.evc.specs.Stages.{product}
use Rattle.itx_halving.specs.Line.{dot}
use Rattle.itx_halving.specs.Blocks.{input, crossed, Rows}

-- ---- place i of the block's output, by its line and its place there
module _ (N i : ℕ) (s : 0 < N) where
  line-below : i < 16 * N → i / N < 16
  line-below h = lt_of_mul-lt-mul_right N (omega (arith, div-add-mod' i N))

  sum_below : i < 16 * N → i % N * 16 + i / N < N * 16
  sum_below h = omega (arith, mod-lt i s, line-below h)

  -- it is place j0·N + i of the whole output
  at_block : (f : ℕ → ℕ → ℤ) (j0 : ℕ) → f ((j0 * N + i) / N) ((j0 * N + i) % N) ≡ f (j0 + i / N) (i % N)
  at_block f j0 = ap (λ (x : ℕ). f (x / N) (x % N)) e ∙ grid-at f (j0 + i / N) (i % N) N (mod-lt i s)
    where
      e : j0 * N + i ≡ (j0 + i / N) * N + i % N
      e = omega (arith, div-add-mod' i N, add-mul j0 (i / N) N)

-- ---- a lane's sum is the product of its line
module _ (N p : ℕ) (stride : p ≡ 64 / N * 16) {s : List ℤ} {f : ℕ → ℕ → ℤ} (r : Rows s p N f) where
  -- place n of lane j stands at n·16+j
  abbrev pub sums : ℕ → ℤ
  sums place = dot tm64 (64 / N) N (place / 16) (λ k. get_or s (k * 16 + place % 16) (pos 0))

  lane-sum : (n j : ℕ) → j < 16 → sums (n * 16 + j) ≡ sum_z N (λ k. tm N k n *ℤ f k j)
  unfolding dot
  lane-sum n j h =
      grid-at (λ n j. dot tm64 (64 / N) N n (λ k. get_or s (k * 16 + j) (pos 0))) n j 16 h
      ∙ sum-ext addition_z+ N _ _ (λ k q. ap (λ (z : ℤ). tm N k n *ℤ z) (ap (λ (x : ℕ). get_or s (x + j) (pos 0)) (here k) ∙ r.at k j q h))
    where
      here : (k : ℕ) → k * (64 / N) * 16 ≡ k * p
      here k = mul_assoc k (64 / N) 16 ∙ ap (λ (x : ℕ). k * x) (sym stride)

  pub crossed-sum : {e : List ℤ} (M : ℕ) → M ≡ N * 16 → e ≡ tab M sums → 0 < N → (i : ℕ) → i < 16 * N → crossed N e i ≡ sum_z N (λ k. tm N k (i % N) *ℤ f k (i / N))
  crossed-sum {e} M m q some i h =
      ap (λ (l : List ℤ). get_or l (i % N * 16 + i / N) (pos 0)) q
      ∙ tab-at M sums (i % N * 16 + i / N) (pos 0) (omega (arith, sum_below N i some h))
      ∙ lane-sum (i % N) (i / N) (line-below N i some h)

-- ---- a product of the stage, by the block's inputs
module _ (N l j0 : ℕ) (src : List ℤ) (some : 0 < N) where
  pub block-product : (i : ℕ) → product (tm N) N l src ((j0 * N + i) / N) ((j0 * N + i) % N) ≡ sum_z N (λ k. tm N k (i % N) *ℤ input src l j0 k (i / N))
  unfolding product
  block-product i =
      at_block N i some (product (tm N) N l src) j0
      ∙ sum-ext addition_z+ N _ _ (λ k q. ap (λ (x : ℕ). tm N k (i % N) *ℤ get_or src x (pos 0)) (here k))
    where
      here : (k : ℕ) → k * l + (j0 + i / N) ≡ k * l + j0 + i / N
      here k = omega arith
