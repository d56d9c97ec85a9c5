-- Tiles of two tested blocks, of any side n: what a tile's differences are; that its number is that of the definition, and how large it can be.
-- Assumes nothing.
use mathlib.Core.Path.{◌≡◌, ap, ◌∙◌}
use mathlib.Core.Logic.{inl, inr}
use mathlib.Core.List.{List, []}
use Prim.Native.Nat.{ℕ, ◌+◌, ◌*◌, ◌/◌, ◌^◌, ◌≤◌, ◌<◌}
use native.Mathlib.Nat.{add-mul, mul-le-mul, mul-le-mul_right, le_trans, div-add-mod', div-le_self}
use native.Mathlib.Omega.{arith}
use lib.IntN.{ℤ, pos, nat_abs, ◌*ℤ◌}
use lib.ListN.{get_or}
use Rattle.integers.specs.Lists.{tab}
use Rattle.integers.specs.Sum.{addition_z+, addition_n+, sum_z, sum_n}
use Rattle.integers.proofs.Sum.{sum-ext, sum-le}
use Rattle.integers.proofs.Written.{tab-at}
use Rattle.evc.specs.Tiles.{sign, coefficient, share, rounded, tile_sum, tile_number, tile, satd_total}
use Rattle.satd_tiles.specs.Passes.{entry}
use Rattle.satd_tiles.proofs.Most.{number-most}
use Rattle.integers.proofs.Parts.{abs-dif-le}
use Rattle.plane_tests.specs.Blocks.{cell}
use Rattle.block_rows.specs.Small.{Tested, apart_from}
use Rattle.satd.specs.Sides.{Side}

-- ---- laws of the definitions
-- tiles whose differences agree have one number
pub number-ext : (n : ℕ) (d e : ℕ → ℕ → ℤ) → ((j i : ℕ) → j < n → i < n → d j i ≡ e j i) → tile_number n d ≡ tile_number n e
unfolding tile_number tile_sum coefficient
number-ext n d e h =
    ap (rounded n)
    (sum-ext addition_n+ n (λ a. sum_n n (λ b. share a b (nat_abs (coefficient n d a b)))) (λ a. sum_n n (λ b. share a b (nat_abs (coefficient n e a b))))
    (λ a p. sum-ext addition_n+ n (λ b. share a b (nat_abs (coefficient n d a b))) (λ b. share a b (nat_abs (coefficient n e a b)))
    (λ b q. ap (λ (z : ℤ). share a b (nat_abs z)) (coefficients a b))))
  where
    coefficients : (a b : ℕ) → coefficient n d a b ≡ coefficient n e a b
    coefficients a b =
        sum-ext addition_z+ n (λ j. sum_z n (λ i. d j i *ℤ sign a j *ℤ sign b i)) (λ j. sum_z n (λ i. e j i *ℤ sign a j *ℤ sign b i))
        (λ j p. sum-ext addition_z+ n (λ i. d j i *ℤ sign a j *ℤ sign b i) (λ i. e j i *ℤ sign a j *ℤ sign b i)
        (λ i q. ap (λ (z : ℤ). z *ℤ sign a j *ℤ sign b i) (h j i p q)))

-- ---- sides
-- the tiles that a side holds end inside it
pub tile-ends : (n h v : ℕ) → v < h / n → v * n + n ≤ h
tile-ends n h v p =
    let e = div-add-mod' h n in
    let f : (v + 1) * n ≤ h / n * n = mul-le-mul_right n (omega arith) in
    let g = add-mul v 1 n in
    omega arith

-- the largest number of a tile whose differences are at most 16383 in size
side-most : {n : ℕ} → Side n → n * (n * (n * (n * 16383))) ≤ 67104768
side-most (inl e) = rw e (omega arith)
side-most (inr (inl e)) = rw e (omega arith)
side-most (inr (inr e)) = rw e (omega arith)

-- a block's side holds at most 64 of them
pub side-count : (n w : ℕ) → w ≤ 64 → w / n ≤ 64
side-count n w p = le_trans (div-le_self w n) p

module _ {w h : ℕ} {a : List ℕ} {s t : ℕ} {b : List ℕ} {s' t' : ℕ} (k : Tested w h a s t b s' t') where
  -- no difference is above 16383 in size
  tested-most : (j i : ℕ) → j < h → i < w → nat_abs (apart_from a s t b s' t' j i) ≤ 16383
  unfolding apart_from
  tested-most j i m q =
      abs-dif-le 16383 (cell 0 a s t j i) (cell 0 b s' t' j i) (omega (arith, k.small.first j i m q)) (omega (arith, k.small.second j i m q))

  -- so no tile's number is above this
  at_most : (n v u : ℕ) → v < h / n → u < w / n → tile_number n (tile n (apart_from a s t b s' t') v u) ≤ n * (n * (n * (n * 16383)))
  at_most n v u p q =
      number-most n 16383 (tile n (apart_from a s t b s' t') v u)
      (λ j i m r. tested-most (v * n + j) (u * n + i) (omega (arith, tile-ends n h v p)) (omega (arith, tile-ends n w u q)))

  module _ {n : ℕ} (side : Side n) where
    pub tile-most : (v u : ℕ) → v < h / n → u < w / n → tile_number n (tile n (apart_from a s t b s' t') v u) ≤ 67104768
    tile-most v u p q = le_trans (at_most n v u p q) (side-most side)

    -- nor the numbers of a row of tiles
    pub tiles-most : (v : ℕ) → v < h / n → sum_n (w / n) (λ u. tile_number n (tile n (apart_from a s t b s' t') v u)) ≤ 4294705152
    tiles-most v p =
        le_trans (sum-le (w / n) 67104768 (λ u. tile_number n (tile n (apart_from a s t b s' t') v u)) (λ u m. tile-most v u p m))
        (mul-le-mul_right 67104768 (side-count n w k.blocks.narrow))

  -- nor the total of at most k by k tiles
  satd-most : (n k : ℕ) → h / n ≤ k → w / n ≤ k → satd_total n w h (apart_from a s t b s' t') ≤ k * (k * (n * (n * (n * (n * 16383)))))
  unfolding satd_total
  satd-most n k x y =
      let c = n * (n * (n * (n * 16383))) in
      le_trans
      (sum-le (h / n) (w / n * c) (λ v. sum_n (w / n) (λ u. tile_number n (tile n (apart_from a s t b s' t') v u)))
      (λ v m. sum-le (w / n) c (λ u. tile_number n (tile n (apart_from a s t b s' t') v u)) (λ u l. at_most n v u m l)))
      (mul-le-mul x (mul-le-mul_right c y))

  -- so the total of tiles of any side fits 32 bits
  pub satd-fits : (n : ℕ) → Side n → satd_total n w h (apart_from a s t b s' t') < 2 ^ 32
  satd-fits n (inl e) = rw e (omega (arith, satd-most 8 8 (omega (arith, k.blocks.low)) (omega (arith, k.blocks.narrow))))
  satd-fits n (inr (inl e)) = rw e (omega (arith, satd-most 4 16 (omega (arith, k.blocks.low)) (omega (arith, k.blocks.narrow))))
  satd-fits n (inr (inr e)) = rw e (omega (arith, satd-most 2 32 (omega (arith, k.blocks.low)) (omega (arith, k.blocks.narrow))))

-- ---- what a tile's differences are
made : (n : ℕ) (d : ℕ → ℕ → ℤ) (j i : ℕ) → j < n → i < n → entry (tab n (λ j. tab n (d j))) j i ≡ d j i
made n d j i p q = ap (λ (x : List ℤ). get_or x i (pos 0)) (tab-at n (λ j. tab n (d j)) j [] p) ∙ tab-at n (d j) i (pos 0) q

-- a tile's number, from the differences that were handed to it
pub number_of : (n : ℕ) (d : ℕ → ℕ → ℤ) (r : ℕ) (m : List (List ℤ)) → m ≡ tab n (λ j. tab n (d j)) → r ≡ tile_number n (entry m) → r ≡ tile_number n d
number_of n d r m e f =
    f ∙ ap (λ (x : List (List ℤ)). tile_number n (entry x)) e ∙ number-ext n (entry (tab n (λ j. tab n (d j)))) d (λ j i p q. made n d j i p q)
