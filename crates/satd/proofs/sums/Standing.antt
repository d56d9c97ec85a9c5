-- Where the tiles of two blocks stand: a part of tested blocks is tested, and its tiles are tiles of the whole. Assumes nothing.
use mathlib.Core.Path.{◌≡◌, ap, ap₂, subst, ◌∙◌}
use mathlib.Core.Logic.{inl, inr}
use mathlib.Core.List.{List}
use Prim.Native.Nat.{ℕ, ◌+◌, ◌-◌, ◌*◌, ◌/◌, ◌≤◌, ◌<◌}
use native.Mathlib.Nat.{zero-add, add-mul, mul-le-mul_right}
use native.Mathlib.Omega.{arith}
use lib.IntN.{pos, ◌-ℤ◌}
use lib.ListN.{get_or}
use Rattle.integers.specs.Sum.{addition_n+, sum_n}
use Rattle.integers.proofs.Sum.{sum-ext}
use Rattle.evc.specs.Tiles.{tile_number, tile}
use Rattle.plane_tests.specs.Blocks.{cell}
use Rattle.block_rows.specs.Small.{Tested, apart_from}
use Rattle.satd.specs.Sides.{Side}
use Rattle.satd.proofs.Tiling.{number-ext}

-- ---- sides
pub side-some : {n : ℕ} → Side n → 1 ≤ n
side-some (inl e) = omega arith
side-some (inr (inl e)) = omega arith
side-some (inr (inr e)) = omega arith

-- a side holds one tile of its own
pub one-tile : {n : ℕ} → Side n → 0 < n / n
one-tile (inl e) = rw e (omega arith)
one-tile (inr (inl e)) = rw e (omega arith)
one-tile (inr (inr e)) = rw e (omega arith)

-- ---- parts of tested blocks: n columns from x on, and n rows from y on
module _ {w h : ℕ} {a : List ℕ} {s t : ℕ} {b : List ℕ} {s' t' : ℕ} (k : Tested w h a s t b s' t') where
  pub tested-columns : (x n : ℕ) → x + n ≤ w → Tested n h a (s + x) t b (s' + x) t'
  unfolding cell
  tested-columns x n p = record {
    blocks =
        record {
          narrow = omega (arith, k.blocks.narrow);
          low = k.blocks.low;
          one = omega (arith, k.blocks.one);
          two = omega (arith, k.blocks.two);
        };
    small =
        record {
          first = λ j i m q. let e : s + x + j * t + i ≡ s + j * t + (x + i) = omega arith in rw e (k.small.first j (x + i) m (omega arith));
          second = λ j i m q. let e : s' + x + j * t' + i ≡ s' + j * t' + (x + i) = omega arith in rw e (k.small.second j (x + i) m (omega arith));
        };
  }

  tested-rows : (y n : ℕ) → 1 ≤ n → y + n ≤ h → Tested w n a (s + y * t) t b (s' + y * t') t'
  unfolding cell
  tested-rows y n o p =
      let c : (y + (n - 1)) * t ≤ (h - 1) * t = mul-le-mul_right t (omega arith) in
      let d : (y + (n - 1)) * t' ≤ (h - 1) * t' = mul-le-mul_right t' (omega arith) in
      let c' = add-mul y (n - 1) t in
      let d' = add-mul y (n - 1) t' in
      record {
        blocks =
            record {
              narrow = k.blocks.narrow;
              low = omega (arith, k.blocks.low);
              one = omega (arith, k.blocks.one);
              two = omega (arith, k.blocks.two);
            };
        small =
            record {
              first = λ j i m q. let f = add-mul y j t in let e : s + y * t + j * t + i ≡ s + (y + j) * t + i = omega arith in rw e (k.small.first (y + j) i (omega arith) q);
              second = λ j i m q. let f = add-mul y j t' in let e : s' + y * t' + j * t' + i ≡ s' + (y + j) * t' + i = omega arith in rw e (k.small.second (y + j) i (omega arith) q);
            };
      }

-- n rows from y on, where the second block is packed
pub packed-rows :
    {w h : ℕ} {a : List ℕ} {s t : ℕ} {b : List ℕ} → Tested w h a s t b 0 w → (y n : ℕ) → 1 ≤ n → y + n ≤ h → Tested w n a (s + y * t) t b (y * w) w
packed-rows {w} {h} {a} {s} {t} {b} k y n o p =
    subst (λ (q : ℕ). Tested w n a (s + y * t) t b q w) (zero-add (y * w)) (tested-rows k y n o p)

-- ---- where a tile stands
none : (n t j : ℕ) → (0 * n + j) * t ≡ j * t
none n t j = let e : 0 * n + j ≡ j = omega arith in ap (λ (m : ℕ). m * t) e

-- a tile of the first row of tiles
pub tile-is :
    (n : ℕ) (a : List ℕ) (s t : ℕ) (b : List ℕ) (s' t' u r : ℕ) → r ≡ tile_number n (apart_from a (s + u * n) t b (s' + u * n) t') →
    r ≡ tile_number n (tile n (apart_from a s t b s' t') 0 u)
unfolding apart_from cell
tile-is n a s t b s' t' u r f =
    f
    ∙ number-ext n (apart_from a (s + u * n) t b (s' + u * n) t') (tile n (apart_from a s t b s' t') 0 u)
    (λ j i p q. ap₂ (λ (x y : ℕ). pos (get_or a x 0) -ℤ pos (get_or b y 0)) (place s t j i) (place s' t' j i))
  where
    place : (s t j i : ℕ) → s + u * n + j * t + i ≡ s + (0 * n + j) * t + (u * n + i)
    place s t j i = let e = none n t j in omega arith

-- a row of tiles further down, where the second block is packed
pub tiles-are :
    (n : ℕ) (a : List ℕ) (s t : ℕ) (b : List ℕ) (w v k r : ℕ) → r ≡ sum_n k (λ u. tile_number n (tile n (apart_from a (s + v * n * t) t b (v * n * w) w) 0 u)) →
    r ≡ sum_n k (λ u. tile_number n (tile n (apart_from a s t b 0 w) v u))
unfolding apart_from cell
tiles-are n a s t b w v k r e =
    e
    ∙ sum-ext addition_n+ k (λ u. tile_number n (tile n (apart_from a (s + v * n * t) t b (v * n * w) w) 0 u)) (λ u. tile_number n (tile n (apart_from a s t b 0 w) v u))
    (λ u m. number-ext n (tile n (apart_from a (s + v * n * t) t b (v * n * w) w) 0 u) (tile n (apart_from a s t b 0 w) v u)
    (λ j i p q. ap₂ (λ (x y : ℕ). pos (get_or a x 0) -ℤ pos (get_or b y 0)) (place s t j (u * n + i)) (packed j (u * n + i))))
  where
    place : (s t j x : ℕ) → s + v * n * t + (0 * n + j) * t + x ≡ s + (v * n + j) * t + x
    place s t j x = let e = none n t j in let d = add-mul (v * n) j t in omega arith

    packed : (j x : ℕ) → v * n * w + (0 * n + j) * w + x ≡ 0 + (v * n + j) * w + x
    packed j x = let e = none n w j in let d = add-mul (v * n) j w in omega arith
