-- Tiles, and the total of SATD before its caller divides it. Document 01, "Distortion".
-- d j i is the difference in row j, column i, of a tile or of a whole block. Assumes nothing.
use Rattle.std.specs.Prelude.{ℕ, zero, suc, ◌+◌, ◌*◌, ◌/◌, ◌%◌, Bool, cond, ◌&&◌, eqb, ℤ, pos, neg_ℤ, ◌*ℤ◌, nat_abs}
use Rattle.std.specs.Int.Bits.{bit_and}
use Rattle.std.specs.Int.Count.{ones}
use Rattle.std.proofs.Math.IntN.{pow}
use Rattle.integers.specs.Sum.{sum_z, sum_n}

-- (-1)^(ones in a AND j)
unfoldable pub sign : ℕ → ℕ → ℤ
sign a j = pow (neg_ℤ (pos 1)) (ones (bit_and a j))

-- coefficient (a, b) of a tile of side n
unfoldable pub coefficient : ℕ → (ℕ → ℕ → ℤ) → ℕ → ℕ → ℤ
coefficient n d a b = sum_z n (λ j. sum_z n (λ i. d j i *ℤ sign a j *ℤ sign b i))

-- what the size x of coefficient (a, b) adds to the tile's sum: of (0, 0), the DC, a quarter, rounded down
abbrev pub share : ℕ → ℕ → ℕ → ℕ
share zero zero x = x / 4
share zero (suc b) x = x
share (suc a) b x = x

unfoldable pub tile_sum : ℕ → (ℕ → ℕ → ℤ) → ℕ
tile_sum n d = sum_n n (λ a. sum_n n (λ b. share a b (nat_abs (coefficient n d a b))))

-- the tile's number, from its sum: by the side
abbrev pub rounded : ℕ → ℕ → ℕ
rounded n s = cond (eqb n 8) ((s + 2) / 4) (cond (eqb n 4) ((s + 1) / 2) s)

unfoldable pub tile_number : ℕ → (ℕ → ℕ → ℤ) → ℕ
tile_number n d = rounded n (tile_sum n d)

-- the side of a block's tiles: 8 where both sides are multiples of 8, else 4 where both are multiples of 4, else 2
abbrev pub multiples : ℕ → ℕ → ℕ → Bool
multiples n w h = eqb (w % n) 0 && eqb (h % n) 0

unfoldable pub tile_side : ℕ → ℕ → ℕ
tile_side w h = cond (multiples 8 w h) 8 (cond (multiples 4 w h) 4 2)

-- the tile in row v, column u of a block's tiles of side n
abbrev pub tile : ℕ → (ℕ → ℕ → ℤ) → ℕ → ℕ → ℕ → ℕ → ℤ
tile n d v u j i = d (v * n + j) (u * n + i)

-- SATD: the tiles' numbers, added row of tiles by row of tiles
unfoldable pub satd_total : ℕ → ℕ → ℕ → (ℕ → ℕ → ℤ) → ℕ
satd_total n w h d = sum_n (h / n) (λ v. sum_n (w / n) (λ u. tile_number n (tile n d v u)))
