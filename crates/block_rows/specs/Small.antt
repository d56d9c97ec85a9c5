-- Samples that were tested: below 2^14, the limit of the largest depth. The OR by which they are tested, and their differences. Cited by the
-- contracts of src/differences.rt and of the crates diff and satd. Assumes nothing.
use Rattle.std.specs.Prelude.{cond, List, ℕ, ◌<◌, ℤ, pos, negsuc, ◌+ℤ◌, ◌-ℤ◌, length}
use Rattle.std.specs.Int.Bits.{bit_or}
use Rattle.std.specs.Int.Signed.{lt_z}
use Rattle.integers.specs.Or.{or_n}
use Rattle.plane_tests.specs.Blocks.{TwoBlocks, cell}

-- a difference z of two numbers of 16 bits, as 16 bits hold it: of -32768 to 32767 the one that equals z up to multiples of 65536
unfoldable pub wrapped : ℤ → ℤ
wrapped z = cond (lt_z z (negsuc 32767)) (z +ℤ pos 65536) (cond (lt_z (pos 32767) z) (z -ℤ pos 65536) z)

pub record SmallBlocks (w h : ℕ) (a : List ℕ) (s t : ℕ) (b : List ℕ) (s' t' : ℕ) : Type 0 where
  pub first : (j i : ℕ) → j < h → i < w → cell 0 a s t j i < 16384
  pub second : (j i : ℕ) → j < h → i < w → cell 0 b s' t' j i < 16384

-- two blocks of w by h, of which each lies inside its buffer and whose samples are small
pub record Tested (w h : ℕ) (a : List ℕ) (s t : ℕ) (b : List ℕ) (s' t' : ℕ) : Type 0 where
  pub blocks : TwoBlocks w h (length a) s t (length b) s' t'
  pub small : SmallBlocks w h a s t b s' t'

-- their differences, first minus second
unfoldable pub apart_from : List ℕ → ℕ → ℕ → List ℕ → ℕ → ℕ → ℕ → ℕ → ℤ
apart_from a s t b s' t' j i = pos (cell 0 a s t j i) -ℤ pos (cell 0 b s' t' j i)

-- the OR of all samples of two blocks
abbrev pub blocks_marks : ℕ → ℕ → List ℕ → ℕ → ℕ → List ℕ → ℕ → ℕ → ℕ
blocks_marks w h a s t b s' t' = or_n h (λ j. or_n w (λ i. bit_or (cell 0 a s t j i) (cell 0 b s' t' j i)))
