-- Blocks that are tested by the OR of their samples: what two rows that code takes say of the blocks, what the OR says of SAMPLE, and the area of a
-- packed block. Assumes nothing.
use mathlib.Core.Path.{◌≡◌, refl, sym, ap, ap₂, ◌∙◌}
use mathlib.Core.Bool.{Bool, true, false, ◌||◌}
use mathlib.Core.List.{List, [], ◌∷◌}
use Prim.Native.Nat.{ℕ, ◌+◌, ◌-◌, ◌*◌, ◌/◌, ◌^◌, ◌<◌, ◌≤◌}
use native.Mathlib.Nat.{add-mul, le_trans}
use native.Mathlib.Omega.{arith}
use lib.Bits.{bit_or}
use lib.Dec.{leb, ltb}
use lib.IntN.{ℤ, pos, nat_abs, ◌-ℤ◌}
use lib.ListN.{length, get_or}
use lib.Pow.{pow_mono}
use borrow.Author.Tests.{le-ltb, le-leb, lt-leb}
use Rattle.integers.specs.Lists.{tab}
use Rattle.integers.specs.Or.{addition_or, or_n}
use Rattle.integers.proofs.Bits.{div-some, div-none}
use Rattle.integers.proofs.Parts.{abs-dif-le}
use Rattle.integers.proofs.Sum.{sum-ext}
use Rattle.integers.proofs.Written.{tab-ext}
use Rattle.order.specs.Positions.{reach}
use Rattle.evc.specs.declared.Refusal.TheVariants.{Sample}
use Rattle.evc.specs.Tests.{◌when◌, first}
use Rattle.evc.specs.Calls.{tests_of_samples}
use Rattle.evc.proofs.Marks.{below_all}
use Rattle.plane_tests.specs.Areas.{is_outside_plane}
use Rattle.plane_tests.specs.Blocks.{cell, strided, TwoBlocks}
use Rattle.plane_tests.proofs.Planes.{in_one}
use Rattle.plane_tests.proofs.Replies.{marked-first}
use Rattle.block_rows.specs.Small.{SmallBlocks, apart_from, blocks_marks, wrapped}
use Rattle.block_rows.specs.Rows.{row_of}
use Rattle.block_rows.proofs.Cells.{row-length, row_at}
use Rattle.block_rows.proofs.Wrapped.{wrapped-small}

-- ---- p and q are row j of each of two blocks
module _
    (a : List ℕ) (s t : ℕ) (b : List ℕ) (s' t' w : ℕ) {h j : ℕ} (m : j < h) {p q : List ℕ} (e : p ≡ row_of a s t j w) (f : q ≡ row_of b s' t' j w) where
  first-at : (i : ℕ) → i < w → get_or p i 0 ≡ cell 0 a s t j i
  first-at i l = ap (λ (r : List ℕ). get_or r i 0) e ∙ row_at a s t j w 0 i l

  second_at : (i : ℕ) → i < w → get_or q i 0 ≡ cell 0 b s' t' j i
  second_at i l = ap (λ (r : List ℕ). get_or r i 0) f ∙ row_at b s' t' j w 0 i l

  -- their OR
  pub rows-marks :
      TwoBlocks w h (length a) s t (length b) s' t' → {r : ℕ} → r ≡ or_n (length p) (λ i. bit_or (get_or p i 0) (get_or q i 0)) →
      r ≡ or_n w (λ i. bit_or (cell 0 a s t j i) (cell 0 b s' t' j i))
  rows-marks k c =
      c ∙ ap (λ (n : ℕ). or_n n (λ i. bit_or (get_or p i 0) (get_or q i 0))) (ap length e ∙ row-length a s t j w (in_one k m))
      ∙ sum-ext addition_or w (λ i. bit_or (get_or p i 0) (get_or q i 0)) (λ i. bit_or (cell 0 a s t j i) (cell 0 b s' t' j i))
      (λ i l. ap₂ bit_or (first-at i l) (second_at i l))

  -- their differences, of which small samples wrap none
  pub rows_apart :
      SmallBlocks w h a s t b s' t' → {n : ℕ} {r : List ℤ} → n ≡ w → r ≡ tab n (λ i. wrapped (pos (get_or p i 0) -ℤ pos (get_or q i 0))) →
      r ≡ tab w (apart_from a s t b s' t' j)
  unfolding apart_from
  rows_apart k {n} {r} d c =
      c ∙ ap (λ (n : ℕ). tab n (λ i. wrapped (pos (get_or p i 0) -ℤ pos (get_or q i 0)))) d
      ∙ tab-ext w (λ i. wrapped (pos (get_or p i 0) -ℤ pos (get_or q i 0))) (apart_from a s t b s' t' j)
      (λ i l. ap₂ (λ (x y : ℕ). wrapped (pos x -ℤ pos y)) (first-at i l) (second_at i l) ∙ wrapped-small (apart_from a s t b s' t' j i) (exact i l))
    where
      exact : (i : ℕ) → i < w → nat_abs (apart_from a s t b s' t' j i) ≤ 32767
      exact i l =
          abs-dif-le 32767 (cell 0 a s t j i) (cell 0 b s' t' j i) (omega (arith, k.first j i m l)) (omega (arith, k.second j i m l))

-- ---- what the OR of all samples says
module _ (w h : ℕ) (a : List ℕ) (s t : ℕ) (b : List ℕ) (s' t' depth : ℕ) {any : ℕ} (e : any ≡ blocks_marks w h a s t b s' t') where
  marked : (x : Bool) → leb (2 ^ depth) any ≡ x → first ((Sample when x) ∷ []) ≡ first (tests_of_samples w h (strided a s t depth) (strided b s' t' depth))
  marked x f =
      ap (λ (u : Bool). first ((Sample when u) ∷ [])) (sym f)
      ∙ marked-first w h depth (strided a s t depth) (strided b s' t' depth) (cell 0 a s t) (cell 0 b s' t') (λ j i. refl) (λ j i. refl) e

  -- SAMPLE's number where a bit at or above the depth is set, else 0
  pub some-marked : (any / 2 ^ depth ≡ 0 → ⊥) → 7 ≡ first (tests_of_samples w h (strided a s t depth) (strided b s' t' depth))
  some-marked f = marked true (le-leb (2 ^ depth) any (div-some any depth f))

  pub none-marked : any / 2 ^ depth ≡ 0 → 0 ≡ first (tests_of_samples w h (strided a s t depth) (strided b s' t' depth))
  none-marked f = marked false (lt-leb (2 ^ depth) any (div-none any depth f))

  -- there each sample is below 2^14
  pub none-small : depth ≤ 14 → any / 2 ^ depth ≡ 0 → SmallBlocks w h a s t b s' t'
  none-small d f =
      let p : 2 ^ depth ≤ 2 ^ 14 = pow_mono d in
      let each = below_all w h depth (cell 0 a s t) (cell 0 b s' t') any e (div-none any depth f) in
      record { first = λ j i m n. le_trans (each j i m n).0 p; second = λ j i m n. le_trans (each j i m n).1 p }

-- ---- packed blocks
-- a packed block lies outside its buffer exactly where that has fewer than h * w samples
packed-area : (n w h : ℕ) → (1 ≤ w) × (w ≤ 64) → (1 ≤ h) × (h ≤ 64) → is_outside_plane n w h w 0 0 w h ≡ ltb n (h * w)
packed-area n w h p q =
    let d = add-mul (h - 1) 1 w in
    let f : (h - 1 + 1) * w ≡ h * w = ap (λ (k : ℕ). k * w) (omega arith) in
    let e : reach 0 w w h ≡ h * w = omega arith in
    rw (
      le-ltb w 1 p.0,
      le-ltb 16384 w (omega arith),
      le-ltb h 1 q.0,
      le-ltb 16384 h (omega arith),
      le-ltb w w (omega arith),
      e,
      le-ltb w (0 + w) (omega arith),
      le-ltb h (0 + h) (omega arith),
    ) (or_nothing (ltb n (h * w)))
  where
    or_nothing : (t : Bool) → t || false || false ≡ t
    or_nothing true = refl
    or_nothing false = refl

-- what two tests of areas find, of which the second is of a packed block
pub areas-found :
    (r s : Bool) (n w h : ℕ) → (1 ≤ w) × (w ≤ 64) → (1 ≤ h) × (h ≤ 64) → r ≡ s → s || is_outside_plane n w h w 0 0 w h ≡ r || ltb n (h * w)
areas-found r s n w h p q e = ap₂ ◌||◌ (sym e) (packed-area n w h p q)
