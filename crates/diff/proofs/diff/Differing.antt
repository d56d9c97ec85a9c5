-- How a call of DIFF ends: its number and its buffer together, test by test. A and B give the two blocks by their sides, as in Logs.
-- Assumes nothing.
use mathlib.Core.Path.{◌≡◌, refl, sym, ap, ap₂, ◌∙◌}
use mathlib.Core.Bool.{Bool, true, false, ◌||◌, true≢false, false≢true}
use mathlib.Core.List.{List, ◌∷◌, ◌++◌}
use Prim.Native.Nat.{ℕ, suc, ◌*◌, ◌/◌, ◌%◌, ◌^◌, ◌≤◌, ◌<◌}
use native.Mathlib.Nat.{mul_comm, mod-lt, div-lt_iff_lt-mul}
use lib.Dec.{ltb}
use lib.IntN.{ℤ}
use lib.ListN.{length}
use lib.Pow.{pow-add}
use Rattle.integers.specs.Lists.{written}
use Rattle.integers.proofs.Written.{written-ext}
use Rattle.order.specs.Jobs.{if_accepted}
use Rattle.integers.proofs.Bools.{neither_left, neither_right}
use Rattle.evc.specs.declared.Refusal.TheVariants.{Area}
use Rattle.evc.specs.Tests.{Test, ◌when◌, first, outside, log_sizes, samples_of}
use Rattle.evc.specs.Planes.{Block}
use Rattle.evc.specs.Differences.{difference, diff_at}
use Rattle.evc.specs.Calls.{depth_test, area_tests, tests_of_samples, diff_number, diff_exit}
use Rattle.plane_tests.proofs.Replies.{Alike, samples-alike, dif-alike, at_size, at-depth}
use Rattle.diff.specs.Rests.{Differed}

-- h rows of w are the samples of the two logarithms
pub rows_are : (logw logh w h : ℕ) → w ≡ 2 ^ logw → h ≡ 2 ^ logh → h * w ≡ samples_of logw logh
rows_are logw logh w h p q = mul_comm h w ∙ ap₂ ◌*◌ p q ∙ sym (pow-add 2 logw logh)

-- blocks that are read alike differ alike
pub differed-alike :
    {w h : ℕ} {a a' b b' : Block} {l : List ℤ} {n : ℕ} {x : List ℤ} → 1 ≤ w → Alike w h a a' → Alike w h b b' → Differed w h a b l n x → Differed w h a' b' l n x
unfolding diff_at
differed-alike {w} {h} {a} {a'} {b} {b'} {l} {n} {x} some p q d = record {
  answer = d.answer ∙ samples-alike p q;
  buffer = d.buffer ∙ ap (λ (m : List ℤ). if_accepted n m l) (written-ext (h * w) (diff_at w (difference a b)) (diff_at w (difference a' b')) l each);
}
  where
    each : (k : ℕ) → k < h * w → difference a b (k / w) (k % w) ≡ difference a' b' (k / w) (k % w)
    each k m = dif-alike p q (k / w) (k % w) ((div-lt_iff_lt-mul some).1 m) (mod-lt k some)

-- ---- AREA, three times in a row: one of the tests is broken, or none is
abbrev areas-then : Bool → Bool → Bool → List Test → ℕ
areas-then s t u us = first ((Area when s) ∷ (Area when t) ∷ (Area when u) ∷ us)

some-area : (s t u : Bool) (us : List Test) → s || t || u ≡ true → 5 ≡ areas-then s t u us
some-area true t u us e = refl
some-area false true u us e = refl
some-area false false true us e = refl
some-area false false false us e = absurd (false≢true e)

no-area : (s t u : Bool) (us : List Test) → s || t || u ≡ false → first us ≡ areas-then s t u us
no-area true t u us e = absurd (true≢false e)
no-area false true u us e = absurd (true≢false e)
no-area false false true us e = absurd (true≢false e)
no-area false false false us e = refl

module _ (logw logh depth : ℕ) (A B : ℕ → ℕ → Block) (l : List ℤ) where
  abbrev number : ℕ
  number = diff_number (length l) logw logh depth (A (2 ^ logw) (2 ^ logh)) (B (2 ^ logw) (2 ^ logh))

  -- what is promised of the number and of the buffer
  abbrev pub Ends : ℕ → List ℤ → Type 0
  Ends n x = (n ≡ number) × (x ≡ diff_exit logw logh depth (A (2 ^ logw) (2 ^ logh)) (B (2 ^ logw) (2 ^ logh)) l)

  module _ (w h : ℕ) (p : w ≡ 2 ^ logw) (q : h ≡ 2 ^ logh) where
    -- the tests that follow those of the two areas
    abbrev others : List Test
    others = (Area when ltb (length l) (samples_of logw logh)) ∷ tests_of_samples w h (A w h) (B w h)

    abbrev whole : ℕ
    whole = first (log_sizes logw logh ++ (depth_test depth ∷ (area_tests (A w h) (B w h) ++ others)))

    -- the same at the powers
    same : whole ≡ number
    unfolding diff_number
    same =
        ap₂ (λ (w h : ℕ). first (log_sizes logw logh ++ (depth_test depth ∷ (area_tests (A w h) (B w h) ++ ((Area when ltb (length l) (samples_of logw logh)) ∷ tests_of_samples w h (A w h) (B w h))))))
        p q

    -- a refusal leaves the buffer
    stops : (n : ℕ) → suc n ≡ whole → Ends (suc n) l
    unfolding diff_exit
    stops n e = (
      e ∙ same,
      ap (λ (m : ℕ). if_accepted m (written (samples_of logw logh) (diff_at (2 ^ logw) (difference (A (2 ^ logw) (2 ^ logh)) (B (2 ^ logw) (2 ^ logh)))) l) l) (e ∙ same),
    )

    module _ (e : ltb 6 logw || ltb 6 logh ≡ false) where
      pub diff-depth : outside 8 14 depth ≡ true → Ends 4 l
      diff-depth f = stops 3 (at-depth (ltb 6 logw) (ltb 6 logh) depth (A w h).area (B w h).area others e f)

      module _ (f : outside 8 14 depth ≡ false) where
        -- what the tests of the two areas and of the room find
        abbrev areas : Bool
        areas = (A w h).area || (B w h).area || ltb (length l) (h * w)

        -- the same by the samples of the two logarithms
        at-samples : areas ≡ (A w h).area || (B w h).area || ltb (length l) (samples_of logw logh)
        at-samples = ap (λ (m : ℕ). (A w h).area || (B w h).area || ltb (length l) m) (rows_are logw logh w h p q)

        asked : first (area_tests (A w h) (B w h) ++ others) ≡ whole
        asked = rw (neither_left (ltb 6 logw) (ltb 6 logh) e, neither_right (ltb 6 logw) (ltb 6 logh) e, f)

        pub diff-area : areas ≡ true → Ends 5 l
        diff-area g =
            stops 4
            (some-area (A w h).area (B w h).area (ltb (length l) (samples_of logw logh)) (tests_of_samples w h (A w h) (B w h)) (sym at-samples ∙ g) ∙ asked)

        pub diff-rest : {n : ℕ} {x : List ℤ} → areas ≡ false → Differed w h (A w h) (B w h) l n x → Ends n x
        unfolding diff_exit
        diff-rest {n} {x} g d =
            let z : n ≡ number =
            d.answer
            ∙ no-area (A w h).area (B w h).area (ltb (length l) (samples_of logw logh)) (tests_of_samples w h (A w h) (B w h)) (sym at-samples ∙ g) ∙ asked ∙ same
            in (
              z,
              d.buffer
                  ∙ ap₂ (λ (i j : ℕ). if_accepted i (written j (diff_at w (difference (A w h) (B w h))) l) l) z (rows_are logw logh w h p q)
                  ∙ ap₂ (λ (w h : ℕ). if_accepted number (written (samples_of logw logh) (diff_at w (difference (A w h) (B w h))) l) l) p q,
            )

  pub diff-size : ltb 6 logw || ltb 6 logh ≡ true → Ends 1 l
  diff-size e =
      let w = 2 ^ logw in
      let h = 2 ^ logh in
      stops w h refl refl 0 (at_size (ltb 6 logw) (ltb 6 logh) depth (A w h).area (B w h).area (others w h refl refl) e)
