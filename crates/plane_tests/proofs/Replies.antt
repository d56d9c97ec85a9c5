-- How a call that compares two blocks ends: by its sides, by its depth or an area, or with what is left. Then what is left, of blocks that are
-- read alike. Assumes nothing.
use mathlib.Core.Path.{◌≡◌, refl, sym, ap, ap₂, ◌∙◌}
use mathlib.Core.Bool.{Bool, true, false, ◌||◌, false≢true}
use mathlib.Core.List.{List, [], ◌∷◌}
use Prim.Native.Nat.{ℕ, ◌^◌, ◌<◌}
use lib.Bits.{bit_or}
use lib.Dec.{leb}
use lib.IntN.{ℤ, ◌-ℤ◌}
use Rattle.integers.specs.Or.{or_n}
use Rattle.integers.proofs.Bools.{neither_left, neither_right}
use Rattle.evc.specs.declared.Refusal.TheVariants.{Size, Area, Sample}
use Rattle.evc.specs.Tests.{Test, ◌when◌, first, reply, outside}
use Rattle.evc.specs.Planes.{Block, any_below, any_bad}
use Rattle.evc.specs.Differences.{difference}
use Rattle.evc.specs.Calls.{depth_test, tests_of_samples}
use Rattle.evc.proofs.Marks.{any-ext, any-both}
use Rattle.plane_tests.specs.Blocks.{rest}

-- ---- the tests in front, in the order of the code: p and q ask for the sides, s and t for the areas, and us are the others
module _ (p q : Bool) (depth : ℕ) (s t : Bool) (us : List Test) where
  abbrev whole : ℕ
  whole = first ((Size when p) ∷ (Size when q) ∷ depth_test depth ∷ (Area when s) ∷ (Area when t) ∷ us)

  pub at_size : p || q ≡ true → 1 ≡ whole
  at_size e = go p q e
    where
      go : (p q : Bool) → p || q ≡ true → 1 ≡ first ((Size when p) ∷ (Size when q) ∷ depth_test depth ∷ (Area when s) ∷ (Area when t) ∷ us)
      go true q e = refl
      go false true e = refl
      go false false e = absurd (false≢true e)

  module _ (e : p || q ≡ false) where
    pub at-depth : outside 8 14 depth ≡ true → 4 ≡ whole
    at-depth f = rw (neither_left p q e, neither_right p q e, f)

    module _ (f : outside 8 14 depth ≡ false) where
      pub at-area : s ≡ true → 5 ≡ whole
      at-area g = rw (neither_left p q e, neither_right p q e, f, g)

      module _ (g : s ≡ false) where
        pub at_second : t ≡ true → 5 ≡ whole
        at_second k = rw (neither_left p q e, neither_right p q e, f, g, k)

        pub at_rest : t ≡ false → first us ≡ whole
        at_rest k = rw (neither_left p q e, neither_right p q e, f, g, k)

-- ---- SAMPLE by the OR of marks: f gives the marks of block a, g those of b
module _
    (w h depth : ℕ) (a b : Block) (f g : ℕ → ℕ → ℕ) {any : ℕ} (p : (j i : ℕ) → a.bad (a.reads j i) ≡ leb (2 ^ depth) (f j i))
    (q : (j i : ℕ) → b.bad (b.reads j i) ≡ leb (2 ^ depth) (g j i)) (e : any ≡ or_n h (λ j. or_n w (λ i. bit_or (f j i) (g j i)))) where
  any-ext² : (a : Block) (f : ℕ → ℕ → ℕ) → ((j i : ℕ) → a.bad (a.reads j i) ≡ leb (2 ^ depth) (f j i)) → any_bad w h a ≡ any_below h (λ j. any_below w (λ i. leb (2 ^ depth) (f j i)))
  any-ext² a f p =
      any-ext h (λ j. any_below w (λ i. a.bad (a.reads j i))) (λ j. any_below w (λ i. leb (2 ^ depth) (f j i)))
      (λ j m. any-ext w (λ i. a.bad (a.reads j i)) (λ i. leb (2 ^ depth) (f j i)) (λ i n. p j i))

  pub marked-bad : leb (2 ^ depth) any ≡ any_bad w h a || any_bad w h b
  marked-bad = ap (leb (2 ^ depth)) e ∙ any-both w h depth f g ∙ sym (ap₂ ◌||◌ (any-ext² a f p) (any-ext² b g q))

  pub marked-first : first ((Sample when leb (2 ^ depth) any) ∷ []) ≡ first (tests_of_samples w h a b)
  marked-first = ap (λ (t : Bool). first ((Sample when t) ∷ [])) marked-bad ∙ either (any_bad w h a) (any_bad w h b)
    where
      either : (s t : Bool) → first ((Sample when (s || t)) ∷ []) ≡ first ((Sample when s) ∷ (Sample when t) ∷ [])
      either true t = refl
      either false t = refl

  pub marked-rest : {A : Type 0} (v : A) → reply (first ((Sample when leb (2 ^ depth) any) ∷ [])) v ≡ rest w h a b v
  unfolding rest
  marked-rest v = ap (λ (n : ℕ). reply n v) marked-first

-- ---- blocks that are read alike
pub record Alike (w h : ℕ) (a b : Block) : Type 0 where
  pub reads : (j i : ℕ) → j < h → i < w → a.reads j i ≡ b.reads j i
  pub bad : (v : ℤ) → a.bad v ≡ b.bad v

pub alike : (w h : ℕ) (a : Block) → Alike w h a a
alike w h a = record { reads = λ j i p q. refl; bad = λ v. refl }

pub bad-alike : {w h : ℕ} {a a' : Block} → Alike w h a a' → any_bad w h a ≡ any_bad w h a'
bad-alike {w} {h} {a} {a'} p =
    any-ext h (λ j. any_below w (λ i. a.bad (a.reads j i))) (λ j. any_below w (λ i. a'.bad (a'.reads j i)))
    (λ j n. any-ext w (λ i. a.bad (a.reads j i)) (λ i. a'.bad (a'.reads j i)) (λ i m. ap a.bad (p.reads j i n m) ∙ p.bad (a'.reads j i)))

module _ {w h : ℕ} {a a' b b' : Block} (p : Alike w h a a') (q : Alike w h b b') where
  pub samples-alike : first (tests_of_samples w h a b) ≡ first (tests_of_samples w h a' b')
  samples-alike = ap₂ (λ (s t : Bool). first ((Sample when s) ∷ (Sample when t) ∷ [])) (bad-alike p) (bad-alike q)

  pub rest-alike : {A : Type 0} (u v : A) → u ≡ v → rest w h a b u ≡ rest w h a' b' v
  unfolding rest
  rest-alike {A} u v e = ap₂ (λ (n : ℕ) (x : A). reply n x) samples-alike e

  pub dif-alike : (j i : ℕ) → j < h → i < w → difference a b j i ≡ difference a' b' j i
  dif-alike j i n m = ap₂ ◌-ℤ◌ (p.reads j i n m) (q.reads j i n m)
