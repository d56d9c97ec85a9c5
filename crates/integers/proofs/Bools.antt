-- Laws of tests: a test comes out true or false; `or-…` of two tests of which one is enough, `and-…` of two that are both needed.
use mathlib.Core.Path.{◌≡◌, refl, sym, ◌∙◌}
use mathlib.Core.Logic.{◌⊎◌, inl, inr}
use mathlib.Core.Bool.{Bool, true, false, cond, ◌&&◌, ◌||◌, true≢false, false≢true}
use Prim.Native.Nat.{ℕ, ◌<◌}
use native.Mathlib.Omega.{arith}
use lib.Dec.{ltb}
use borrow.Author.Tests.{ltb-true, ltb-false}

pub by-test : {C : Type 0} (t : Bool) → (t ≡ true → C) → (t ≡ false → C) → C
by-test true f g = f refl
by-test false f g = g refl

pub not-both : {t : Bool} → t ≡ true → t ≡ false → ⊥
not-both e f = true≢false (sym e ∙ f)

pub never_true : (t : Bool) → (t ≡ true → ⊥) → t ≡ false
never_true true h = absurd (h refl)
never_true false h = refl

-- two tests that come out true together are the same
pub same_test : (s t : Bool) → (s ≡ true → t ≡ true) → (t ≡ true → s ≡ true) → s ≡ t
same_test true t f g = sym (f refl)
same_test false t f g = sym (never_true t (λ e. false≢true (g e)))

pub or_cases : (s t : Bool) → s || t ≡ true → (s ≡ true) ⊎ (t ≡ true)
or_cases true t e = inl refl
or_cases false t e = inr e

pub or-neither : (s t : Bool) → s || t ≡ false → (s ≡ false) × (t ≡ false)
or-neither true t e = absurd (true≢false e)
or-neither false t e = (refl, e)

pub neither_left : (s t : Bool) → s || t ≡ false → s ≡ false
neither_left s t e = (or-neither s t e).0

pub neither_right : (s t : Bool) → s || t ≡ false → t ≡ false
neither_right s t e = (or-neither s t e).1

pub or_left : (s t : Bool) → s ≡ true → s || t ≡ true
or_left s t e = rw e

pub or_right : (s t : Bool) → t ≡ true → s || t ≡ true
or_right true t e = refl
or_right false t e = e

pub and_both : (s t : Bool) → s && t ≡ true → (s ≡ true) × (t ≡ true)
and_both true t e = (refl, e)
and_both false t e = absurd (false≢true e)

-- ---- what code answers that tests one after the other
pub or-first : (a b : Bool) → a ≡ true → true ≡ a || b
or-first a b e = rw e

pub or-rest : (x a b : Bool) → a ≡ false → x ≡ b → x ≡ a || b
or-rest x a b e f = rw e f

-- of three
pub or-second : (a b c : Bool) → a ≡ false → b ≡ true → true ≡ a || b || c
or-second a b c e f = or-first (a || b) c (sym (or-rest true a b e (sym f)))

pub or-third : (x a b c : Bool) → a ≡ false → b ≡ false → x ≡ c → x ≡ a || b || c
or-third x a b c e f g = or-rest x (a || b) c (sym (or-rest false a b e (sym f))) g

-- two tests of order are the same where each says the other
pub ltb-same : (a b c d : ℕ) → (a < b → c < d) → (c < d → a < b) → ltb a b ≡ ltb c d
ltb-same a b c d f g = go (ltb a b) (ltb c d) refl refl
  where
    go : (t u : Bool) → ltb a b ≡ t → ltb c d ≡ u → ltb a b ≡ ltb c d
    go true true p q = p ∙ sym q
    go true false p q = let h = f (ltb-true a b p) in let k = ltb-false c d q in let z : ⊥ = omega arith in absurd z
    go false true p q = let h = g (ltb-true c d q) in let k = ltb-false a b p in let z : ⊥ = omega arith in absurd z
    go false false p q = p ∙ sym q

-- two tests that follow each other and answer alike are one
pub either : (s t : Bool) (n m : ℕ) → s || t ≡ true → n ≡ cond s n (cond t n m)
either true t n m e = refl
either false t n m e = rw e
