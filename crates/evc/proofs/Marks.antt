-- SAMPLE by the OR of all samples: a power of two is reached by an OR exactly where it is reached by a number in it. Assumes nothing.
use mathlib.Core.Path.{◌≡◌, refl, sym, ap, ap₂, ◌∙◌}
use mathlib.Core.Bool.{Bool, true, false, ◌||◌}
use Prim.Native.Nat.{ℕ, zero, suc, ◌^◌, ◌<◌}
use native.Mathlib.Nat.{not-suc-le-zero}
use native.Mathlib.Decide.{ℕ_discrete}
use native.Mathlib.Omega.{arith}
use lib.Dec.{leb}
use lib.Pow.{pow_pos}
use lib.Bits.{bit_or, or_lt, or_add_and, and_le_l, and_le_r}
use borrow.Author.Tests.{leb-true, leb-false, le-leb, lt-leb}
use Rattle.integers.specs.Sum.{sum}
use Rattle.integers.specs.Or.{addition_or, or_n}
use Rattle.integers.proofs.Sum.{sum-add, sum-ext}
use Rattle.integers.proofs.Bools.{neither_left, neither_right}
use Rattle.evc.specs.Planes.{any_below}

pub or-reaches : (k a b : ℕ) → leb (2 ^ k) (bit_or a b) ≡ leb (2 ^ k) a || leb (2 ^ k) b
or-reaches k a b = go (leb (2 ^ k) a) (leb (2 ^ k) b) refl refl
  where
    go : (t u : Bool) → leb (2 ^ k) a ≡ t → leb (2 ^ k) b ≡ u → leb (2 ^ k) (bit_or a b) ≡ t || u
    go true u p q = le-leb (2 ^ k) (bit_or a b) (omega (arith, leb-true (2 ^ k) a p, or_add_and a b, and_le_r a b))
    go false true p q = le-leb (2 ^ k) (bit_or a b) (omega (arith, leb-true (2 ^ k) b q, or_add_and a b, and_le_l a b))
    go false false p q = lt-leb (2 ^ k) (bit_or a b) (or_lt k a b (leb-false (2 ^ k) a p) (leb-false (2 ^ k) b q))

-- ---- P at some number below n
pub any-ext : (n : ℕ) (P Q : ℕ → Bool) → ((i : ℕ) → i < n → P i ≡ Q i) → any_below n P ≡ any_below n Q
any-ext zero P Q h = refl
any-ext (suc n) P Q h = ap₂ ◌||◌ (any-ext n P Q (λ i p. h i (omega arith))) (h n (omega arith))

any-or : (n k : ℕ) (g : ℕ → ℕ) → leb (2 ^ k) (or_n n g) ≡ any_below n (λ i. leb (2 ^ k) (g i))
unfolding sum
any-or zero k g = lt-leb (2 ^ k) 0 (pow_pos k)
any-or (suc n) k g = or-reaches k (or_n n g) (g n) ∙ ap (λ (t : Bool). t || leb (2 ^ k) (g n)) (any-or n k g)

-- the same over rows
any-rows : (w h k : ℕ) (g : ℕ → ℕ → ℕ) → leb (2 ^ k) (or_n h (λ j. or_n w (g j))) ≡ any_below h (λ j. any_below w (λ i. leb (2 ^ k) (g j i)))
any-rows w h k g =
    any-or h k (λ j. or_n w (g j)) ∙ any-ext h (λ j. leb (2 ^ k) (or_n w (g j))) (λ j. any_below w (λ i. leb (2 ^ k) (g j i))) (λ j p. any-or w k (g j))

-- and of two blocks
pub any-both :
    (w h k : ℕ) (f g : ℕ → ℕ → ℕ) →
    leb (2 ^ k) (or_n h (λ j. or_n w (λ i. bit_or (f j i) (g j i))))
    ≡ any_below h (λ j. any_below w (λ i. leb (2 ^ k) (f j i))) || any_below h (λ j. any_below w (λ i. leb (2 ^ k) (g j i)))
any-both w h k f g =
    ap (leb (2 ^ k))
    (sum-ext addition_or h (λ j. or_n w (λ i. bit_or (f j i) (g j i))) (λ j. bit_or (or_n w (f j)) (or_n w (g j))) (λ j p. sum-add addition_or w (f j) (g j))
    ∙ sum-add addition_or h (λ j. or_n w (f j)) (λ j. or_n w (g j)))
    ∙ or-reaches k (or_n h (λ j. or_n w (f j))) (or_n h (λ j. or_n w (g j))) ∙ ap₂ ◌||◌ (any-rows w h k f) (any-rows w h k g)

-- where no number below n has P, each has not
pub any_none : (n : ℕ) (P : ℕ → Bool) → any_below n P ≡ false → (i : ℕ) → i < n → P i ≡ false
any_none zero P e i h = absurd (not-suc-le-zero h)
any_none (suc n) P e i h = go (any_none n P (neither_left (any_below n P) (P n) e) i) (ℕ_discrete i n)
  where
    go : (i < n → P i ≡ false) → Dec (i ≡ n) → P i ≡ false
    go f (yes q) = ap P q ∙ neither_right (any_below n P) (P n) e
    go f (no q) = f (omega arith)

-- so an OR of all marks below a power of two bounds each mark
pub below_all : (w h k : ℕ) (f g : ℕ → ℕ → ℕ) (any : ℕ) → any ≡ or_n h (λ j. or_n w (λ i. bit_or (f j i) (g j i))) → any < 2 ^ k → (j i : ℕ) → j < h → i < w → (f j i < 2 ^ k) × (g j i < 2 ^ k)
below_all w h k f g any e p j i m n =
    let F : ℕ → Bool = λ j. any_below w (λ i. leb (2 ^ k) (f j i)) in
    let G : ℕ → Bool = λ j. any_below w (λ i. leb (2 ^ k) (g j i)) in
    let t = sym (ap (leb (2 ^ k)) e ∙ any-both w h k f g) ∙ lt-leb (2 ^ k) any p in (
      leb-false (2 ^ k) (f j i) (any_none w (λ i. leb (2 ^ k) (f j i)) (any_none h F (neither_left (any_below h F) (any_below h G) t) j m) i n),
      leb-false (2 ^ k) (g j i) (any_none w (λ i. leb (2 ^ k) (g j i)) (any_none h G (neither_right (any_below h F) (any_below h G) t) j m) i n),
    )
