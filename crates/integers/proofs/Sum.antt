-- Laws of finite sums. First those of any addition, each proved once (`sum_step addition_z+ n f` is the law of ℤ); then those that need the
-- products, the sign or the absolute value of ℤ; then the bounds of ℕ; then a sum of ℤ whose summands are not negative. Assumes nothing.
use mathlib.Core.Path.{◌≡◌, refl, sym, ap, ap₂, ◌∙◌}
use Prim.Native.Nat.{ℕ, zero, suc, ◌+◌, ◌*◌, ◌≤◌, ◌<◌}
use native.Mathlib.Omega.{arith}
use native.Mathlib.Nat.{add-zero, add-suc}
use lib.IntN.{ℤ, pos, ◌+ℤ◌, ◌*ℤ◌, neg_ℤ, *ℤ-zero, zero-*ℤ, neg_ℤ-+ℤ, pos-+ℤ-pos}
use Rattle.integers.specs.Sum.{Addition, addition_z+, sum, sum_z, sum_n}
use Rattle.integers.proofs.Dif.{of, dif-eq, difs}
use Rattle.integers.proofs.Ring.{*ℤ-distl, *ℤ-distr}
use Rattle.integers.proofs.Bound.{Within, within-add, within-mono}

-- ---- any addition
module _ {A : Type 0} (m : Addition A) where
  -- the middle two of four summands change places
  plus-swap : (a b c d : A) → m.plus (m.plus a b) (m.plus c d) ≡ m.plus (m.plus a c) (m.plus b d)
  plus-swap a b c d =
      m.assoc a b (m.plus c d)
      ∙ ap (m.plus a) (sym (m.assoc b c d) ∙ ap (λ (x : A). m.plus x d) (m.comm b c) ∙ m.assoc c b d)
      ∙ sym (m.assoc a c (m.plus b d))

  pub sum-none : (f : ℕ → A) → sum m 0 f ≡ m.none
  unfolding sum
  sum-none f = refl

  pub sum_step : (n : ℕ) (f : ℕ → A) → sum m (suc n) f ≡ m.plus (sum m n f) (f n)
  unfolding sum
  sum_step n f = refl

  -- sums whose summands agree
  pub sum-ext : (n : ℕ) (f g : ℕ → A) → ((k : ℕ) → k < n → f k ≡ g k) → sum m n f ≡ sum m n g
  unfolding sum
  sum-ext zero f g h = refl
  sum-ext (suc n) f g h = let a = sum-ext n f g (λ k p. h k (omega arith)) in let b = h n (omega arith) in cc

  -- a sum of sums
  pub sum-add : (n : ℕ) (f g : ℕ → A) → sum m n (λ k. m.plus (f k) (g k)) ≡ m.plus (sum m n f) (sum m n g)
  unfolding sum
  sum-add zero f g = sym (m.idl m.none)
  sum-add (suc n) f g = ap (λ (z : A). m.plus z (m.plus (f n) (g n))) (sum-add n f g) ∙ plus-swap (sum m n f) (sum m n g) (f n) (g n)

  -- two ranges, one after the other
  pub sum-append : (a n : ℕ) (f : ℕ → A) → sum m (a + n) f ≡ m.plus (sum m a f) (sum m n (λ k. f (a + k)))
  unfolding sum
  sum-append a zero f = rw (add-zero a) (sym (m.comm (sum m a f) m.none ∙ m.idl (sum m a f)))
  sum-append a (suc n) f =
      rw (add-suc a n)
      (ap (λ (z : A). m.plus z (f (a + n))) (sum-append a n f) ∙ m.assoc (sum m a f) (sum m n (λ k. f (a + k))) (f (a + n)))

  -- the first summand apart
  pub sum_first : (n : ℕ) (f : ℕ → A) → sum m (suc n) f ≡ m.plus (f 0) (sum m n (λ k. f (suc k)))
  unfolding sum
  sum_first zero f = m.comm m.none (f 0)
  sum_first (suc n) f = ap (λ (z : A). m.plus z (f (suc n))) (sum_first n f) ∙ m.assoc (f 0) (sum m n (λ k. f (suc k))) (f (suc n))

  -- even and odd places: the step of a halving
  pub sum-halves : (n : ℕ) (f : ℕ → A) → sum m (n + n) f ≡ m.plus (sum m n (λ k. f (k + k))) (sum m n (λ k. f (suc (k + k))))
  unfolding sum
  sum-halves zero f = sym (m.idl m.none)
  sum-halves (suc n) f =
      let e : suc n + suc n ≡ suc (suc (n + n)) = omega arith in
      let evens = sum m n (λ k. f (k + k)) in
      let odds = sum m n (λ k. f (suc (k + k))) in
      rw e
      (ap (λ (z : A). m.plus (m.plus z (f (n + n))) (f (suc (n + n)))) (sum-halves n f)
      ∙ m.assoc (m.plus evens odds) (f (n + n)) (f (suc (n + n))) ∙ plus-swap evens odds (f (n + n)) (f (suc (n + n))))

  nothing : (n : ℕ) → sum m n (λ k. m.none) ≡ m.none
  unfolding sum
  nothing zero = refl
  nothing (suc n) = ap (λ (z : A). m.plus z m.none) (nothing n) ∙ m.idl m.none

  -- two sums, one inside the other, change places
  pub sum-swap : (a b : ℕ) (f : ℕ → ℕ → A) → sum m a (λ i. sum m b (f i)) ≡ sum m b (λ j. sum m a (λ i. f i j))
  unfolding sum
  sum-swap zero b f = sym (nothing b)
  sum-swap (suc a) b f =
      ap (λ (z : A). m.plus z (sum m b (f a))) (sum-swap a b f) ∙ sym (sum-add b (λ j. sum m a (λ i. f i j)) (f a))

-- ---- of ℤ
pub sum-scale : (n : ℕ) (c : ℤ) (f : ℕ → ℤ) → sum_z n (λ k. c *ℤ f k) ≡ c *ℤ sum_z n f
unfolding sum
sum-scale zero c f = sym (*ℤ-zero c)
sum-scale (suc n) c f = ap (λ (z : ℤ). z +ℤ c *ℤ f n) (sum-scale n c f) ∙ sym (*ℤ-distl c (sum_z n f) (f n))

-- the same with the factor on the right
pub sum-times : (n : ℕ) (c : ℤ) (f : ℕ → ℤ) → sum_z n (λ k. f k *ℤ c) ≡ sum_z n f *ℤ c
unfolding sum
sum-times zero c f = sym (zero-*ℤ c)
sum-times (suc n) c f = ap (λ (z : ℤ). z +ℤ f n *ℤ c) (sum-times n c f) ∙ sym (*ℤ-distr (sum_z n f) (f n) c)

pub sum-neg : (n : ℕ) (f : ℕ → ℤ) → sum_z n (λ k. neg_ℤ (f k)) ≡ neg_ℤ (sum_z n f)
unfolding sum
sum-neg zero f = refl
sum-neg (suc n) f = ap (λ (z : ℤ). z +ℤ neg_ℤ (f n)) (sum-neg n f) ∙ sym (neg_ℤ-+ℤ (sum_z n f) (f n))

-- a factor that is a·h + l + c, spread over the products
spread : (a c t h l : ℤ) → t *ℤ (a *ℤ h +ℤ l +ℤ c) ≡ a *ℤ (t *ℤ h) +ℤ t *ℤ l +ℤ c *ℤ t
spread a c t h l = rw (of a, of c, of t, of h, of l) (simp difs (dif-eq _ _ _ _ (omega arith)))

-- so a sum of products with such factors is made of three sums
pub sum-spread : (n : ℕ) (a c : ℤ) (t h l : ℕ → ℤ) → sum_z n (λ k. t k *ℤ (a *ℤ h k +ℤ l k +ℤ c)) ≡ a *ℤ sum_z n (λ k. t k *ℤ h k) +ℤ sum_z n (λ k. t k *ℤ l k) +ℤ c *ℤ sum_z n t
sum-spread n a c t h l =
    sum-ext addition_z+ n _ (λ k. a *ℤ (t k *ℤ h k) +ℤ t k *ℤ l k +ℤ c *ℤ t k) (λ k p. spread a c (t k) (h k) (l k))
    ∙ sum-add addition_z+ n (λ k. a *ℤ (t k *ℤ h k) +ℤ t k *ℤ l k) (λ k. c *ℤ t k)
    ∙ ap₂ ◌+ℤ◌
    (sum-add addition_z+ n (λ k. a *ℤ (t k *ℤ h k)) (λ k. t k *ℤ l k) ∙ ap (λ (z : ℤ). z +ℤ sum_z n (λ k. t k *ℤ l k)) (sum-scale n a (λ k. t k *ℤ h k)))
    (sum-scale n c t)

-- a sum of n numbers, each within b, is within n · b
pub within-sum : (n b : ℕ) (f : ℕ → ℤ) → ((k : ℕ) → k < n → Within b (f k)) → Within (n * b) (sum_z n f)
unfolding sum
within-sum zero b f h = record { bound = omega arith }
within-sum (suc n) b f h =
    within-mono (omega arith) (within-add (within-sum n b f (λ k p. h k (omega arith))) (h n (omega arith)))

-- ---- of ℕ

-- a sum of n numbers, each at most b, is at most n · b
pub sum-le : (n b : ℕ) (f : ℕ → ℕ) → ((k : ℕ) → k < n → f k ≤ b) → sum_n n f ≤ n * b
unfolding sum
sum-le zero b f h = omega arith
sum-le (suc n) b f h = omega (arith, sum-le n b f (λ k p. h k (omega arith)), h n (omega arith))

-- ---- from ℤ to ℕ
pub sum-pos : (n : ℕ) (f : ℕ → ℕ) → sum_z n (λ k. pos (f k)) ≡ pos (sum_n n f)
unfolding sum
sum-pos zero f = refl
sum-pos (suc n) f = ap (λ (z : ℤ). z +ℤ pos (f n)) (sum-pos n f) ∙ pos-+ℤ-pos (sum_n n f) (f n)
