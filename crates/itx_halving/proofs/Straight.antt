-- A line of size 2m from its halves, once over m: what the even inputs give with the even rows, and the odd inputs' share (the halving
-- theorem, with the strides of line and table doubled in place of a stride of its own). Then the shares and the size 2, written out.
-- Assumes nothing.
use mathlib.Core.Path.{◌≡◌, sym, ap, ap₂, ◌∙◌, subst}
use mathlib.Core.List.{List}
use Prim.Native.Nat.{ℕ, suc, ◌+◌, ◌*◌, ◌-◌, ◌≤◌, ◌<◌}
use native.Mathlib.Omega.{arith}
use native.Mathlib.Nat.{mul-add, add-mul, mul-one}
use native.Mathlib.Decide.{dec_lt}
use lib.ListN.{length, get_or}
use lib.IntN.{ℤ, pos, ◌+ℤ◌, ◌-ℤ◌, ◌*ℤ◌, nat_abs, +ℤ_idl, +ℤ_assoc}
use Rattle.integers.specs.Sum.{addition_z+, sum}
use Rattle.integers.proofs.Bound.{within-add, within-sub}
use Rattle.integers.proofs.Sum.{sum-ext}
use Rattle.evc.specs.Stages.{product}
use Rattle.itx_table.specs.Mirror.{Mirrored}
use Rattle.itx_halving.specs.Line.{rows, dot, odd}
use Rattle.itx_halving.proofs.Halving.{split, mirrored, whole}
use Rattle.itx_halving.specs.Straight.{Reach, Product, Odd, Line}

-- the even rows or inputs, at twice the stride
twice : (k w : ℕ) → k * (w + w) ≡ k * 2 * w
twice k w = let e : k * 2 ≡ k + k = omega arith in mul-add k w w ∙ sym (add-mul k k w) ∙ ap (λ (i : ℕ). i * w) (sym e)

module _ (t : List ℤ) (w : ℕ) (x : List ℤ) (l j : ℕ) where
  -- the line as a function
  abbrev line : ℕ → ℤ
  line k = rows x l k j

  direct : (N n : ℕ) → product (rows t w) N l x j n ≡ dot (rows t w) 1 N n line
  unfolding product
  direct N n = sym (whole (rows t w) N n line)

  evens : (m n : ℕ) → product (rows t (w + w)) m (l + l) x j n ≡ dot (rows t w) 2 m n line
  unfolding product dot
  evens m n = sum-ext addition_z+ m _ _ (λ k h. ap₂ (λ (a b : ℕ). get_or t (a + n) (pos 0) *ℤ get_or x (b + j) (pos 0)) (twice k w) (twice k l))

  -- a place of the first half, and its mirror
  module _ (m n : ℕ) where
    abbrev E : ℤ
    E = product (rows t (w + w)) m (l + l) x j n

    abbrev O : ℤ
    O = odd (rows t w) 1 m n line

    low-is : product (rows t w) (m + m) l x j n ≡ E +ℤ O
    low-is = direct (m + m) n ∙ split (rows t w) 1 m line n ∙ ap (λ (z : ℤ). z +ℤ O) (sym (evens m n))

    high_is : Mirrored (m + m) (rows t w) → 2 ≤ m → n < m → product (rows t w) (m + m) l x j (m + m - suc n) ≡ E -ℤ O
    high_is g s h =
        direct (m + m) (m + m - suc n) ∙ mirrored (rows t w) 1 m line g (mul-one (m + m)) s n h ∙ ap (λ (z : ℤ). z -ℤ O) (sym (evens m n))

-- what holds in the first half, and in the second from its end, holds in both
pub both : (m : ℕ) (P : ℕ → Type 0) → ((n : ℕ) → n < m → P n) → ((n : ℕ) → n < m → P (m + m - suc n)) → (n : ℕ) → n < m + m → P n
both m P low high n h = by (dec_lt n m)
  where
    by : Dec (n < m) → P n
    by (yes p) = low n p
    by (no f) = let i : m + m - suc (m + m - suc n) ≡ n = omega arith in subst P i (high (m + m - suc n) (omega arith))

-- the step from size m to 2m: the even half e, and the shares o of the odd inputs
module _ (B C : ℕ) (t : List ℤ) (w : ℕ) (x : List ℤ) (l j m : ℕ) (e r : List ℤ) (o : ℕ → ℤ)
    (g : Mirrored (m + m) (rows t w))
    (s : 2 ≤ m)
    (even : Line B (rows t (w + w)) m (l + l) x j e)
    (odds : (n : ℕ) → n < m → Odd C (rows t w) m l x j n (o n))
    (long : length r ≡ m + m) where
  -- a place and its mirror, exactly
  abbrev pub sums : ℕ → ℤ
  sums n = product (rows t w) (m + m) l x j n

  pub low_sum : (n : ℕ) → n < m → get_or e n (pos 0) +ℤ o n ≡ sums n
  low_sum n h = ap₂ ◌+ℤ◌ (even.at n h) (odds n h).is ∙ sym (low-is t w x l j m n)

  pub high_sum : (n : ℕ) → n < m → get_or e n (pos 0) -ℤ o n ≡ sums (m + m - suc n)
  high_sum n h = ap₂ ◌-ℤ◌ (even.at n h) (odds n h).is ∙ sym (high_is t w x l j m n g s h)

  pub joined : ((n : ℕ) → n < m → get_or r n (pos 0) ≡ get_or e n (pos 0) +ℤ o n) → ((n : ℕ) → n < m → get_or r (m + m - suc n) (pos 0) ≡ get_or e n (pos 0) -ℤ o n) → Line (B + C) (rows t w) (m + m) l x j r
  joined low high = record { long = long; at = λ n h. (right n h).0; small = λ n h. (right n h).1 }
    where
      right : (n : ℕ) → n < m + m → (get_or r n (pos 0) ≡ sums n) × (nat_abs (get_or r n (pos 0)) ≤ B + C)
      right =
          both m (λ n. (get_or r n (pos 0) ≡ sums n) × (nat_abs (get_or r n (pos 0)) ≤ B + C))
          (λ n h. (low n h ∙ low_sum n h, rw (low n h) (within-add {x = get_or e n (pos 0)} {y = o n} (record { bound = even.small n h }) (record { bound = (odds n h).small })).bound))
          (λ n h. (high n h ∙ high_sum n h, rw (high n h) (within-sub {x = get_or e n (pos 0)} {y = o n} (record { bound = even.small n h }) (record { bound = (odds n h).small })).bound))

-- ---- where the code reads
-- column n of row k, and input k
pub there : {t : List ℤ} {w : ℕ} {x : List ℤ} {l j N : ℕ} → Reach t w x l j N → (k n : ℕ) → k < N → n < N → (k * w + n < length t) × (k * l + j < length x)
there g k n h i = (g.table k n h i, g.input k h)

pub half-reach : {t : List ℤ} {w : ℕ} {x : List ℤ} {l j : ℕ} (m : ℕ) → Reach t w x l j (m + m) → Reach t (w + w) x (l + l) j m
half-reach {w = w} {l = l} m g = record {
  table = λ k n hk hn. rw (mul-add k w w, ← add-mul k k w) (g.table (k + k) n (omega arith) (omega arith));
  input = λ k h. rw (mul-add k l l, ← add-mul k k l) (g.input (k + k) (omega arith));
}

-- ---- the shares and the size 2, written out
module _ (T : ℕ → ℕ → ℤ) (n : ℕ) (x : ℕ → ℤ) where
  pub odd-two : {A : ℕ} {a b : ℤ} → Product A (T 1 n) (x 1) a → Product A (T 3 n) (x 3) b → a +ℤ b ≡ odd T 1 2 n x
  unfolding odd sum
  odd-two p q = ap₂ ◌+ℤ◌ (p.is ∙ sym (+ℤ_idl (T 1 n *ℤ x 1))) q.is

  pub odd-four : {A : ℕ} {a b c d : ℤ} → Product A (T 1 n) (x 1) a → Product A (T 3 n) (x 3) b → Product A (T 5 n) (x 5) c → Product A (T 7 n) (x 7) d → a +ℤ b +ℤ (c +ℤ d) ≡ odd T 1 4 n x
  unfolding odd sum
  odd-four {A} {a} {b} {c} {d} p q r s =
      sym (+ℤ_assoc (a +ℤ b) c d)
      ∙ ap₂ ◌+ℤ◌ (ap₂ ◌+ℤ◌ (ap₂ ◌+ℤ◌ (p.is ∙ sym (+ℤ_idl (T 1 n *ℤ x 1))) q.is) r.is) s.is

pub two : (T : ℕ → ℕ → ℤ) (l : ℕ) (x : List ℤ) (j n : ℕ) {A : ℕ} {a b : ℤ} → Product A (T 0 n) (rows x l 0 j) a → Product A (T 1 n) (rows x l 1 j) b → a +ℤ b ≡ product T 2 l x j n
unfolding product sum
two T l x j n p q = ap₂ ◌+ℤ◌ (p.is ∙ sym (+ℤ_idl (T 0 n *ℤ rows x l 0 j))) q.is
