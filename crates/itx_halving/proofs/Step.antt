-- The buffer during a halving step: n places and their mirrors are done, the others still hold the size half as large. Assumes nothing.
use mathlib.Core.Path.{◌≡◌, refl, sym, ap, ◌∙◌, subst}
use mathlib.Core.Logic.{◌≢◌}
use mathlib.Core.List.{List}
use Prim.Native.Nat.{ℕ, zero, suc, ◌+◌, ◌*◌, ◌-◌, ◌≤◌, ◌<◌}
use native.Mathlib.Omega.{arith}
use native.Mathlib.Nat.{not-suc-le-zero, zero-mul, one-mul, add-zero, mul-add, add-mul, mul-le-mul_left}
use native.Mathlib.Decide.{ℕ_discrete, dec_lt}
use lib.ListN.{length, get_or, set, length-set}
use lib.Seq.{get_or-set_same, get_or-set_other}
use lib.IntN.{ℤ, pos, ◌+ℤ◌, ◌-ℤ◌, ◌*ℤ◌, +ℤ_idl}
use Rattle.integers.specs.Sum.{sum}
use Rattle.itx_table.specs.Mirror.{Mirrored}
use Rattle.itx_halving.specs.Line.{line, rows, dot, odd, Inputs, Table, Level, Sums, Part, Steps, Begun}
use Rattle.itx_halving.proofs.Halving.{split, mirrored}

module _ {e x : List ℤ} {T : ℕ → ℕ → ℤ} {q m : ℕ} where
  pub none : Sums e T (q + q) m x → Part e T q m 0 x
  none h =
      record {
        long = h.long ∙ mul-add m q q ∙ sym (add-mul m m q);
        low = λ j p. absurd (not-suc-le-zero p);
        high = λ j p. absurd (not-suc-le-zero p);
        rest = λ j p r. h.at j r;
      }

  pub all : Part e T q m m x → Sums e T q (m + m) x
  all p = record { long = p.long; at = λ n h. by n h (dec_lt n m) }
    where
      by : (n : ℕ) → n < m + m → Dec (n < m) → get_or e n (pos 0) ≡ dot T q (m + m) n (line x)
      by n h (yes l) = p.low n l
      by n h (no f) =
          let r : m + m - suc (m + m - suc n) ≡ n = omega arith in
          subst (λ (i : ℕ). get_or e i (pos 0) ≡ dot T q (m + m) i (line x)) r (p.high (m + m - suc n) (omega arith))

-- a size 2m that divides the line's is a level of it
pub level-at : {t x : List ℤ} {w N : ℕ} → Table t w N → Inputs x N → (m q : ℕ) → (m + m) * q ≡ N → 2 ≤ m → 0 < q → Level t w x m q
level-at g v m q e h k = record { table = rw e g; inputs = rw e v; size = h; stride = k }

-- so levels follow each other: the first has size 4, and the next is twice as large
module _ {t x e : List ℤ} {w : ℕ} (q : ℕ) where
  pub begin : Begun t w x e (q + q) → 0 < q → Steps t w x e 2 q 0
  begin b s = record { level = level-at b.table b.inputs 2 q (omega arith) (omega arith) s; part = none b.sums }

  pub up : {m : ℕ} → Steps t w x e m (q + q) m → 0 < q → Steps t w x e (m + m) q 0
  up {m} b s =
      let l = b.level in
      record {
        level = level-at l.table l.inputs (m + m) q (add-mul (m + m) (m + m) q ∙ sym (mul-add (m + m) q q)) (omega (arith, l.size)) s;
        part = none (all b.part);
      }

-- a place of the level is a place of the buffer
pub place : (m q : ℕ) → 0 < q → (n : ℕ) → n < m + m → n < (m + m) * q
place m q s n h = omega (arith, mul-le-mul_left {m = 1} {n = q} (m + m) s)

-- one place and its mirror more: the sum and the difference of the halves
module _ {x e : List ℤ} {T : ℕ → ℕ → ℤ} {m q : ℕ} (g : Mirrored ((m + m) * q) T) (size : 2 ≤ m) (stride : 0 < q) (n : ℕ) (h : n < m) (p : Part e T q m n x) (a b : ℤ) where
  abbrev after : List ℤ
  after = set (set e n a) (m + m - suc n) b

  at_n : get_or after n (pos 0) ≡ a
  at_n =
      get_or-set_other (set e n a) (m + m - suc n) n b (pos 0) (λ r. omega arith)
      ∙ get_or-set_same e n a (pos 0) (omega (arith, place m q stride n (omega arith), p.long))

  at-mirror : get_or after (m + m - suc n) (pos 0) ≡ b
  at-mirror = get_or-set_same (set e n a) (m + m - suc n) b (pos 0) (omega (arith, place m q stride (m + m - suc n) (omega arith), p.long, length-set e n a))

  other : (j : ℕ) → j ≢ n → j ≢ m + m - suc n → get_or after j (pos 0) ≡ get_or e j (pos 0)
  other j f k = get_or-set_other (set e n a) (m + m - suc n) j b (pos 0) k ∙ get_or-set_other e n j a (pos 0) f

  module _ (ea : a ≡ dot T (q + q) m n (line x) +ℤ odd T q m n (line x)) (eb : b ≡ dot T (q + q) m n (line x) -ℤ odd T q m n (line x)) where
    low-more : (j : ℕ) → j < n + 1 → Dec (j ≡ n) → get_or after j (pos 0) ≡ dot T q (m + m) j (line x)
    low-more j l (yes r) =
        subst (λ (i : ℕ). get_or after i (pos 0) ≡ dot T q (m + m) i (line x)) (sym r) (at_n ∙ ea ∙ sym (split T q m (line x) n))
    low-more j l (no f) = other j f (λ r. omega arith) ∙ p.low j (omega arith)

    high-more : (j : ℕ) → j < n + 1 → Dec (j ≡ n) → get_or after (m + m - suc j) (pos 0) ≡ dot T q (m + m) (m + m - suc j) (line x)
    high-more j l (yes r) =
        subst (λ (i : ℕ). get_or after (m + m - suc i) (pos 0) ≡ dot T q (m + m) (m + m - suc i) (line x)) (sym r)
        (at-mirror ∙ eb ∙ sym (mirrored T q m (line x) g refl size n h))
    high-more j l (no f) = other (m + m - suc j) (λ r. omega arith) (λ r. f (omega arith)) ∙ p.high j (omega arith)

    pub more : Part after T q m (n + 1) x
    more =
        record {
          long = length-set (set e n a) (m + m - suc n) b ∙ length-set e n a ∙ p.long;
          low = λ j l. low-more j l (ℕ_discrete j n);
          high = λ j l. high-more j l (ℕ_discrete j n);
          rest = λ j l r. other j (λ v. omega arith) (λ v. omega arith) ∙ p.rest j (omega arith) r;
        }

-- ---- where the halving starts: the product of size 2
pub two : (T : ℕ → ℕ → ℤ) (q n : ℕ) (x : ℕ → ℤ) → dot T q 2 n x ≡ T 0 n *ℤ x 0 +ℤ T q n *ℤ x q
unfolding dot sum
two T q n x =
    ap (λ (z : ℤ). z +ℤ T (1 * q) n *ℤ x (1 * q)) (+ℤ_idl (T (0 * q) n *ℤ x (0 * q)))
    ∙ ap (λ (i : ℕ). T i n *ℤ x i +ℤ T (1 * q) n *ℤ x (1 * q)) (zero-mul q)
    ∙ ap (λ (i : ℕ). T 0 n *ℤ x 0 +ℤ T i n *ℤ x i) (one-mul q)

module _ (t x e : List ℤ) (w q : ℕ) (s : 0 < q) (l : length e ≡ q + q) (a b : ℤ) where
  abbrev pair : List ℤ
  pair = set (set e 0 a) 1 b

  -- at the code's places of the table
  pub started :
      a ≡ get_or t 0 (pos 0) *ℤ line x 0 +ℤ get_or t (q * w) (pos 0) *ℤ line x q →
      b ≡ get_or t 1 (pos 0) *ℤ line x 0 +ℤ get_or t (q * w + 1) (pos 0) *ℤ line x q →
      Sums pair (rows t w) q 2 x
  started ea eb = record { long = length-set (set e 0 a) 1 b ∙ length-set e 0 a ∙ l ∙ omega arith; at = at }
    where
      at : (n : ℕ) → n < 2 → get_or pair n (pos 0) ≡ dot (rows t w) q 2 n (line x)
      at zero h =
          get_or-set_other (set e 0 a) 1 0 b (pos 0) (λ r. omega arith) ∙ get_or-set_same e 0 a (pos 0) (omega arith) ∙ ea
          ∙ sym (two (rows t w) q 0 (line x) ∙ rw (zero-mul w, add-zero (q * w)))
      at (suc zero) h =
          get_or-set_same (set e 0 a) 1 b (pos 0) (omega (arith, length-set e 0 a)) ∙ eb ∙ sym (two (rows t w) q 1 (line x) ∙ rw (zero-mul w))
      at (suc (suc n)) h = let z : ⊥ = omega arith in absurd z
