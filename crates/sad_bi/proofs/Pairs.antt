-- The loop of `pairs`: of n numbers and the n after them, added in pairs, whose quotients by 256 are summed, and the pairs modulo 2^16. And a sum over a
-- packed block, which is one over its rows, however wide. Assumes nothing.
use Rattle.std.proofs.Common.{◌≡◌, ℕ, zero, suc, ◌+◌, ◌*◌, ◌/◌, ◌%◌, ◌<◌, ◌≤◌, sym, refl, ap, ◌∙◌, ap₂, mod-lt, le_antisymm, div-add-mod', add-one, arith}
use native.Mathlib.Nat.{mod-add-mod}
use lib.Bits.{bit_or, or_comm}
use Rattle.integers.specs.Sum.{Addition, addition_n+, sum, sum_n}
use Rattle.integers.specs.Or.{addition_or, or_assoc}
use Rattle.integers.proofs.Sum.{sum-ext, sum-add, sum-append, sum_step, sum-le}
use Rattle.integers.proofs.Loop.{Summed, summed-start, summed-step, summed-end}
use Rattle.block_rows.specs.Totals.{Totalled}

-- ---- laws of sums
-- quotients and remainders by 256 make the sum
sum-parts : (n : ℕ) (E : ℕ → ℕ) → sum_n n (λ k. E k / 256) * 256 + sum_n n (λ k. E k % 256) ≡ sum_n n E
unfolding sum
sum-parts zero E = omega arith
sum-parts (suc n) E = omega (arith, sum-parts n E, div-add-mod' (E n) 256)

-- two numbers of 16 bits that make the same of one more
same_rest : (h a b : ℕ) → a ≤ 65535 → b ≤ 65535 → (a + h * 256 % 65536) % 65536 ≡ (h * 256 + b) % 65536 → a ≡ b
same_rest h a b p q e =
    omega (arith, e, div-add-mod' (h * 256) 65536, div-add-mod' (h * 256 + b) 65536, div-add-mod' (a + h * 256 % 65536) 65536)

-- the first n of n + n, each with its counterpart among the others
pub sum-two : {A : Type 0} (m : Addition A) (n : ℕ) (f : ℕ → A) → sum m n (λ k. m.plus (f k) (f (n + k))) ≡ sum m (n + n) f
sum-two m n f = sum-add m n f (λ k. f (n + k)) ∙ sym (sum-append m n n f)

-- h rows of w, one after another
pub sum_rows : {A : Type 0} (m : Addition A) (w h : ℕ) (f : ℕ → A) → sum m h (λ j. sum m w (λ i. f (j * w + i))) ≡ sum m (h * w) f
unfolding sum
sum_rows {A} m w zero f = let e : 0 ≡ 0 * w = omega arith in ap (λ (n : ℕ). sum m n f) e
sum_rows {A} m w (suc h) f =
    let e : h * w + w ≡ suc h * w = omega arith in
    ap (λ (z : A). m.plus z (sum m w (λ i. f (h * w + i)))) (sum_rows m w h f) ∙ sym (sum-append m (h * w) w f) ∙ ap (λ (n : ℕ). sum m n f) e

or_swap : (a b c d : ℕ) → bit_or (bit_or a b) (bit_or c d) ≡ bit_or (bit_or a c) (bit_or b d)
or_swap a b c d =
    or_assoc a b (bit_or c d)
    ∙ ap (bit_or a) (sym (or_assoc b c d) ∙ ap (λ (x : ℕ). bit_or x d) (or_comm b c) ∙ or_assoc c b d)
    ∙ sym (or_assoc a c (bit_or b d))

-- ---- the loop: f is what a place adds, M the mark of its value, and B its sample
module _ (n : ℕ) (f M B : ℕ → ℕ) where
  abbrev pub pair : ℕ → ℕ
  pair k = f k + f (n + k)

  abbrev pub marks_of : ℕ → ℕ
  marks_of k = bit_or (bit_or (B k) (B (n + k))) (bit_or (M (n + k)) (M k))

  pub record Paired (high both any mark i : ℕ) : Type 0 where
    pub highs : Summed addition_n+ n (λ k. pair k / 256) high i
    pub wraps : both ≡ sum_n i pair % 65536
    pub marks : Summed addition_or n marks_of (bit_or any mark) i
    pub few : high ≤ i * 255

  pub paired-start : Paired 0 0 0 0 0
  unfolding sum
  paired-start = record { highs = summed-start; wraps = refl; marks = summed-start; few = omega arith }

  pub paired-step :
      {high both any mark i : ℕ} → Paired high both any mark i → i < n → (e x y : ℕ) → e ≡ f i + f (n + i) → e ≤ 65535 → x ≡ bit_or (M (n + i)) (bit_or (M i) mark) →
      y ≡ (both + e) % 65536 → Paired (high + e / 256) y (bit_or any (bit_or (B i) (B (n + i)))) x (i + 1)
  paired-step {high} {both} {any} {mark} {i} r h e x y p q s z = record {
    highs = summed-step r.highs h (ap (λ (m : ℕ). m / 256) p);
    wraps =
        z ∙ ap₂ (λ (a b : ℕ). (a + b) % 65536) r.wraps p ∙ mod-add-mod (sum_n i pair) 65536 (pair i)
        ∙ ap (λ (m : ℕ). m % 65536) (sym (sum_step addition_n+ i pair) ∙ ap (λ (m : ℕ). sum_n m pair) (sym (add-one i)));
    marks =
        let t = summed-step r.marks h refl in
        ap-summed (or_swap any mark (bit_or (B i) (B (n + i))) (bit_or (M (n + i)) (M i)) ∙ ap (bit_or (bit_or any (bit_or (B i) (B (n + i))))) last-marks) t;
    few = omega (arith, r.few, q);
  }
    where
      last-marks : bit_or mark (bit_or (M (n + i)) (M i)) ≡ x
      last-marks = or_comm mark (bit_or (M (n + i)) (M i)) ∙ or_assoc (M (n + i)) (M i) mark ∙ sym s

      ap-summed : {u v : ℕ} → u ≡ v → Summed addition_or n marks_of u (i + 1) → Summed addition_or n marks_of v (i + 1)
      ap-summed e t = record { most = t.most; is = sym e ∙ t.is }

  -- the remainders' sum is what the pairs' has more, where 16 bits hold it
  pub paired-end :
      {high both any mark i : ℕ} → Paired high both any mark i → n ≤ i → n ≤ 256 → (last : ℕ) → last ≤ 65535 → (last + high * 256 % 65536) % 65536 ≡ both →
      Totalled 16842495 (n + n) f (λ k. bit_or (M k) (B k)) (high * 256 + last) (bit_or any mark)
  paired-end {high} {both} {any} {mark} {i} r h l last b w = record {
    total = ap₂ (λ (x y : ℕ). x * 256 + y) top rest ∙ sum-parts n pair ∙ sum-two addition_n+ n f;
    marks =
        summed-end r.marks h
        ∙ sum-ext addition_or n marks_of (λ k. bit_or (bit_or (M k) (B k)) (bit_or (M (n + k)) (B (n + k)))) (λ k p. each (B k) (B (n + k)) (M k) (M (n + k)))
        ∙ sum-two addition_or n (λ k. bit_or (M k) (B k));
    most = let k = r.highs.most in let f = r.few in omega arith;
  }
    where
      each : (a b c d : ℕ) → bit_or (bit_or a b) (bit_or d c) ≡ bit_or (bit_or c a) (bit_or d b)
      each a b c d = ap (bit_or (bit_or a b)) (or_comm d c) ∙ or_swap a b c d ∙ ap₂ bit_or (or_comm a c) (or_comm b d)

      top : high ≡ sum_n n (λ k. pair k / 256)
      top = summed-end r.highs h

      rest : last ≡ sum_n n (λ k. pair k % 256)
      rest =
          let m = sum-le n 255 (λ k. pair k % 256) (λ k p. let b : pair k % 256 < 256 = mod-lt (pair k) (omega arith) in omega arith) in
          let e = ap (λ (k : ℕ). sum_n k pair % 65536) (le_antisymm r.highs.most h) in
          same_rest high last (sum_n n (λ k. pair k % 256)) b (omega arith)
          (w ∙ r.wraps ∙ e ∙ ap (λ (x : ℕ). x % 65536) (sym (ap (λ (x : ℕ). x * 256 + sum_n n (λ k. pair k % 256)) top ∙ sum-parts n pair)))
