-- How large the sums are: the table's numbers are within 90, the inputs within 32768, so that 64 terms fit 32 bits. Assumes nothing.
use mathlib.Core.Path.{◌≡◌, sym, ◌∙◌, subst}
use mathlib.Core.List.{List}
use Prim.Native.Nat.{ℕ, zero, suc, ◌+◌, ◌*◌, ◌/◌, ◌%◌, ◌<◌, ◌≤◌}
use native.Mathlib.Omega.{arith}
use native.Mathlib.Nat.{zero-add, mul-zero, mul-add, add-mul, mul-le-mul_left, mul-le-mul_right}
use native.Mathlib.Decide.{ℕ_discrete, dec_lt}
use lib.ListN.{length, get_or}
use lib.IntN.{ℤ, pos, nat_abs}
use Rattle.integers.proofs.Bound.{Within, within-mul, within-mono}
use Rattle.integers.proofs.Sum.{within-sum}
use Rattle.itx_table.specs.Flat.{flat}
use Rattle.itx_table.proofs.Rule.{entry, tm64-within}
use Rattle.itx_halving.specs.Line.{line, dot}
use Rattle.itx_halving.proofs.Bounds.{multiple, odd-multiple}
use Rattle.itx_lanes.specs.Steps.{lane_list, flat_entry, Narrow, Picks, terms, Terms}

-- the bound on a term
abbrev pub term : ℕ
term = 2949120

pub entry-within : (k n : ℕ) → k < 64 → n < 64 → Within 90 (flat_entry k n)
entry-within k n hk hn = subst (Within 90) (sym (entry k n hk hn)) (record { bound = tm64-within k n })

-- at the place of the first row where the code reads it
pub top_within : (n : ℕ) → n < 64 → Within 90 (get_or flat n (pos 0))
top_within n h = subst (λ (i : ℕ). Within 90 (get_or flat i (pos 0))) (zero-add n) (entry-within 0 n (omega arith) h)

-- as many terms as there are rows
pub most : (q k : ℕ) → 0 < q → (k + k) * q ≤ 64 → k ≤ 32
most q k h r = omega (arith, mul-le-mul_left {m = 1} {n = q} (k + k) h)

pub stride : (m q : ℕ) → (m + m) * q ≡ 64 → 0 < q
stride m zero e = let z : ⊥ = omega (arith, mul-zero (m + m)) in absurd z
stride m (suc q) e = omega arith

-- ---- the product of size m
module _ {s : List ℤ} {q j : ℕ} (g : Narrow s q j) (h : 0 < q) where
  pub dot-within : (m n : ℕ) → m * q ≤ 64 → n < 64 → Within (m * term) (dot flat_entry q m n (line (lane_list s j)))
  unfolding dot
  dot-within m n r hn =
      within-sum m term _
      (λ k p.
      let l = multiple k m q 64 p h r in
      within-mul {m = 90} {n = 32768} {x = flat_entry (k * q) n} {y = line (lane_list s j) (k * q)} (entry-within (k * q) n l hn) (record { bound = g.small k l }))

-- ---- terms of picked inputs
module _ {t x : List ℤ} {q n : ℕ} (g : Terms t x q n) where
  -- the row of term k, as the code has it
  pub row : (k : ℕ) → k < length x → (2 * k + 1) * q < 64
  row k h = omega (arith, g.rows.rows, odd-multiple k (length x) q h g.rows.some)

  pub few : length x ≤ 32
  few = most q (length x) g.rows.some g.rows.rows

  pub terms-within : (k : ℕ) → k ≤ length x → Within 94371840 (terms x q k n)
  unfolding terms
  terms-within k r =
      within-mono (omega (arith, few))
      (within-sum k term _
      (λ i p.
      within-mul {m = 90} {n = 32768} {x = flat_entry (suc (i + i) * q) n} {y = get_or x i (pos 0)}
      (entry-within (suc (i + i) * q) n (omega (arith, g.rows.rows, odd-multiple i (length x) q (omega arith) g.rows.some)) g.column)
      (record { bound = g.small i (omega arith) })))

-- ---- the inputs that have 16 bits: those of size m and the picked ones are those of size 2m
module _ {x s : List ℤ} {q m j : ℕ} (p : Picks x s q m j) (whole : (m + m) * q ≡ 64) (g : Narrow s (q + q) j) where
  evens : (i : ℕ) → (i + i) * q < 64 → nat_abs (line (lane_list s j) ((i + i) * q)) ≤ 32768
  evens i h =
      let e : i * (q + q) ≡ (i + i) * q = mul-add i q q ∙ sym (add-mul i i q) in
      subst (λ (r : ℕ). nat_abs (line (lane_list s j) r) ≤ 32768) e (g.small i (omega (arith, e)))

  odds : (i : ℕ) → suc (i + i) * q < 64 → Dec (i < m) → nat_abs (line (lane_list s j) (suc (i + i) * q)) ≤ 32768
  odds i h (yes l) = subst (λ (z : ℤ). nat_abs z ≤ 32768) (p.at i l).is (p.at i l).small
  odds i h (no f) = let z : ⊥ = omega (arith, whole, mul-le-mul_right {m = m + m} {n = suc (i + i)} q (omega arith)) in absurd z

  pub finer : Narrow s q j
  finer = record { small = λ k h. by k h (ℕ_discrete (k % 2) 0) }
    where
      by : (k : ℕ) → k * q < 64 → Dec (k % 2 ≡ 0) → nat_abs (line (lane_list s j) (k * q)) ≤ 32768
      by k h (yes e) =
          let r : k / 2 + k / 2 ≡ k = omega arith in
          subst (λ (i : ℕ). i * q < 64 → nat_abs (line (lane_list s j) (i * q)) ≤ 32768) r (evens (k / 2)) h
      by k h (no f) =
          let r : suc (k / 2 + k / 2) ≡ k = omega arith in
          subst (λ (i : ℕ). i * q < 64 → nat_abs (line (lane_list s j) (i * q)) ≤ 32768) r (λ l. odds (k / 2) l (dec_lt (k / 2) m)) h

pub coarser : {s : List ℤ} {q j : ℕ} → Narrow s q j → Narrow s (q + q) j
coarser {s} {q} {j} g =
    record {
      small = λ k h.
          let e : (k + k) * q ≡ k * (q + q) = add-mul k k q ∙ sym (mul-add k q q) in
          subst (λ (r : ℕ). nat_abs (line (lane_list s j) r) ≤ 32768) e (g.small (k + k) (omega (arith, e)));
    }
