-- Two invariants that close a loop with no more words: `Filled`, after k turns the first k entries are F 0 .. F (k-1), and `Summed`, after
-- k turns s is f 0 + .. + f (k-1), in any addition. Each has its start, step and end. Assumes nothing.
use mathlib.Core.Path.{◌≡◌, sym, ap, ap₂, ◌∙◌, subst}
use mathlib.Core.List.{List}
use Prim.Native.Nat.{ℕ, ◌+◌, ◌*◌, ◌≤◌, ◌<◌}
use native.Mathlib.Nat.{le_antisymm, le_trans, mul-le-mul_right, le_of_eq, not-suc-le-zero}
use native.Mathlib.Decide.{ℕ_discrete}
use native.Mathlib.Numerals.{add-one}
use native.Mathlib.Omega.{arith}
use lib.ListN.{length, get_or, set, length-set}
use lib.Seq.{get_or-set_same, get_or-set_other}
use Rattle.integers.specs.Lists.{tab}
use Rattle.integers.specs.Sum.{Addition, addition_n+, sum}
use Rattle.integers.proofs.Sum.{sum-none, sum_step, sum-le}
use Rattle.integers.proofs.Written.{is-tab}

-- ---- out[k] = F k, for each k below n
pub record Filled (A : Type 0) (d : A) (n : ℕ) (F : ℕ → A) (out : List A) (k : ℕ) : Type 0 where
  pub long : length out ≡ n
  pub most : k ≤ n
  pub done : (i : ℕ) → i < k → get_or out i d ≡ F i

module _ {A : Type 0} {d : A} {n : ℕ} {F : ℕ → A} {out : List A} where
  pub filled-start : length out ≡ n → Filled A d n F out 0
  filled-start e = record { long = e; most = omega arith; done = λ i h. absurd (not-suc-le-zero h) }

  pub filled-step : {k : ℕ} {v : A} → Filled A d n F out k → k < n → v ≡ F k → Filled A d n F (set out k v) (k + 1)
  filled-step {k} {v} f h e = record {
    long = length-set out k v ∙ f.long;
    most = omega arith;
    done = λ i p. go i p (ℕ_discrete i k);
  }
    where
      go : (i : ℕ) → i < k + 1 → Dec (i ≡ k) → get_or (set out k v) i d ≡ F i
      go i p (yes q) =
          ap (λ (x : ℕ). get_or (set out k v) x d) q
          ∙ get_or-set_same out k v d (subst (λ (m : ℕ). k < m) (sym f.long) h) ∙ e ∙ ap F (sym q)
      go i p (no q) = get_or-set_other out k i v d q ∙ f.done i (omega arith)

  pub filled-end : {k : ℕ} → Filled A d n F out k → n ≤ k → out ≡ tab n F
  filled-end f h = is-tab n F out d f.long (λ i p. f.done i (le_trans p h))

-- ---- s += f k, for each k below n
pub record Summed {A : Type 0} (m : Addition A) (n : ℕ) (f : ℕ → A) (s : A) (k : ℕ) : Type 0 where
  pub most : k ≤ n
  pub is : s ≡ sum m k f

module _ {A : Type 0} {m : Addition A} {n : ℕ} {f : ℕ → A} where
  pub summed-start : Summed m n f m.none 0
  summed-start = record { most = omega arith; is = sym (sum-none m f) }

  pub summed-step : {s v : A} {k : ℕ} → Summed m n f s k → k < n → v ≡ f k → Summed m n f (m.plus s v) (k + 1)
  summed-step {s} {v} {k} h p e =
      record { most = omega arith; is = rw (add-one k) (ap₂ m.plus h.is e ∙ sym (sum_step m k f)) }

  pub summed-end : {s : A} {k : ℕ} → Summed m n f s k → n ≤ k → s ≡ sum m n f
  summed-end {s} {k} h p = h.is ∙ ap (λ (x : ℕ). sum m x f) (le_antisymm h.most p)

-- of ℕ: with one summand more it is still at most n times a bound on the summands, so that it does not wrap
pub summed-next : {n s k v : ℕ} {f : ℕ → ℕ} (b : ℕ) → Summed addition_n+ n f s k → k < n → v ≡ f k → ((i : ℕ) → i < n → f i ≤ b) → s + v ≤ n * b
summed-next {n} {s} {k} {v} {f} b h p e q =
    let t = summed-step h p e in
    le_trans (le_of_eq t.is) (le_trans (sum-le (k + 1) b f (λ i r. q i (le_trans r t.most))) (mul-le-mul_right b t.most))
