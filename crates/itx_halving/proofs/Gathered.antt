-- Laws of a block of 16 lines gathered, row by row. Assumes nothing.
use mathlib.Core.Path.{◌≡◌, refl, sym, ap, ◌∙◌, subst}
use mathlib.Core.List.{List}
use Prim.Native.Nat.{ℕ, suc, ◌+◌, ◌*◌, ◌<◌, ◌≤◌}
use native.Mathlib.Omega.{arith}
use native.Mathlib.Nat.{suc-mul, mul-le-mul_right, not-suc-le-zero}
use native.Mathlib.Decide.{ℕ_discrete}
use lib.ListN.{length, get_or, set, length-set}
use lib.Seq.{get_or-set_same, get_or-set_other}
use lib.IntN.{ℤ, pos}
use Rattle.itx_halving.specs.Blocks.{Run, Rows, Source}

-- ---- a row, place by place
module _ {s₀ : List ℤ} {to : ℕ} {g : ℕ → ℤ} where
  pub run_none : Run s₀ s₀ to 0 g
  run_none = record { long = refl; done = λ j h. absurd (not-suc-le-zero h); before = λ i h. refl }

  pub run_more : {s : List ℤ} {k : ℕ} (v : ℤ) → Run s₀ s to k g → to + k < length s → v ≡ g k → Run s₀ (set s (to + k) v) to (k + 1) g
  run_more {s} {k} v r h e =
      record {
        long = length-set s (to + k) v ∙ r.long;
        done = λ j p. done j p (ℕ_discrete j k);
        before = λ i p. get_or-set_other s (to + k) i v (pos 0) (λ q. let z : ⊥ = omega arith in z) ∙ r.before i p;
      }
    where
      done : (j : ℕ) → j < k + 1 → Dec (j ≡ k) → get_or (set s (to + k) v) (to + j) (pos 0) ≡ g j
      done j p (yes q) = ap (λ (i : ℕ). get_or (set s (to + k) v) (to + i) (pos 0)) q ∙ get_or-set_same s (to + k) v (pos 0) h ∙ e ∙ ap g (sym q)
      done j p (no q) = get_or-set_other s (to + k) (to + j) v (pos 0) (λ z. q (omega arith)) ∙ r.done j (omega arith)

-- ---- a block, row by row
pub rows_none : {s : List ℤ} {p : ℕ} {f : ℕ → ℕ → ℤ} → length s ≡ 1024 → Rows s p 0 f
rows_none e = record { long = e; at = λ k j h r. absurd (not-suc-le-zero h) }

pub rows_more : {s s' : List ℤ} {p k : ℕ} {f : ℕ → ℕ → ℤ} → Rows s p k f → 16 ≤ p → Run s s' (k * p) 16 (f k) → Rows s' p (k + 1) f
rows_more {s} {s'} {p} {k} {f} r a t = record { long = t.long ∙ r.long; at = λ i j h q. at i j h q (ℕ_discrete i k) }
  where
    at : (i j : ℕ) → i < k + 1 → j < 16 → Dec (i ≡ k) → get_or s' (i * p + j) (pos 0) ≡ f i j
    at i j h q (yes e) = subst (λ (n : ℕ). get_or s' (n * p + j) (pos 0) ≡ f n j) (sym e) (t.done j q)
    at i j h q (no e) =
        let b : i < k = omega arith in
        t.before (i * p + j) (omega (arith, suc-mul i p, mul-le-mul_right {m = suc i} {n = k} p b)) ∙ r.at i j b q

-- ---- where a row is read and written
module _ {src s : List ℤ} {n p l j0 : ℕ} (r : Source src s n p l j0) (k : ℕ) (h : k < n) where
  pub read-room : k * l + j0 + 16 ≤ length src
  read-room = omega (arith, suc-mul k l, mul-le-mul_right {m = suc k} {n = n} l h, r.among, r.src-room)

  pub write-room : k * p + 16 ≤ 1024
  write-room = omega (arith, suc-mul k p, mul-le-mul_right {m = suc k} {n = n} p h, r.rows, r.apart)
