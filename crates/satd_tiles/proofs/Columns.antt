-- The invariant of a loop that fills a block column by column, each turn's puts written out: `Columns n F out j` says that the first j
-- columns are filled. It has its start, its turn and its end. First what a turn's puts leave. Assumes nothing.
-- ---- laws of numbers and lists
use mathlib.Core.Path.{◌≡◌, refl, sym, ap, ◌∙◌, subst}
use mathlib.Core.List.{List, []}
use Prim.Native.Nat.{ℕ, zero, suc, ◌+◌, ◌≤◌, ◌<◌}
use native.Mathlib.Nat.{not-suc-le-zero, le_refl, le_of_eq}
use native.Mathlib.Decide.{ℕ_discrete}
use native.Mathlib.Omega.{arith}
use lib.ListN.{length, get_or, set, length-set, replicate, length-replicate, get_or-replicate}
use lib.Seq.{get_or-set_same, get_or-set_other}
use Rattle.integers.specs.Lists.{tab}
use Rattle.integers.proofs.Written.{is-tab}
use Rattle.integers.proofs.Loop.{Filled, filled-start, filled-step, filled-end}
use Rattle.satd_tiles.specs.Passes.{puts}

module _ {A : Type 0} (v : ℕ → A) (j : ℕ) (out : List (List A)) where
  puts-long : (k : ℕ) → length (puts v j out k) ≡ length out
  puts-long zero = refl
  puts-long (suc k) = length-set (puts v j out k) k (set (get_or (puts v j out k) k []) j (v k)) ∙ puts-long k

  -- a row past those is as it was
  puts-past : (k b : ℕ) → k ≤ b → get_or (puts v j out k) b [] ≡ get_or out b []
  puts-past zero b p = refl
  puts-past (suc k) b p = get_or-set_other (puts v j out k) k b (set (get_or (puts v j out k) k []) j (v k)) [] over ∙ puts-past k b (omega arith)
    where
      over : b ≡ k → ⊥
      over e = omega arith

  puts-at : (k b : ℕ) → b < k → k ≤ length out → get_or (puts v j out k) b [] ≡ set (get_or out b []) j (v b)
  puts-at zero b h p = absurd (not-suc-le-zero h)
  puts-at (suc k) b h p = go (λ q. puts-at k b q (omega arith)) (ℕ_discrete b k)
    where
      go : (b < k → get_or (puts v j out k) b [] ≡ set (get_or out b []) j (v b)) → Dec (b ≡ k) → get_or (puts v j out (suc k)) b [] ≡ set (get_or out b []) j (v b)
      go f (yes e) =
          rw e
          (get_or-set_same (puts v j out k) k (set (get_or (puts v j out k) k []) j (v k)) [] (rw (puts-long k) p)
          ∙ ap (λ (x : List A). set x j (v k)) (puts-past k k (le_refl k)))
      go f (no e) = get_or-set_other (puts v j out k) k b (set (get_or (puts v j out k) k []) j (v k)) [] e ∙ f (omega arith)

pub record Columns (A : Type 0) (d : A) (n : ℕ) (F : ℕ → ℕ → A) (out : List (List A)) (j : ℕ) : Type 0 where
  pub long : length out ≡ n
  pub rows : (b : ℕ) → b < n → Filled A d n (F b) (get_or out b []) j

module _ {A : Type 0} {d : A} {n : ℕ} {F : ℕ → ℕ → A} where
  pub columns-start : (z : A) → Columns A d n F (replicate n (replicate n z)) 0
  columns-start z = record {
    long = length-replicate n (replicate n z);
    rows = λ b h. filled-start (ap length (get_or-replicate n b (replicate n z) [] h) ∙ length-replicate n z);
  }

  pub columns-turn : {out : List (List A)} {j : ℕ} (v : ℕ → A) → Columns A d n F out j → j < n → ((b : ℕ) → b < n → v b ≡ F b j) → Columns A d n F (puts v j out n) (j + 1)
  columns-turn {out} {j} v c l e = record {
    long = puts-long v j out n ∙ c.long;
    rows = λ b h. subst (λ (x : List A). Filled A d n (F b) x (j + 1)) (sym (puts-at v j out n b h (le_of_eq (sym c.long)))) (filled-step (c.rows b h) l (e b h));
  }

  pub columns-end : {out : List (List A)} {j : ℕ} → Columns A d n F out j → n ≤ j → out ≡ tab n (λ b. tab n (F b))
  columns-end {out} c h = is-tab n (λ b. tab n (F b)) out [] c.long (λ b p. filled-end (c.rows b p) h)
