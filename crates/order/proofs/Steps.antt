-- Jobs one after the other: what holds of the buffer and of the answers on the way, by induction over the list. `n` is the buffer's length.
use Prim.Native.Nat.{ℕ}
use mathlib.Core.Path.{◌≡◌, refl, ap, subst, ◌∙◌}
use mathlib.Core.Logic.{◌⊎◌, inl, inr, ⊎_elim}
use mathlib.Core.Bool.{Bool, true, false}
use mathlib.Core.List.Memᴰ
use mathlib.Core.List.Pairwise
use mathlib.Core.List.{List, [], ◌∷◌, map, Memᴰ}
use lib.ListN.{length, get_or}
use Rattle.order.specs.Jobs.{Kind, Lawful, after, jobs, answers, samples, owns, Apart, Separate}
use Rattle.integers.proofs.Bools.{never_true}
use Rattle.order.proofs.Positions.{gather-agree}
use Rattle.order.proofs.OneJob.{length-after, elsewhere-unchanged, accepted-done, accepted-owns}

-- a job of the list that owns p, or word that none does
pub owner : {J : Type 0} (own : J → ℕ → Bool) (js : List J) (p : ℕ)
    → ((j : J) × Memᴰ j js × (own j p ≡ true)) ⊎ ((j : J) → Memᴰ j js → own j p ≡ false)
owner own [] p = inr (λ j m. absurd (Memᴰ.not-nil m))
owner {J} own (k ∷ js) p = go (own k p) refl (owner own js p)
  where
    go : (t : Bool) → own k p ≡ t → ((j : J) × Memᴰ j js × (own j p ≡ true)) ⊎ ((j : J) → Memᴰ j js → own j p ≡ false)
        → ((j : J) × Memᴰ j (k ∷ js) × (own j p ≡ true)) ⊎ ((j : J) → Memᴰ j (k ∷ js) → own j p ≡ false)
    go true e w = inl (k, Memᴰ.head refl, e)
    go false e (inl w) = inl (w.0, Memᴰ.tail w.1, w.2)
    go false e (inr h) = inr (λ j m. ⊎_elim (λ q. ap (λ (x : J). own x p) q ∙ e) (h j) (Memᴰ.cases_cons m))

module _ {A J : Type 0} (w : Kind A J) (n : ℕ) where
  pub length-jobs : (js : List J) (b : List A) → length b ≡ n → length (jobs w js b) ≡ n
  length-jobs [] b e = e
  length-jobs (j ∷ js) b e = length-jobs js (after w j b) (length-after w b j ∙ e)

  -- a sample that no job of the list owns is unchanged
  pub jobs-outside : (js : List J) (b : List A) → length b ≡ n → (p : ℕ) → ((j : J) → Memᴰ j js → owns w n j p ≡ false)
      → get_or (jobs w js b) p w.blank ≡ get_or b p w.blank
  jobs-outside [] b e p h = refl
  jobs-outside (j ∷ js) b e p h =
      jobs-outside js (after w j b) (length-after w b j ∙ e) p (λ k m. h k (Memᴰ.tail m))
      ∙ elsewhere-unchanged w b j p (rw e (h j (Memᴰ.head refl)))

  -- jobs that are apart from an accepted job leave its samples as they are
  pub jobs-apart : (js : List J) (b : List A) → length b ≡ n → (j : J) → w.number n j ≡ 0 → ((k : J) → Memᴰ k js → Apart (owns w n) j k)
      → samples w j (jobs w js b) ≡ samples w j b
  jobs-apart js b e j z h =
      gather-agree w.blank (jobs w js b) b (w.area j)
      (λ p o. jobs-outside js b e p (λ k m. never_true _ (h k m p (accepted-owns w n j p z o))))

  pub answers-jobs : (js : List J) (b : List A) → length b ≡ n → answers w js b ≡ map (w.number n) js
  answers-jobs [] b e = refl
  answers-jobs (j ∷ js) b e = rw (answers-jobs js (after w j b) (length-after w b j ∙ e), e)

  -- of separate jobs each accepted one leaves its block's work on its first samples
  pub jobs-done : Lawful w → (js : List J) → Separate w n js → (b : List A) → length b ≡ n → (j : J) → Memᴰ j js → w.number n j ≡ 0
      → samples w j (jobs w js b) ≡ w.block j (samples w j b)
  jobs-done l [] _ b e j m z = elim m [ ]
  jobs-done l (k ∷ js) (Pairwise.cons h s) b e j (Memᴰ.head q) z =
      rw q
      (jobs-apart js (after w k b) (length-after w b k ∙ e) k (rw q at z) (λ i m. h i ∣ m ∣₁)
      ∙ accepted-done l b k (rw (q, ← e) at z))
  jobs-done l (k ∷ js) (Pairwise.cons h s) b e j (Memᴰ.tail m) z =
      jobs-done l js s (after w k b) (length-after w b k ∙ e) j m z
      ∙ ap (w.block j) (jobs-apart (k ∷ []) b e j z (λ i m' p s t. h j ∣ m ∣₁ p (subst (λ (x : J). owns w n x p ≡ true) (Memᴰ.eq_of_singleton m') t) s))
