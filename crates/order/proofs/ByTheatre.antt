-- Jobs of several theatres. Where no two accepted jobs of different theatres share a sample, any rearrangement that keeps each theatre's own order
-- leaves the same buffer, each job answers as it does alone, and each theatre's samples end as if it had been the only one.
-- With each job under a theatre of its own that is the statement for any order.
-- The way: on the samples of one theatre, all the jobs do what that theatre's jobs do alone; samples of no theatre are unchanged.
use Prim.Native.Nat.{ℕ}
use mathlib.Core.Path.{◌≡◌, refl, sym, ap, subst, ◌∙◌}
use mathlib.Core.HLevel.{Discrete, Π_prop, ⊥_prop}
use mathlib.Core.Logic.{⊎_elim, ∥∥₁_elim, ite}
use mathlib.Core.Bool.{Bool-set, true, false}
use mathlib.Core.List.{List, [], ◌∷◌, map, Mem, Memᴰ, is_set, mem-filter}
use mathlib.Core.List.Permᴰ
use mathlib.Core.List.Pairwise
use mathlib.Core.List.{Perm, Permᴰ, Pairwise}
use lib.ListN.{length, get_or}
use lib.Seq.{ext_get_or}
use Rattle.order.specs.Jobs.{Kind, Lawful, after, jobs, answers, samples, owns, Apart, Separate, Ended}
use Rattle.order.specs.Theatres.{carrying, only, SameByTheatre, SeparateTheatres, OwnTheatres}
use Rattle.integers.proofs.Bools.{never_true}
use Rattle.order.proofs.Positions.{gather-agree}
use Rattle.order.proofs.OneJob.{accepted-owns, length-after, elsewhere-unchanged, after-agree, apart-prop, apart-sym}
use Rattle.order.proofs.Steps.{owner, length-jobs, jobs-outside}
use Rattle.order.proofs.AnyOrder.{AnyOrder, answers-alone, separate-ended}

module _ {A Θ J : Type 0} {w : Kind A J} (l : Lawful w) (dec : Discrete Θ) (th : J → Θ) where
  -- a job is in a list where it is among its theatre's jobs of the list
  same-member : (js ks : List J) (k : J) → only dec th (th k) js ≡ only dec th (th k) ks → Mem k ks → Mem k js
  same-member js ks k e m =
      ((mem-filter (λ j. dec (th j) (th k))).0 (subst (Mem k) (sym e) ((mem-filter (λ j. dec (th j) (th k))).1 (m, refl)))).0

  -- any two members of different theatres are apart
  members-apart : (n : ℕ) (js : List J) → Pairwise (λ j k. (th j ≡ th k → ⊥) → Apart (owns w n) j k) js
      → (j : J) → Mem j js → (k : J) → Mem k js → (th j ≡ th k → ⊥) → Apart (owns w n) j k
  members-apart n js s =
      Pairwise.forall_of_forall_of_flip (λ j k. Π_prop (λ ne. apart-prop w n j k)) (λ j m ne. absurd (ne refl)) s
      (Pairwise.imp (λ j k a ne. apart-sym w n j k (a (λ e. ne (sym e)))) s)

  -- on the positions W, which hold all that the jobs of theatre t own and nothing that another owns, the jobs do what those of t do alone
  jobs-only : (n : ℕ) (t : Θ) (W : ℕ → Type 0) (js : List J)
      → ((j : J) → Memᴰ j js → th j ≡ t → (p : ℕ) → owns w n j p ≡ true → W p)
      → ((j : J) → Memᴰ j js → (th j ≡ t → ⊥) → (p : ℕ) → W p → owns w n j p ≡ false)
      → (b c : List A) → length b ≡ n → length c ≡ n → ((p : ℕ) → W p → get_or b p w.blank ≡ get_or c p w.blank)
      → (p : ℕ) → W p → get_or (jobs w js b) p w.blank ≡ get_or (jobs w (only dec th t js) c) p w.blank
  jobs-only n t W [] hi ho b c e f h p v = h p v
  jobs-only n t W (j ∷ js) hi ho b c e f h p v =
      go (dec (th j) t)
      (λ c f h. jobs-only n t W js (λ k m. hi k (Memᴰ.tail m)) (λ k m. ho k (Memᴰ.tail m)) (after w j b) c (length-after w b j ∙ e) f h p v)
    where
      go : (x : Dec (th j ≡ t))
          → ((c : List A) → length c ≡ n → ((q : ℕ) → W q → get_or (after w j b) q w.blank ≡ get_or c q w.blank)
          → get_or (jobs w js (after w j b)) p w.blank ≡ get_or (jobs w (only dec th t js) c) p w.blank)
          → get_or (jobs w js (after w j b)) p w.blank ≡ get_or (jobs w (ite x (j ∷ only dec th t js) (only dec th t js)) c) p w.blank
      go (yes q) rest =
          rest (after w j c) (length-after w c j ∙ f) (after-agree l W b c j (e ∙ sym f) (rw e (hi j (Memᴰ.head refl) q)) h)
      go (no q) rest =
          rest c f (λ r v. elsewhere-unchanged w b j r (rw e (ho j (Memᴰ.head refl) q r v)) ∙ h r v)

  -- jobs of a list leave on the samples of a theatre what that theatre's jobs among them leave alone
  alone : (b : List A) (js : List J) → SeparateTheatres w (length b) th js → (ks : List J) → ((k : J) → Mem k ks → Mem k js)
      → (j : J) → Mem j js → (p : ℕ) → owns w (length b) j p ≡ true → get_or (jobs w ks b) p w.blank ≡ get_or (jobs w (only dec th (th j) ks) b) p w.blank
  alone b js sep ks sub j m p o =
      jobs-only (length b) (th j) (λ p. (k : J) × Mem k js × (th k ≡ th j) × (owns w (length b) k p ≡ true)) ks
      (λ k m q p o. (k, sub k ∣ m ∣₁, q, o))
      (λ k m ne p v. never_true _ (λ o. members-apart (length b) js sep k (sub k ∣ m ∣₁) v.0 v.1 (λ q. ne (q ∙ v.2)) p o v.3))
      b b refl refl (λ p _. refl) p (j, m, refl, o)

  -- each accepted job's samples end as if its theatre's jobs had been the only ones
  pub theatre-alone : (b : List A) (js : List J) → SeparateTheatres w (length b) th js → (j : J) → Mem j js → w.number (length b) j ≡ 0
      → samples w j (jobs w js b) ≡ samples w j (jobs w (only dec th (th j) js) b)
  theatre-alone b js sep j m z =
      gather-agree w.blank (jobs w js b) (jobs w (only dec th (th j) js) b) (w.area j)
      (λ p h. alone b js sep js (λ k m. m) j m p (accepted-owns w (length b) j p z h))

  -- a rearrangement that keeps each theatre's own order leaves the same buffer, and each job answers as it does alone
  pub by-theatre : (b : List A) (js ks : List J) → SameByTheatre dec th js ks → SeparateTheatres w (length b) th js
      → (jobs w ks b ≡ jobs w js b) × (answers w ks b ≡ map (w.number (length b)) ks)
  by-theatre b js ks same sep = (
    ext_get_or w.blank (jobs w ks b) (jobs w js b) (length-jobs w n ks b refl ∙ sym (length-jobs w n js b refl)) (λ p _.
        ⊎_elim
        (λ o. owned o.0 ∣ o.1 ∣₁ p o.2)
        (λ h. jobs-outside w n ks b refl p (λ k m. ∥∥₁_elim (from k ∣ m ∣₁) (Bool-set _ _) (h k)) ∙ sym (jobs-outside w n js b refl p h))
        (owner (owns w n) js p)),
    answers-alone w b ks,
  )
    where
      n : ℕ
      n = length b

      from : (k : J) → Mem k ks → Mem k js
      from k = same-member js ks k (same (th k))

      owned : (j : J) → Mem j js → (p : ℕ) → owns w n j p ≡ true → get_or (jobs w ks b) p w.blank ≡ get_or (jobs w js b) p w.blank
      owned j m p o =
          alone b js sep ks from j m p o
          ∙ ap (λ x. get_or (jobs w x b) p w.blank) (sym (same (th j)))
          ∙ sym (alone b js sep js (λ k m. m) j m p o)

-- ---- jobs that carry their theatre do what the jobs themselves do
module _ {A J K : Type 0} (job : K → J) (w : Kind A J) where
  pub carrying-lawful : Lawful w → Lawful (carrying job w)
  carrying-lawful l = record { aset = l.aset; keep = λ k. l.keep (job k); fits = λ n k. l.fits n (job k) }

  pub carrying-jobs : (ks : List K) (b : List A) → jobs (carrying job w) ks b ≡ jobs w (map job ks) b
  carrying-jobs [] b = refl
  carrying-jobs (k ∷ ks) b = carrying-jobs ks (after w (job k) b)

  pub carrying-answers : (ks : List K) (b : List A) → answers (carrying job w) ks b ≡ answers w (map job ks) b
  carrying-answers [] b = refl
  carrying-answers (k ∷ ks) b = ap (λ l. w.number (length b) (job k) ∷ l) (carrying-answers ks (after w (job k) b))

-- ---- each job under a theatre of its own
module _ {Θ J : Type 0} (dec : Discrete Θ) (th : J → Θ) where
  -- one job more of the list is kept, where it is of theatre t
  abbrev more : Θ → J → List J → List J
  more t j js = ite (dec (th j) t) (j ∷ js) js

  more-swap : (t : Θ) (j k : J) (js : List J) → (th j ≡ th k → ⊥) → more t j (more t k js) ≡ more t k (more t j js)
  more-swap t j k js ne = go (dec (th j) t) (dec (th k) t)
    where
      go : (x : Dec (th j ≡ t)) (y : Dec (th k ≡ t)) → ite x (j ∷ ite y (k ∷ js) js) (ite y (k ∷ js) js) ≡ ite y (k ∷ ite x (j ∷ js) js) (ite x (j ∷ js) js)
      go (yes e) (yes f) = absurd (ne (e ∙ sym f))
      go (yes e) (no f) = refl
      go (no e) (yes f) = refl
      go (no e) (no f) = refl

  -- then any rearrangement keeps each theatre's own order
  own-theatres-sameᴰ : {js ks : List J} → Permᴰ js ks → OwnTheatres th js → SameByTheatre dec th js ks
  own-theatres-sameᴰ Permᴰ.nil h t = refl
  own-theatres-sameᴰ (Permᴰ.cons {a = x} {l₂ = ks} q s) (Pairwise.cons h o) t =
      ap (more t x) (own-theatres-sameᴰ s o t) ∙ ap (λ z. more t z (only dec th t ks)) q
  own-theatres-sameᴰ (Permᴰ.swap {a = x} {b = y} {b' = z} {l = l} q r) (Pairwise.cons h o) t =
      more-swap t x y (only dec th t l) (h y ∣ Memᴰ.head refl ∣₁)
      ∙ ap (λ v. more t y (more t v (only dec th t l))) q
      ∙ ap (λ v. more t v (more t z (only dec th t l))) r
  own-theatres-sameᴰ (Permᴰ.trans s₁ s₂) h t =
      own-theatres-sameᴰ s₁ h t ∙ own-theatres-sameᴰ s₂ (Permᴰ.pairwise (λ j k. Π_prop (λ e. ⊥_prop)) (λ j k n e. n (sym e)) s₁ h) t

  pub own-theatres-same : IsSet J → (js ks : List J) → Perm js ks → OwnTheatres th js → SameByTheatre dec th js ks
  own-theatres-same set js ks s o t = ∥∥₁_elim s (is_set set _ _) (λ d. own-theatres-sameᴰ d o t)

-- and separate jobs are separate by theatre
pub separate-theatres : {A Θ J : Type 0} (w : Kind A J) (n : ℕ) (th : J → Θ) (js : List J) → Separate w n js → SeparateTheatres w n th js
separate-theatres w n th js s = Pairwise.imp (λ j k a ne. a) s

-- so the statement for any order follows
pub any-order-again : {A Θ J : Type 0} {w : Kind A J} → Lawful w → Discrete Θ → (th : J → Θ) (b : List A) (js ks : List J)
    → OwnTheatres th js → Perm js ks → Separate w (length b) js → AnyOrder w b js ks
any-order-again {w} l dec th b js ks own s sep =
    record { buffer = same; ended = subst (Ended w b js) (sym same) (separate-ended l b js sep); answer = answers-alone w b ks }
  where
    same : jobs w ks b ≡ jobs w js b
    same = ∥∥₁_elim s (is_set l.aset _ _) (λ d. (by-theatre l dec th b js ks (own-theatres-sameᴰ dec th d own) (separate-theatres w (length b) th js sep)).0)
