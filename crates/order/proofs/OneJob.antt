-- One job of a lawful kind: what it leaves in its area, what it leaves elsewhere, and what it goes by.
-- Then laws of `owns`, of `Apart` and of `Separate`, by which a list of jobs is shown to be separate.
use Prim.Native.Nat.{ℕ, zero, suc}
use mathlib.Core.Path.{◌≡◌, refl, sym, ap, ◌∙◌}
use mathlib.Core.HLevel.{Π_prop, ⊥_prop}
use mathlib.Core.Logic.{∥∥₁_elim}
use mathlib.Core.Bool.{true, false, false≢true}
use mathlib.Core.List.Pairwise
use mathlib.Core.List.{List, [], ◌∷◌, Memᴰ}
use native.Mathlib.Omega.{arith}
use lib.ListN.{length, get_or}
use Rattle.order.specs.Positions.{has, shared}
use Rattle.order.specs.Jobs.{Kind, Lawful, if_accepted, after, samples, owns, Apart, Separate}
use Rattle.integers.proofs.Bools.{by-test, and_both}
use Rattle.order.proofs.Positions.{length-gather, length-put, gather-agree, gather-at, gather-put, put-outside, shared-none}

by_answer : {C : Type 0} (m : ℕ) → (m ≡ 0 → C) → ((m ≡ 0 → ⊥) → C) → C
by_answer zero f g = f refl
by_answer (suc m) f g = g (λ e. omega arith)

if-refused : {X : Type 0} (m : ℕ) (x y : X) → (m ≡ 0 → ⊥) → if_accepted m x y ≡ y
if-refused zero x y h = absurd (h refl)
if-refused (suc m) x y h = refl

-- ---- what a job leaves
module _ {A J : Type 0} (w : Kind A J) where
  -- a refused job changes nothing
  pub refused-unchanged : (b : List A) (j : J) → (w.number (length b) j ≡ 0 → ⊥) → after w j b ≡ b
  refused-unchanged b j h = if-refused (w.number (length b) j) _ b h

  pub length-after : (b : List A) (j : J) → length (after w j b) ≡ length b
  length-after b j =
      by_answer (w.number (length b) j)
      (λ z. rw z (length-put b (w.area j) (w.block j (samples w j b))))
      (λ z. ap length (refused-unchanged b j z))

  -- a sample that the job does not own is unchanged
  pub elsewhere-unchanged : (b : List A) (j : J) (p : ℕ) → owns w (length b) j p ≡ false → get_or (after w j b) p w.blank ≡ get_or b p w.blank
  elsewhere-unchanged b j p h =
      by_answer (w.number (length b) j)
      (λ z. rw z (put-outside w.blank b (w.area j) (w.block j (samples w j b)) p (rw z at h)))
      (λ z. ap (λ x. get_or x p w.blank) (refused-unchanged b j z))

module _ {A J : Type 0} {w : Kind A J} (l : Lawful w) where
  -- an accepted job's area holds its block's work on what stood there
  pub accepted-done : (b : List A) (j : J) → w.number (length b) j ≡ 0 → samples w j (after w j b) ≡ w.block j (samples w j b)
  accepted-done b j z =
      let f = l.fits (length b) j z in
      rw z (gather-put w.blank b (w.area j) (w.block j (samples w j b)) f.0 f.1 (l.keep j (samples w j b) ∙ length-gather w.blank b (w.area j)))

  -- what lies outside a job's area does not matter: on buffers of one length that hold the same in the area, it answers the same and leaves the same there
  pub outside-does-not-matter : (b c : List A) (j : J) → length b ≡ length c → samples w j b ≡ samples w j c
      → (w.number (length b) j ≡ w.number (length c) j) × (samples w j (after w j b) ≡ samples w j (after w j c))
  outside-does-not-matter b c j e h = (
    same,
    by_answer (w.number (length b) j)
        (λ z. accepted-done b j z ∙ ap (w.block j) h ∙ sym (accepted-done c j (sym same ∙ z)))
        (λ z. ap (samples w j) (refused-unchanged w b j z) ∙ h ∙ sym (ap (samples w j) (refused-unchanged w c j (λ y. z (same ∙ y))))),
  )
    where
      same : w.number (length b) j ≡ w.number (length c) j
      same = ap (λ n. w.number n j) e

-- ---- what a job owns, and jobs apart
module _ {A J : Type 0} (w : Kind A J) (n : ℕ) where
  pub accepted-owns : (j : J) (p : ℕ) → w.number n j ≡ 0 → has (w.area j) p ≡ true → owns w n j p ≡ true
  accepted-owns j p z h = rw (z, h)

  pub owns-accepted : (j : J) (p : ℕ) → owns w n j p ≡ true → (w.number n j ≡ 0) × (has (w.area j) p ≡ true)
  owns-accepted j p h =
      let o = and_both _ _ h in
      (by_answer (w.number n j) (λ z. z) (λ z. absurd (false≢true (sym (if-refused (w.number n j) true false z) ∙ o.0))), o.1)

  -- jobs whose areas share nothing are apart; accepted jobs, only those
  pub apart-of-shared : (j k : J) → shared (w.area j) (w.area k) ≡ [] → Apart (owns w n) j k
  apart-of-shared j k e p h g = (shared-none (w.area j) (w.area k)).0 e p (owns-accepted j p h).1 (owns-accepted k p g).1

  pub shared-of-apart : (j k : J) → w.number n j ≡ 0 → w.number n k ≡ 0 → Apart (owns w n) j k → shared (w.area j) (w.area k) ≡ []
  shared-of-apart j k z y a = (shared-none (w.area j) (w.area k)).1 (λ p h g. a p (accepted-owns j p z h) (accepted-owns k p y g))

  pub apart-prop : (j k : J) → IsProp (Apart (owns w n) j k)
  apart-prop j k = Π_prop (λ p. Π_prop (λ s. Π_prop (λ t. ⊥_prop)))

  pub apart-sym : (j k : J) → Apart (owns w n) j k → Apart (owns w n) k j
  apart-sym j k a p s t = a p t s

  pub separate-cons : (j : J) (js : List J) → ((k : J) → Memᴰ k js → Apart (owns w n) j k) → Separate w n js → Separate w n (j ∷ js)
  separate-cons j js h s = Pairwise.cons (λ k m. ∥∥₁_elim m (apart-prop j k) (h k)) s

-- two buffers that agree on the positions W, among them all that the job owns, agree there after the job too
pub after-agree : {A J : Type 0} {w : Kind A J} → Lawful w → (W : ℕ → Type 0) (b c : List A) (j : J) → length b ≡ length c
    → ((p : ℕ) → owns w (length b) j p ≡ true → W p) → ((p : ℕ) → W p → get_or b p w.blank ≡ get_or c p w.blank)
    → (p : ℕ) → W p → get_or (after w j b) p w.blank ≡ get_or (after w j c) p w.blank
after-agree {w} l W b c j e own h p v =
    by-test (owns w (length b) j p)
    (λ o. let a = owns-accepted w (length b) j p o in
    gather-at w.blank (after w j b) (after w j c) (w.area j)
    (outside-does-not-matter l b c j e (gather-agree w.blank b c (w.area j) (λ q s. h q (own q (accepted-owns w (length b) j q a.0 s))))).1
    p a.1)
    (λ o. elsewhere-unchanged w b j p o ∙ h p v ∙ sym (elsewhere-unchanged w c j p (rw e at o)))
