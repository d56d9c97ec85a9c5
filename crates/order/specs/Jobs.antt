-- Jobs on one buffer, of any kind, done one after the other: what each answers and what the buffer holds at the end.
-- Assumes nothing.
use Rattle.std.specs.Prelude.{ℕ, zero, suc, ◌≡◌, Bool, true, false, ◌&&◌, length, get_or}
use mathlib.Core.List.{List, [], ◌∷◌, Memᴰ, Pairwise}
use Rattle.order.specs.Positions.{has, gather, change, Distinct, Below}

-- a kind of job, on samples A: what stands past a buffer's end; a job's answer on a buffer of n samples, 0 where it is accepted; the
-- positions of its area, row after row; and what it makes of their contents
pub record Kind (A J : Type 0) : Type 0 where
  pub blank : A
  pub number : ℕ → J → ℕ
  pub area : J → List ℕ
  pub block : J → List A → List A

-- what is asked of a kind: a block keeps its length, and an accepted job's positions are distinct and inside the buffer
pub record Lawful {A J : Type 0} (w : Kind A J) : Type 0 where
  pub aset : IsSet A
  pub keep : (j : J) (l : List A) → length (w.block j l) ≡ length l
  pub fits : (n : ℕ) (j : J) → w.number n j ≡ 0 → Distinct (w.area j) × Below n (w.area j)

-- x where the number is 0, for accepted; else y
abbrev pub if_accepted : {X : Type 0} → ℕ → X → X → X
if_accepted zero x y = x
if_accepted (suc n) x y = y

-- the buffer after one job: an accepted job's area becomes what its block makes of it; a refused job changes nothing
abbrev pub after : {A J : Type 0} → Kind A J → J → List A → List A
after w j b = if_accepted (w.number (length b) j) (change w.blank (w.block j) (w.area j) b) b

-- the buffer after the jobs, done one after the other
abbrev pub jobs : {A J : Type 0} → Kind A J → List J → List A → List A
jobs w [] b = b
jobs w (j ∷ js) b = jobs w js (after w j b)

-- what each answers, at the moment when it is done
abbrev pub answers : {A J : Type 0} → Kind A J → List J → List A → List ℕ
answers w [] b = []
answers w (j ∷ js) b = w.number (length b) j ∷ answers w js (after w j b)

-- the contents of a job's area
abbrev pub samples : {A J : Type 0} → Kind A J → J → List A → List A
samples w j b = gather w.blank b (w.area j)

-- on a buffer of n samples the job is accepted, and p is a position of its area
abbrev pub owns : {A J : Type 0} → Kind A J → ℕ → J → ℕ → Bool
owns w n j p = if_accepted (w.number n j) true false && has (w.area j) p

-- no position is owned by both
abbrev pub Apart : {J : Type 0} → (J → ℕ → Bool) → J → J → Type 0
Apart own j k = (p : ℕ) → own j p ≡ true → own k p ≡ true → ⊥

-- no two accepted jobs of the list share a sample
abbrev pub Separate : {A J : Type 0} → Kind A J → ℕ → List J → Type 0
Separate w n js = Pairwise (Apart (owns w n)) js

-- c is how the buffer b ends when the jobs js are done on it
pub record Ended {A J : Type 0} (w : Kind A J) (b : List A) (js : List J) (c : List A) : Type 0 where
  pub long : length c ≡ length b
  -- each accepted job's area holds its block's work on the area's FIRST contents
  pub done : (j : J) → Memᴰ j js → w.number (length b) j ≡ 0 → samples w j c ≡ w.block j (samples w j b)
  -- every sample of no accepted job is unchanged
  pub rest : (p : ℕ) → ((j : J) → Memᴰ j js → owns w (length b) j p ≡ false) → get_or c p w.blank ≡ get_or b p w.blank
