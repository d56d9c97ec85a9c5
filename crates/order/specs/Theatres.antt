-- Jobs of several theatres on one buffer: the jobs of one theatre may share samples, and keep their order among themselves.
-- A theatre is a value of any type whose equality can be decided, and th says which is a job's. Assumes nothing.
use Rattle.std.specs.Prelude.{ℕ, ◌≡◌}
use mathlib.Core.HLevel.{Discrete}
use mathlib.Core.List.{List, filter, Pairwise}
use Rattle.order.specs.Jobs.{Kind, Apart, owns}

-- a kind of job each of which carries something more, as the theatre that it comes from; job k is the job itself
abbrev pub carrying : {A J K : Type 0} → (K → J) → Kind A J → Kind A K
carrying job w = record { blank = w.blank; number = λ n k. w.number n (job k); area = λ k. w.area (job k); block = λ k. w.block (job k) }

-- the jobs of theatre t, in their order
abbrev pub only : {Θ J : Type 0} → Discrete Θ → (J → Θ) → Θ → List J → List J
only dec th t js = filter {p = λ j. th j ≡ t} (λ j. dec (th j) t) js

-- the same jobs, each theatre's own in the same order
abbrev pub SameByTheatre : {Θ J : Type 0} → Discrete Θ → (J → Θ) → List J → List J → Type 0
SameByTheatre {Θ} dec th js ks = (t : Θ) → only dec th t js ≡ only dec th t ks

-- no two accepted jobs of two different theatres share a sample
abbrev pub SeparateTheatres : {A Θ J : Type 0} → Kind A J → ℕ → (J → Θ) → List J → Type 0
SeparateTheatres w n th js = Pairwise (λ j k. (th j ≡ th k → ⊥) → Apart (owns w n) j k) js

-- each job is under a theatre of its own
abbrev pub OwnTheatres : {Θ J : Type 0} → (J → Θ) → List J → Type 0
OwnTheatres th js = Pairwise (λ j k. th j ≡ th k → ⊥) js
