-- A call's tests are a list, in the order in which they are made. Document 01, "Refusal numbers, in the order they are tested".
-- That the first broken test has the lowest number that applies is a theorem for each call: proofs/Lowest.antt. Assumes nothing.
use Rattle.std.specs.Prelude.{ℕ, zero, suc, ◌+◌, ◌^◌, ◌≤◌, ◌≡◌, ◌⊎◌, Bool, true, cond, ◌||◌, ltb}
use mathlib.Core.List.{List, [], ◌∷◌, Memᴰ}
use Rattle.evc.specs.declared.Refusal.{Refusal}
use Rattle.evc.specs.declared.Refusal.TheVariants.{Size}
use Rattle.evc.specs.Answers.{number, Reply, value, refused}

-- one test: the refusal that it gives, and whether it is broken
pub record Test : Type 0 where
  pub refusal : Refusal
  pub broken : Bool

infix 20 ◌when◌
abbrev pub ◌when◌ : Refusal → Bool → Test
r when t = record { refusal = r; broken = t }

-- the number of the first broken test; 0 where none is broken
abbrev pub first : List Test → ℕ
first [] = 0
first (t ∷ ts) = cond t.broken (number t.refusal) (first ts)

-- the refusal number n applies: some test with that number is broken
abbrev pub Applies : List Test → ℕ → Type 0
Applies ts n = (t : Test) × Memᴰ t ts × (t.broken ≡ true) × (number t.refusal ≡ n)

-- n is the lowest number that applies, and 0 where none does
abbrev pub Lowest : List Test → ℕ → Type 0
Lowest ts n = (Applies ts n × ((m : ℕ) → Applies ts m → n ≤ m)) ⊎ ((n ≡ 0) × ((m : ℕ) → Applies ts m → ⊥))

-- the answer of a call with a value: the value where no test is broken
abbrev pub reply : {A : Type 0} → ℕ → A → Reply A
reply zero v = value v
reply (suc n) v = refused (suc n)

-- x is below lo or above hi
abbrev pub outside : ℕ → ℕ → ℕ → Bool
outside lo hi x = ltb x lo || ltb hi x

-- sides that are given by logarithms, and how many samples they make
abbrev pub log_sizes : ℕ → ℕ → List Test
log_sizes logw logh = (Size when ltb 6 logw) ∷ (Size when ltb 6 logh) ∷ []

abbrev pub samples_of : ℕ → ℕ → ℕ
samples_of logw logh = 2 ^ (logw + logh)
