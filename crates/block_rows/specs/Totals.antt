-- What two rows or two blocks of values add up to. Cited by the contracts of the crates that compare them. Assumes nothing.
use Rattle.std.specs.Prelude.{◌≡◌, List, ℕ, ◌≤◌, length, get_or, pos, nat_abs, ◌-ℤ◌}
use Rattle.integers.specs.Sum.{sum_n}
use Rattle.integers.specs.Or.{or_n}

-- how far two samples are apart
unfoldable pub apart : ℕ → ℕ → ℕ
apart p q = nat_abs (pos p -ℤ pos q)

-- ---- rows
-- two rows of w values
pub record TwoRows {A B : Type 0} (w : ℕ) (a : List A) (b : List B) : Type 0 where
  pub one : length a ≡ w
  pub two : length b ≡ w
  pub small : w ≤ 64

-- what f gives at w places, added, which is at most b; and what g gives there, ORed
pub record Totalled (b w : ℕ) (f g : ℕ → ℕ) (sum any : ℕ) : Type 0 where
  pub total : sum ≡ sum_n w f
  pub marks : any ≡ or_n w g
  pub most : sum ≤ b

-- the i-th value of a row
abbrev pub value_at : {A : Type 0} → A → List A → ℕ → A
value_at d l i = get_or l i d

-- the same of two rows, of which F and G say what is read at each place
abbrev pub RowsTotalled : {A B : Type 0} → ℕ → (A → B → ℕ) → (A → B → ℕ) → ℕ → (ℕ → A) → (ℕ → B) → ℕ → ℕ → Type 0
RowsTotalled b f g w F G sum any = Totalled b w (λ i. f (F i) (G i)) (λ i. g (F i) (G i)) sum any

-- ---- blocks
-- the same of two blocks, row by row: F and G say what row j, column i of each reads
abbrev pub BlocksTotalled : {A B : Type 0} → ℕ → (A → B → ℕ) → (A → B → ℕ) → ℕ → ℕ → (ℕ → ℕ → A) → (ℕ → ℕ → B) → ℕ → ℕ → Type 0
BlocksTotalled b f g w h F G sum any = Totalled b h (λ j. sum_n w (λ i. f (F j i) (G j i))) (λ j. or_n w (λ i. g (F j i) (G j i))) sum any
