-- Positions of samples in a buffer: an area's, row after row; what stands there; a buffer with other samples there; what two areas share.
-- Assumes nothing.
use Rattle.std.specs.Prelude.{ℕ, zero, suc, ◌+◌, ◌-◌, ◌*◌, ◌<◌, ◌≡◌, Bool, false, cond, ◌||◌, List, [], ◌∷◌, ◌++◌, eqb, get_or, set}

-- m positions in a row, from a
abbrev pub row : ℕ → ℕ → List ℕ
row a zero = []
row a (suc m) = a ∷ row (suc a) m

-- h rows of w positions, a pitch apart, from a
abbrev pub rows : ℕ → ℕ → ℕ → ℕ → List ℕ
rows a w pitch zero = []
rows a w pitch (suc h) = row a w ++ rows (a + pitch) w pitch h

-- one past the last position of the last row: what a buffer must have to hold them
abbrev pub reach : ℕ → ℕ → ℕ → ℕ → ℕ
reach a w pitch h = a + (h - 1) * pitch + w

-- p is one of the positions
abbrev pub has : List ℕ → ℕ → Bool
has [] p = false
has (q ∷ qs) p = eqb q p || has qs p

-- the positions of ps that qs has too, in the order of ps
abbrev pub shared : List ℕ → List ℕ → List ℕ
shared [] qs = []
shared (p ∷ ps) qs = cond (has qs p) (p ∷ shared ps qs) (shared ps qs)

-- no position twice
abbrev pub Distinct : List ℕ → Type 0
Distinct [] = Unit {0}
Distinct (p ∷ ps) = (has ps p ≡ false) × Distinct ps

-- each position is below the next
abbrev pub Ascending : List ℕ → Type 0
Ascending [] = Unit {0}
Ascending (p ∷ []) = Unit {0}
Ascending (p ∷ (q ∷ ps)) = (p < q) × Ascending (q ∷ ps)

-- each position is below n
abbrev pub Below : ℕ → List ℕ → Type 0
Below n [] = Unit {0}
Below n (p ∷ ps) = (p < n) × Below n ps

-- the samples at the positions; d stands for one past the buffer's end
abbrev pub gather : {A : Type 0} → A → List A → List ℕ → List A
gather d b [] = []
gather d b (p ∷ ps) = get_or b p d ∷ gather d b ps

-- the buffer with vs at the positions
abbrev pub put : {A : Type 0} → List A → List ℕ → List A → List A
put b [] vs = b
put b (p ∷ ps) [] = b
put b (p ∷ ps) (v ∷ vs) = put (set b p v) ps vs

-- the buffer with the positions' samples replaced by what F makes of them
abbrev pub change : {A : Type 0} → A → (List A → List A) → List ℕ → List A → List A
change d F ps b = put b ps (F (gather d b ps))
