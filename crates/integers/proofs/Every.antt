-- A rule of a table, proved at all of its entries by one test that antt computes; and a test at each number below a bound.
-- First tests and what they say, then `every` over a list, then `below` a bound. Assumes nothing.
use mathlib.Core.Path.{◌≡◌, ◌∙◌, subst, sym, ap}
use mathlib.Core.Bool.{Bool, true, false}
use mathlib.Core.List.{List, [], ◌∷◌}
use Prim.Native.Nat.{ℕ, zero, suc, ◌+◌, ◌<◌}
use native.Mathlib.Nat.{add-zero, zero-add, add-suc, suc-add, le_of_suc-le-suc, not-suc-le-zero}
use native.Mathlib.Omega.{arith}
use native.Mathlib.Decide.{ℕ_discrete}
use lib.Dec.{T, eqb, eqb→eq}
use lib.ListN.{length, get_or}
use lib.IntN.{ℤ, pos, negsuc}

abbrev pub both : Bool → Bool → Bool
both true b = b
both false b = false

pub both_left : (a b : Bool) → T (both a b) → T a
both_left true b t = tt
both_left false b t = t

pub both_right : (a b : Bool) → T (both a b) → T b
both_right true b t = t
both_right false b t = absurd t

-- two whole numbers are the same, as a test
abbrev pub eq_z : ℤ → ℤ → Bool
eq_z (pos a) (pos b) = eqb a b
eq_z (pos a) (negsuc b) = false
eq_z (negsuc a) (pos b) = false
eq_z (negsuc a) (negsuc b) = eqb a b

pub eq_z→eq : (a b : ℤ) → T (eq_z a b) → a ≡ b
eq_z→eq (pos a) (pos b) t = ap pos (eqb→eq a b t)
eq_z→eq (pos a) (negsuc b) t = absurd t
eq_z→eq (negsuc a) (pos b) t = absurd t
eq_z→eq (negsuc a) (negsuc b) t = ap negsuc (eqb→eq a b t)

-- the test f passes at each entry of the list and its place, counted from i
abbrev pub every : (ℕ → ℤ → Bool) → ℕ → List ℤ → Bool
every f i [] = true
every f i (x ∷ xs) = both (f i x) (every f (suc i) xs)

from : (f : ℕ → ℤ → Bool) (xs : List ℤ) (i : ℕ) → T (every f i xs) → (k : ℕ) → k < length xs → T (f (i + k) (get_or xs k (pos 0)))
from f [] i t k h = absurd (not-suc-le-zero h)
from f (x ∷ xs) i t zero h = subst (λ (m : ℕ). T (f m x)) (sym (add-zero i)) (both_left (f i x) (every f (suc i) xs) t)
from f (x ∷ xs) i t (suc k) h =
    subst (λ (m : ℕ). T (f m (get_or xs k (pos 0)))) (suc-add i k ∙ sym (add-suc i k))
    (from f xs (suc i) (both_right (f i x) (every f (suc i) xs) t) k (le_of_suc-le-suc h))

pub at : (f : ℕ → ℤ → Bool) (xs : List ℤ) → T (every f 0 xs) → (k : ℕ) → k < length xs → T (f k (get_or xs k (pos 0)))
at f xs t k h = subst (λ (m : ℕ). T (f m (get_or xs k (pos 0)))) (zero-add k) (from f xs 0 t k h)

-- the test f passes at each number below n
abbrev pub below : (ℕ → Bool) → ℕ → Bool
below f zero = true
below f (suc n) = both (f n) (below f n)

pub below_at : (f : ℕ → Bool) (n : ℕ) → T (below f n) → (k : ℕ) → k < n → T (f k)
below_at f zero t k h = absurd (not-suc-le-zero h)
below_at f (suc n) t k h = go (λ p. below_at f n (both_right (f n) (below f n) t) k p) (ℕ_discrete k n)
  where
    go : (k < n → T (f k)) → Dec (k ≡ n) → T (f k)
    go g (yes e) = subst (λ (m : ℕ). T (f m)) (sym e) (both_left (f n) (below f n) t)
    go g (no e) = g (omega arith)
