-- The definitions and the theorem of any order at work on a toy kind of job.
-- A toy job works on each of `many` samples from `start`, and is refused with 5 where the buffer ends before them.
use Prim.Native.Nat.{ℕ, ◌+◌, ◌*◌, ◌≤◌}
use native.Mathlib.Nat.{ℕ_set}
use mathlib.Core.Path.{◌≡◌, refl}
use mathlib.Core.Bool.{cond}
use mathlib.Core.List.Memᴰ
use mathlib.Core.List.Permᴰ
use mathlib.Core.List.Pairwise
use mathlib.Core.List.{[], ◌∷◌, map}
use lib.Dec.{ltb}
use lib.ListN.{length-map}
use borrow.Author.Tests.{ltb-false}
use native.Mathlib.Omega.{arith}
use Rattle.order.specs.Positions.{row, rows, reach, shared}
use Rattle.order.specs.Jobs.{Kind, Lawful, jobs, answers, Separate}
use Rattle.integers.proofs.Bools.{by-test}
use Rattle.order.proofs.Rows.{row-distinct, row_below}
use Rattle.order.proofs.OneJob.{apart-of-shared, separate-cons}
use Rattle.order.proofs.AnyOrder.{AnyOrder, any_order}

record Toy : Type 0 where
  start : ℕ
  many : ℕ
  work : ℕ → ℕ

abbrev toy : Kind ℕ Toy
toy = record { blank = 0; number = λ n j. cond (ltb n (j.start + j.many)) 5 0; area = λ j. row j.start j.many; block = λ j. map j.work }

toy-fits : (n : ℕ) (j : Toy) → toy.number n j ≡ 0 → j.start + j.many ≤ n
toy-fits n j e = by-test (ltb n (j.start + j.many)) (λ t. absurd (let z = rw t at e in omega arith)) (ltb-false _ _)

toy-lawful : Lawful toy
toy-lawful =
    record {
      aset = ℕ_set;
      keep = λ j l. length-map l j.work;
      fits = λ n j e. (row-distinct j.start j.many, row_below n j.start j.many (toy-fits n j e));
    }

-- a job of one sample
abbrev one : ℕ → (ℕ → ℕ) → Toy
one start work = record { start = start; many = 1; work = work }

-- two jobs that share a sample do not go in any order
add-then-double : jobs toy (one 0 (λ x. x + 1) ∷ one 0 (λ x. x * 2) ∷ []) (1 ∷ []) ≡ 4 ∷ []
add-then-double = refl

double-then-add : jobs toy (one 0 (λ x. x * 2) ∷ one 0 (λ x. x + 1) ∷ []) (1 ∷ []) ≡ 3 ∷ []
double-then-add = refl

-- the second job is past the end: it is refused, and the first is done
one-refused : (answers toy (one 0 (λ x. x + 1) ∷ record { start = 1; many = 2; work = λ x. 9 } ∷ []) (3 ∷ 5 ∷ []) ≡ 0 ∷ 5 ∷ [])
    × (jobs toy (one 0 (λ x. x + 1) ∷ record { start = 1; many = 2; work = λ x. 9 } ∷ []) (3 ∷ 5 ∷ []) ≡ 4 ∷ 5 ∷ [])
one-refused = (refl, refl)

-- two jobs that share none do
toy-separate : (f g : ℕ → ℕ) → Separate toy 2 (one 0 f ∷ one 1 g ∷ [])
toy-separate f g =
    separate-cons toy 2 (one 0 f) (one 1 g ∷ [])
    (λ k m. rw (Memᴰ.eq_of_singleton m) (apart-of-shared toy 2 (one 0 f) (one 1 g) refl))
    (separate-cons toy 2 (one 1 g) [] (λ k m. absurd (Memᴰ.not-nil m)) Pairwise.nil)

toy-order : (f g : ℕ → ℕ) → AnyOrder toy (3 ∷ 5 ∷ []) (one 0 f ∷ one 1 g ∷ []) (one 1 g ∷ one 0 f ∷ [])
toy-order f g = any_order toy-lawful (3 ∷ 5 ∷ []) (one 0 f ∷ one 1 g ∷ []) (one 1 g ∷ one 0 f ∷ []) ∣ Permᴰ.swap refl refl ∣₁ (toy-separate f g)

-- two rows of 2, a pitch of 4 apart: their positions, their reach, and what they share with four in a row
two-rows : (rows 0 2 4 2 ≡ 0 ∷ 1 ∷ 4 ∷ 5 ∷ []) × (reach 0 2 4 2 ≡ 6) × (shared (rows 0 2 4 2) (row 1 4) ≡ 1 ∷ 4 ∷ [])
two-rows = (refl, refl, refl)
