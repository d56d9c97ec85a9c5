-- Laws of a list of tests: what an accepted call knows, test by test (`unbroken`), and back (`first-none`); the same of a call
-- whose code tests by an if-chain (`refused-at`, `accepted-end`); a number between two limits; laws of a call's reply.
-- Assumes nothing.
use Prim.Native.Nat.{ℕ, zero, suc, ◌≤◌}
use native.Mathlib.Omega.{arith}
use mathlib.Core.Path.{◌≡◌, refl, sym}
use mathlib.Core.Bool.{Bool, true, false, cond}
use mathlib.Core.List.{List, [], ◌∷◌}
use lib.Dec.{ltb}
use borrow.Author.Tests.{ltb-false, lt-ltb, le-ltb}
use Rattle.order.specs.Jobs.{if_accepted}
use Rattle.integers.proofs.Bools.{or-neither}
use Rattle.evc.specs.declared.Refusal.{Refusal}
use Rattle.evc.specs.declared.Refusal.TheVariants.{Size, Qp, Shift, Depth, Area, Overlap, Sample}
use Rattle.evc.specs.Answers.{number, reply_number}
use Rattle.evc.specs.Tests.{Test, first, reply, outside}

-- no test of the list is broken, test by test
abbrev pub Unbroken : List Test → Type 0
Unbroken [] = Unit {0}
Unbroken (t ∷ ts) = (t.broken ≡ false) × Unbroken ts

-- a refusal's number is never 0, by which an accepted call is told
pub number-some : (r : Refusal) → 1 ≤ number r
number-some Size = omega arith
number-some Qp = omega arith
number-some Shift = omega arith
number-some Depth = omega arith
number-some Area = omega arith
number-some Overlap = omega arith
number-some Sample = omega arith

pub unbroken : (ts : List Test) → first ts ≡ 0 → Unbroken ts
unbroken [] e = tt
unbroken (t ∷ ts) e = go t.broken refl (unbroken ts) e
  where
    go : (b : Bool) → t.broken ≡ b → (first ts ≡ 0 → Unbroken ts) → cond b (number t.refusal) (first ts) ≡ 0 → Unbroken (t ∷ ts)
    go true p ih q = absurd (omega (arith, number-some t.refusal))
    go false p ih q = (p, ih q)

pub first-none : (ts : List Test) → Unbroken ts → first ts ≡ 0
first-none [] u = refl
first-none (t ∷ ts) u = rw u.0 (first-none ts u.1)

-- ---- an if-chain of refusals: the first k tests are not broken, and the next is
abbrev pub BrokenAt : List Test → ℕ → Type 0
BrokenAt [] k = ⊥
BrokenAt (t ∷ ts) zero = t.broken ≡ true
BrokenAt (t ∷ ts) (suc k) = (t.broken ≡ false) × BrokenAt ts k

abbrev pub refusal_at : List Test → ℕ → Refusal
refusal_at [] k = Size
refusal_at (t ∷ ts) zero = t.refusal
refusal_at (t ∷ ts) (suc k) = refusal_at ts k

pub first-at : (ts : List Test) (k : ℕ) → BrokenAt ts k → number (refusal_at ts k) ≡ first ts
first-at [] k b = absurd b
first-at (t ∷ ts) zero b = rw b
first-at (t ∷ ts) (suc k) b = rw b.0 (first-at ts k b.1)

-- what a call that answers a number and works on a buffer shows at such a return, and at its end: its number, and what it leaves
unchanged : {X : Type 0} (r : Refusal) (n : ℕ) (x y : X) → number r ≡ n → y ≡ if_accepted n x y
unchanged r zero x y e = absurd (omega (arith, number-some r))
unchanged r (suc n) x y e = refl

pub refused-at : {X : Type 0} (ts : List Test) (k : ℕ) (x y : X) → BrokenAt ts k → (number (refusal_at ts k) ≡ first ts) × (y ≡ if_accepted (first ts) x y)
refused-at ts k x y b = (first-at ts k b, unchanged (refusal_at ts k) (first ts) x y (first-at ts k b))

pub accepted-end : {X : Type 0} (ts : List Test) (x y z : X) → Unbroken ts → z ≡ x → (0 ≡ first ts) × (z ≡ if_accepted (first ts) x y)
accepted-end ts x y z u p = let e = first-none ts u in (sym e, rw e p)

-- by which `search tested` proves `BrokenAt` and `Unbroken` from the facts that the branches leave
pub ruleset tested = (lt-ltb, le-ltb)

-- ---- a number between two limits
pub outside-no : (lo hi x : ℕ) → outside lo hi x ≡ false → (lo ≤ x) × (x ≤ hi)
outside-no lo hi x e = let h = or-neither (ltb x lo) (ltb hi x) e in (ltb-false x lo h.0, ltb-false hi x h.1)

pub inside-no : (lo hi x : ℕ) → lo ≤ x → x ≤ hi → outside lo hi x ≡ false
inside-no lo hi x a b = rw (le-ltb x lo a, le-ltb hi x b)

-- ---- the reply of a call with a value
pub reply-number : {A : Type 0} (n : ℕ) (v : A) → reply_number (reply n v) ≡ n
reply-number zero v = refl
reply-number (suc n) v = refl
