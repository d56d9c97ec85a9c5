-- Each reading of an answer is one-to-one: no two answers of the code are read alike. Each has a left inverse, which says which answer
-- was read. Assumes nothing.
use Prim.Native.Nat.{ℕ, zero, suc}
use mathlib.Core.Path.{◌≡◌, refl, sym, ap, ◌∙◌}
use lib.ListN.{get_or}
use mathlib.Core.List.{[], ◌∷◌}
use Rattle.std.specs.Prelude.{Result, Ok, Err}
use Rattle.evc.specs.declared.Component.{Component}
use Rattle.evc.specs.declared.Component.TheVariants.{Y, U, «V»}
use Rattle.evc.specs.declared.Refusal.{Refusal}
use Rattle.evc.specs.declared.Refusal.TheVariants.{Size, Qp, Shift, Depth, Area, Overlap, Sample}
use Rattle.evc.specs.declared.SubRefusal.{SubRefusal}
use Rattle.evc.specs.Answers.{number, component_number, answer_number, Reply, value, refused, reading, SubReply, accepted, refused_at, sub_reading}

-- what has a left inverse is one-to-one
one-to-one : {A B : Type 0} (f : A → B) (g : B → A) → ((a : A) → g (f a) ≡ a) → (x y : A) → f x ≡ f y → x ≡ y
one-to-one f g h x y e = sym (h x) ∙ ap g e ∙ h y

refusal : ℕ → Refusal
refusal n = get_or (Size ∷ Size ∷ Qp ∷ Shift ∷ Depth ∷ Area ∷ Overlap ∷ Sample ∷ []) n Size

refusal-number : (r : Refusal) → refusal (number r) ≡ r
unfolding refusal
refusal-number Size = refl
refusal-number Qp = refl
refusal-number Shift = refl
refusal-number Depth = refl
refusal-number Area = refl
refusal-number Overlap = refl
refusal-number Sample = refl

pub number-one : (r s : Refusal) → number r ≡ number s → r ≡ s
number-one = one-to-one number refusal refusal-number

component : ℕ → Component
component n = get_or (Y ∷ U ∷ «V» ∷ []) n Y

component-number : (c : Component) → component (component_number c) ≡ c
unfolding component
component-number Y = refl
component-number U = refl
component-number «V» = refl

pub component-one : (c d : Component) → component_number c ≡ component_number d → c ≡ d
component-one = one-to-one component_number component component-number

-- ---- an answer by its number: one for 0, and one for each refusal
by_number : ℕ → Result (Unit {0}) Refusal
by_number zero = Ok tt
by_number (suc n) = Err (refusal (suc n))

refusal-read : (r : Refusal) → by_number (number r) ≡ Err r
unfolding by_number refusal
refusal-read Size = refl
refusal-read Qp = refl
refusal-read Shift = refl
refusal-read Depth = refl
refusal-read Area = refl
refusal-read Overlap = refl
refusal-read Sample = refl

answer-read : (a : Result (Unit {0}) Refusal) → by_number (answer_number a) ≡ a
unfolding by_number
answer-read (Ok done) = refl
answer-read (Err r) = refusal-read r

pub answer-one : (a b : Result (Unit {0}) Refusal) → answer_number a ≡ answer_number b → a ≡ b
answer-one = one-to-one answer_number by_number answer-read

-- ---- an answer by its value or its number
result_of : {A : Type 0} → Reply A → Result A Refusal
result_of (value v) = Ok v
result_of (refused n) = Err (refusal n)

result-read : {A : Type 0} (r : Result A Refusal) → result_of (reading r) ≡ r
unfolding result_of
result-read (Ok v) = refl
result-read (Err r) = ap Err (refusal-number r)

pub reading-one : {A : Type 0} (a b : Result A Refusal) → reading a ≡ reading b → a ≡ b
reading-one = one-to-one reading result_of result-read

-- ---- a sub-block's answer by its component and its number
by-component : SubReply → Result (Unit {0}) SubRefusal
by-component accepted = Ok tt
by-component (refused_at c n) = Err (record { component = c; refusal = refusal n })

sub_read : (a : Result (Unit {0}) SubRefusal) → by-component (sub_reading a) ≡ a
unfolding by-component
sub_read (Ok done) = refl
sub_read (Err e) = ap (λ r. Err (record { component = e.component; refusal = r })) (refusal-number e.refusal)

pub sub-one : (a b : Result (Unit {0}) SubRefusal) → sub_reading a ≡ sub_reading b → a ≡ b
sub-one = one-to-one sub_reading by-component sub_read
