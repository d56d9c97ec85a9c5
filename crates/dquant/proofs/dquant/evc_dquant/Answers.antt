-- `dquant::dquant::evc_dquant` meets its contract: each return by the tests that led there. Assumes nothing.
use borrow.Author.Tests.{ltb-false, lt-ltb, le-ltb}
use mathlib.Core.Path.{◌≡◌, refl, sym}
use mathlib.Core.Bool.{Bool, true, false, ◌||◌}
use Prim.Native.Nat.{ℕ, ◌+◌, ◌*◌, ◌^◌, ◌%◌, ◌≤◌}
use native.Mathlib.Omega.{arith}
use mathlib.Core.List.{List, [], ◌∷◌, ◌++◌, map}
use lib.Dec.{ltb}
use lib.IntN.{ℤ}
use lib.ListN.{length, take, drop}
use lib.Seq.{length-take-le}
use mir.Syntax.{w64}
use mir.Facts.{to_z-of_z}
use Rattle.integers.proofs.Bits.{one_shl}
use Rattle.order.specs.Jobs.{if_accepted}
use Rattle.integers.proofs.Bools.{or-neither}
use Rattle.evc.specs.declared.Refusal.TheVariants.{Size, Shift, Area}
use Rattle.evc.specs.Tests.{Test, ◌when◌, first, samples_of}
use Rattle.evc.specs.Dequantizer.{dquant_tests, dquant_number, dquant_exit}
use Rattle.evc.proofs.Tests.{refused-at, accepted-end}
use Rattle.dquant.proofs.dquant.evc_dquant.Goals.{Else-log2_w-log2_h, Start}
use Rattle.dquant.proofs.dquant.evc_dquant.Goals as goal

-- the call's tests
abbrev tests : Start → List Test
tests c = dquant_tests (length c.args.coef.now) c.args.log2_w c.args.log2_h c.args.shift

abbrev rest : Start → List Test
rest c = (Shift when ltb 31 c.args.shift) ∷ (Area when ltb (length c.args.coef.now) (samples_of c.args.log2_w c.args.log2_h)) ∷ []

-- both sides are tested at once: which of them is too large makes no difference
sizes : {X : Type 0} (s t : Bool) (us : List Test) (x y : X) → s || t ≡ true
    → (1 ≡ first ((Size when s) ∷ (Size when t) ∷ us)) × (y ≡ if_accepted (first ((Size when s) ∷ (Size when t) ∷ us)) x y)
sizes true t us x y e = refused-at ((Size when true) ∷ (Size when t) ∷ us) 0 x y refl
sizes false t us x y e = refused-at ((Size when false) ∷ (Size when t) ∷ us) 1 x y (refl, e)

pub returns-then-log2_w-log2_h : goal.returns-then-log2_w-log2_h
unfolding dquant_number dquant_exit
returns-then-log2_w-log2_h c = let a = c.args in
    let both = sizes (ltb 6 a.log2_w) (ltb 6 a.log2_h) (rest (goal.at.returns-then-log2_w-log2_h c).Start) _ _ c.if-log2_w-log2_h.true in record { answer = both.0; exit = both.1 }

passed : (c : Else-log2_w-log2_h) → (ltb 6 c.args.log2_w ≡ false) × (ltb 6 c.args.log2_h ≡ false)
passed c = or-neither (ltb 6 c.args.log2_w) (ltb 6 c.args.log2_h) c.if-log2_w-log2_h.false

-- the code's shift is 2 to the sum of the logarithms
sum : (c : Else-log2_w-log2_h) → c.args.log2_w + c.args.log2_h ≤ 12
sum c = omega (arith, ltb-false 6 c.args.log2_w (passed c).0, ltb-false 6 c.args.log2_h (passed c).1)

samples : (c : Else-log2_w-log2_h) → (1 * 2 ^ (c.args.log2_w + c.args.log2_h)) % 2 ^ 64 ≡ samples_of c.args.log2_w c.args.log2_h
samples c = one_shl w64 (c.args.log2_w + c.args.log2_h) (omega (arith, sum c))

pub overflow_add-n : goal.overflow_add-n
overflow_add-n c = omega (arith, sum (goal.at.overflow_add-n c).Else-log2_w-log2_h)

pub overflow_shl-n : goal.overflow_shl-n
overflow_shl-n c = omega (arith, sum (goal.at.overflow_shl-n c).Else-log2_w-log2_h)

pub returns-then-len-n : goal.returns-then-len-n
unfolding dquant_number dquant_exit
returns-then-len-n c =
    let p = passed (goal.at.returns-then-len-n c).Else-log2_w-log2_h in
    let h = rw (samples (goal.at.returns-then-len-n c).Else-log2_w-log2_h) at c.if-len-n.true in
    let both = refused-at (tests (goal.at.returns-then-len-n c).Start) 3 _ _ (p.0, (p.1, (le-ltb 31 c.args.shift (omega arith), lt-ltb _ _ h))) in record { answer = both.0; exit = both.1 }

pub slice_bounds-each-end-2 : goal.slice_bounds-each-end-2
slice_bounds-each-end-2 c = sym (length-take-le _ _ (omega arith))

-- the area's part is mapped, and the area has n samples
first-mapped : (f : ℤ → ℤ) (l e : List ℤ) (n area : ℕ) → n ≡ area → e ≡ map f (take n l) → e ++ drop n l ≡ map f (take area l) ++ drop area l
first-mapped f l e n area p q = rw (q, p)

pub returns : goal.returns
unfolding dquant_number dquant_exit
returns c =
    let p = passed (goal.at.returns c).Else-log2_w-log2_h in
    let s = c.ranges.scale in
    let o = c.ranges.offset in
    let h = rw (samples (goal.at.returns c).Else-log2_w-log2_h) at c.if-len-n.false in
    let both = accepted-end (tests (goal.at.returns c).Start) _ _ _ (p.0, (p.1, (le-ltb 31 c.args.shift (omega arith), (le-ltb _ _ h, tt))))
    (first-mapped _ _ _ _ _ (samples (goal.at.returns c).Else-log2_w-log2_h) (simp to_z-of_z at c.each.ensures)) in record { answer = both.0; exit = both.1 }
