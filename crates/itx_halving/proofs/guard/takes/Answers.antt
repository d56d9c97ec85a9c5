-- `itx_halving::guard::takes` meets its contract: each return by the tests that led there. Assumes nothing.
use borrow.Author.Tests.{ltb-false}
use mathlib.Core.Path.{◌≡◌, refl, ap, ◌∙◌}
use mathlib.Core.Bool.{◌||◌}
use Prim.Native.Nat.{ℕ}
use lib.Dec.{ltb, eqb}
use Rattle.std.specs.Prelude.{Result, Ok, Err, is_ok}
use Rattle.integers.proofs.Bools.{or-neither}
use Rattle.evc.specs.declared.Refusal.{Refusal}
use Rattle.evc.specs.declared.Refusal.TheVariants.{Size, Qp, Shift, Depth, Area, Overlap, Sample}
use Rattle.evc.specs.Answers.{answer_number}
use Rattle.itx_halving.proofs.Taken.{elsewhere, within}
use Rattle.itx_halving.proofs.guard.takes.Goals as goal

-- an answer is Ok where its number is 0
passed : (a : Result (Unit {0}) Refusal) → is_ok a ≡ eqb (answer_number a) 0
passed (Ok done) = refl
passed (Err Size) = refl
passed (Err Qp) = refl
passed (Err Shift) = refl
passed (Err Depth) = refl
passed (Err Area) = refl
passed (Err Overlap) = refl
passed (Err Sample) = refl

pub returns-then-log2_size-lo : goal.returns-then-log2_size-lo
returns-then-log2_size-lo c = let a = c.args in elsewhere a.lo a.hi a.least a.log2_size a.log2_line _ c.if-log2_size-lo.true

-- within the limits the stage's tests decide
pub returns : goal.returns
returns c =
    let a = c.args in
    let n = a.log2_size in
    let l = a.log2_line in
    let o = or-neither (ltb n a.lo || ltb a.hi n) (ltb l a.least) c.if-log2_size-lo.false in
    let p = or-neither (ltb n a.lo) (ltb a.hi n) o.0 in
    within a.lo a.hi a.least n l _ (ltb-false n a.lo p.0) (ltb-false a.hi n p.1) (ltb-false l a.least o.1) _
    (c.is_ok.ensures.value ∙ passed c.stage_two.result ∙ ap (λ (k : ℕ). eqb k 0) c.stage_two.ensures)
