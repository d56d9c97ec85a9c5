-- What a caller is told leaves no choice: of one answer, and of what stood before in the place lent for it, it makes one number and one end. And no
-- two reports are told alike. Assumes nothing.
use Prim.Native.Nat.{ℕ}
use native.Mathlib.Omega.{arith}
use mathlib.Core.Path.{◌≡◌, refl, sym, ap, ◌∙◌}
use Rattle.std.specs.Prelude.{Result, Ok, Err}
use Rattle.evc.specs.declared.Report.{Report}
use Rattle.evc.specs.Answers.{Reply, SubReply}
use Rattle.evc.proofs.Tests.{number-some}
use Rattle.evc.proofs.Readings.{number-one, component-one}
use Rattle.boundary.specs.declared.reports.TvReport.{TvReport}
use Rattle.boundary.specs.Told.{Told, SubTold, report_told}

pub told-one : {A : Type 0} (reply : Reply A) (before after after' : A) (n n' : ℕ)
    → Told reply before after n → Told reply before after' n' → (n ≡ n') × (after ≡ after')
told-one reply before after after' n n' s t = (s.number ∙ sym t.number, s.value ∙ sym t.value)

pub sub-told-one : (reply : SubReply) (before after after' n n' : ℕ)
    → SubTold reply before after n → SubTold reply before after' n' → (n ≡ n') × (after ≡ after')
sub-told-one reply before after after' n n' s t = (s.number ∙ sym t.number, s.component ∙ sym t.component)

-- a report has one reading: its answer's number tells whether there is one, and then each number tells its part
pub report-told-one : (r s : Result (Unit {0}) Report) → report_told r ≡ report_told s → r ≡ s
report-told-one (Ok a) (Ok b) e = refl
report-told-one (Ok a) (Err y) e = let n = ap (λ (t : TvReport). t.answer) e in absurd (omega (arith, number-some y.refusal))
report-told-one (Err x) (Ok b) e = let n = ap (λ (t : TvReport). t.answer) e in absurd (omega (arith, number-some x.refusal))
report-told-one (Err x) (Err y) e =
    let who : x.component ≡ y.component = component-one x.component y.component (ap (λ (t : TvReport). t.component) e) in
    let why : x.refusal ≡ y.refusal = number-one x.refusal y.refusal (ap (λ (t : TvReport). t.answer) e) in
    let given : x.given ≡ y.given = ap (λ (t : TvReport). t.given) e in
    let limit : x.limit ≡ y.limit = ap (λ (t : TvReport). t.limit) e in
    rw (who, why, given, limit)
