-- What the exports of the sub-block call promise leaves no choice. Assumes nothing.
use Prim.Native.Nat.{ℕ}
use mathlib.Core.Path.{◌≡◌, sym, ◌∙◌}
use mathlib.Core.List.{List}
use lib.IntN.{ℤ}
use lib.ListN.{length}
use Rattle.evc.specs.declared.SubBlock.{SubBlock}
use Rattle.evc.specs.SubBlocks.{sub_reply}
use Rattle.boundary.proofs.Told.{sub-told-one}
use Rattle.boundary.specs.declared.reports.TvReport.{TvReport}
use Rattle.capi.specs.Boundary.{SubDone, SubReported}

pub sub-done-one : (call : SubBlock) (coef left left' : List ℤ) (before after after' n n' : ℕ)
    → SubDone call coef left before after n → SubDone call coef left' before after' n' → (n ≡ n') × (after ≡ after') × (left ≡ left')
sub-done-one call coef left left' before after after' n n' s t =
    let told = sub-told-one (sub_reply (length coef) call) before after after' n n' s.told t.told in
    (told.0, told.1, s.exit ∙ sym t.exit)

pub sub-reported-one : (call : SubBlock) (coef left left' : List ℤ) (r r' : TvReport)
    → SubReported call coef left r → SubReported call coef left' r' → (r ≡ r') × (left ≡ left')
sub-reported-one call coef left left' r r' s t = (s.report ∙ sym t.report, s.exit ∙ sym t.exit)
