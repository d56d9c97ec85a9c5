-- What the exports of the sub-block call promise. What a caller hands in, and what it gets back, are definitions of the crate boundary. Assumes
-- nothing.
use Rattle.std.specs.Prelude.{ℕ, ◌≡◌, List, ℤ, length}
use Rattle.evc.specs.declared.SubBlock.{SubBlock}
use Rattle.evc.specs.SubBlocks.{sub_reply, report_of_sub, sub_exit}
use Rattle.boundary.specs.declared.reports.TvReport.{TvReport}
use Rattle.boundary.specs.Told.{SubTold, report_told}

-- n answers a sub-block call on the buffer coef, which ends as coef'
pub record SubDone (call : SubBlock) (coef coef' : List ℤ) (before after : ℕ) (n : ℕ) : Type 0 where
  pub told : SubTold (sub_reply (length coef) call) before after n
  pub exit : coef' ≡ sub_exit call coef

-- r reports of a sub-block call on the buffer coef, which ends as coef'
pub record SubReported (call : SubBlock) (coef coef' : List ℤ) (r : TvReport) : Type 0 where
  pub report : r ≡ report_told (report_of_sub (length coef) call)
  pub exit : coef' ≡ sub_exit call coef
