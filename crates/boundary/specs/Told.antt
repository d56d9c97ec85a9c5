-- Answers as numbers, and the places that a caller lends for a value or a component. Cited by every contract of src/, and by the exports.
-- Assumes nothing.
use Rattle.std.specs.Prelude.{ℕ, ◌≡◌, Result, Ok, Err}
use Rattle.evc.specs.declared.Report.{Report}
use Rattle.evc.specs.Answers.{number, component_number, Reply, reply_number, value_or, SubReply, accepted, refused_at}
use Rattle.boundary.specs.declared.reports.TvReport.{TvReport}

-- n answers a call with a value: the value stands in the place lent for it; where there is none, what stood there before
pub record Told {A : Type 0} (reply : Reply A) (before after : A) (n : ℕ) : Type 0 where
  pub number : n ≡ reply_number reply
  pub value : after ≡ value_or reply before

-- the number of a sub-block's answer, and its component: where it names none, what stood there before
abbrev pub sub_number : SubReply → ℕ
sub_number accepted = 0
sub_number (refused_at c n) = n

abbrev pub component_or : SubReply → ℕ → ℕ
component_or accepted d = d
component_or (refused_at c n) d = component_number c

-- n answers a sub-block call: a refusal's component stands in the place lent for it; an accepted call leaves that place as it was
pub record SubTold (reply : SubReply) (before after : ℕ) (n : ℕ) : Type 0 where
  pub number : n ≡ sub_number reply
  pub component : after ≡ component_or reply before

-- a report in numbers, the answer among them: all 0 where there is none
abbrev pub report_told : Result (Unit {0}) Report → TvReport
report_told (Ok done) = record { given = 0; limit = 0; answer = 0; component = 0 }
report_told (Err e) = record { given = e.given; limit = e.limit; answer = number e.refusal; component = component_number e.component }
