-- The paper's numbers of the refusals, and what each answer of the code says. Document 01, "Refusal numbers, in the order they are tested". An answer is
-- a `Result`: what the call gives, or why it is refused. Each reading is one-to-one: proofs/Readings.antt. Assumes nothing.
use Rattle.std.specs.Prelude.{ℕ, Result, Ok, Err}
use Rattle.evc.specs.declared.Component.{Component}
use Rattle.evc.specs.declared.Component.TheVariants.{Y, U, «V»}
use Rattle.evc.specs.declared.Refusal.{Refusal}
use Rattle.evc.specs.declared.Refusal.TheVariants.{Size, Qp, Shift, Depth, Area, Overlap, Sample}
use Rattle.evc.specs.declared.SubRefusal.{SubRefusal}
use Rattle.evc.specs.declared.Report.{Report}

abbrev pub number : Refusal → ℕ
number Size = 1
number Qp = 2
number Shift = 3
number Depth = 4
number Area = 5
number Overlap = 6
number Sample = 7

-- C's number of a component
abbrev pub component_number : Component → ℕ
component_number Y = 0
component_number U = 1
component_number «V» = 2

-- the tests of a call, and a call that leaves its result in a buffer, answer a number: 0 where no test is broken
abbrev pub answer_number : Result (Unit {0}) Refusal → ℕ
answer_number (Ok done) = 0
answer_number (Err r) = number r

-- a call with a value answers the value, or a refusal's number and no value
pub data Reply (A : Type 0) : Type 0 where
  value : A → Reply A
  refused : ℕ → Reply A

-- the number of such an answer: 0 with a value
abbrev pub reply_number : {A : Type 0} → Reply A → ℕ
reply_number (value v) = 0
reply_number (refused n) = n

-- and its value: where there is none, what stood there before
abbrev pub value_or : {A : Type 0} → Reply A → A → A
value_or (value v) d = v
value_or (refused n) d = d

abbrev pub reading : {A : Type 0} → Result A Refusal → Reply A
reading (Ok v) = value v
reading (Err r) = refused (number r)

-- a sub-block call is accepted, or refused with a component and a number
pub data SubReply : Type 0 where
  accepted : SubReply
  refused_at : Component → ℕ → SubReply

-- such a call, and its tests
abbrev pub sub_reading : Result (Unit {0}) SubRefusal → SubReply
sub_reading (Ok done) = accepted
sub_reading (Err e) = refused_at e.component (number e.refusal)

-- a report stands beside such an answer, which it holds
abbrev pub report_reply : Result (Unit {0}) Report → SubReply
report_reply (Ok done) = accepted
report_reply (Err e) = refused_at e.component (number e.refusal)

-- and beside the number of a job's
abbrev pub report_number : Result (Unit {0}) Report → ℕ
report_number (Ok done) = 0
report_number (Err e) = number e.refusal
