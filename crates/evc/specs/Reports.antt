-- A refused job or sub-block reports why. Document 02, One. An entry of such a call's list of tests also has the number that was handed in and the
-- limit that it broke; answer and report are both read from the first broken entry. Assumes nothing.
use Rattle.std.specs.Prelude.{ℕ, cond, List, [], ◌∷◌, map, ltb, Result, Ok, Err}
use Rattle.evc.specs.declared.Component.{Component}
use Rattle.evc.specs.declared.Refusal.{Refusal}
use Rattle.evc.specs.declared.Report.{Report}
use Rattle.evc.specs.Answers.{number, SubReply, accepted, refused_at}
use Rattle.evc.specs.Tests.{Test, ◌when◌, outside}

-- a test and its numbers
pub record Entry : Type 0 where
  pub test : Test
  pub given : ℕ
  pub limit : ℕ

abbrev pub tests : List Entry → List Test
tests es = map (λ e. e.test) es

-- x must not be above hi
abbrev pub at_most : Refusal → ℕ → ℕ → Entry
at_most r hi x = record { test = r when ltb hi x; given = x; limit = hi }

-- x must lie in lo..hi: the limit that it breaks is the end that it is past
abbrev pub within : Refusal → ℕ → ℕ → ℕ → Entry
within r lo hi x = record { test = r when outside lo hi x; given = x; limit = cond (ltb x lo) lo hi }

-- an entry with the component that it speaks of
pub record Named : Type 0 where
  pub who : Component
  pub entry : Entry

abbrev pub named : Component → List Entry → List Named
named c es = map (λ e. record { who = c; entry = e }) es

-- the answer: component and number of the first broken entry
abbrev pub first_named : List Named → SubReply
first_named [] = accepted
first_named (t ∷ ts) = cond t.entry.test.broken (refused_at t.who (number t.entry.test.refusal)) (first_named ts)

-- the report of a broken entry: all that it says
abbrev pub report_at : Named → Report
report_at t = record { component = t.who; refusal = t.entry.test.refusal; given = t.entry.given; limit = t.entry.limit }

-- the report: that of the same entry; none where none is broken
abbrev pub report : List Named → Result (Unit {0}) Report
report [] = Ok tt
report (t ∷ ts) = cond t.entry.test.broken (Err (report_at t)) (report ts)
