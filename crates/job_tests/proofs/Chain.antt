-- The first report of two lists of tests, one after the other; the refusal alone of a report. Assumes nothing.
use mathlib.Core.Path.{◌≡◌, refl, sym, ap, ◌∙◌}
use mathlib.Core.Bool.{Bool, true, false, cond}
use mathlib.Core.List.{List, [], ◌∷◌, ◌++◌}
use Rattle.std.specs.Prelude.{Result, Ok, Err, MatchResult, IsErrAnd}
use Rattle.evc.specs.declared.Refusal.{Refusal}
use Rattle.evc.specs.declared.Report.{Report}
use Rattle.evc.specs.declared.SubRefusal.{SubRefusal}
use Rattle.evc.specs.Answers.{answer_number, report_number, sub_reading, report_reply}
use Rattle.evc.specs.Reports.{Named, report, report_at}

abbrev before : Result (Unit {0}) Report → Result (Unit {0}) Report → Result (Unit {0}) Report
before (Ok x) rest = rest
before (Err r) rest = Err r

report-append : (xs ys : List Named) → before (report xs) (report ys) ≡ report (xs ++ ys)
report-append [] ys = refl
report-append (t ∷ ts) ys = go t.entry.test.broken (report-append ts ys)
  where
    go : (b : Bool) → before (report ts) (report ys) ≡ report (ts ++ ys)
        → before (cond b (Err (report_at t)) (report ts)) (report ys) ≡ cond b (Err (report_at t)) (report (ts ++ ys))
    go true ih = refl
    go false ih = ih

-- the first list has a report: it is the whole's
pub told-first : {e : Report} {w : Result (Unit {0}) Report} (xs ys : List Named) → Err e ≡ report xs → report (xs ++ ys) ≡ w → Err e ≡ w
told-first xs ys h q = ap (λ r. before r (report ys)) h ∙ report-append xs ys ∙ q

-- it has none: the whole's is that of the second
pub told-rest : {w : Result (Unit {0}) Report} (xs ys : List Named) → Ok tt ≡ report xs → report (xs ++ ys) ≡ w → report ys ≡ w
told-rest xs ys h q = ap (λ r. before r (report ys)) h ∙ report-append xs ys ∙ q

-- ---- q is what `map_err` makes of the answer r, by a closure that gives what P says
pub refusal-alone : {P : Report → Refusal → Type 0} (r : Result (Unit {0}) Report) (q : Result (Unit {0}) Refusal)
    → ((e : Report) (f : Refusal) → P e f → f ≡ e.refusal)
    → MatchResult r (λ x. q ≡ Ok x) (λ e. IsErrAnd q (P e)) → answer_number q ≡ report_number r
refusal-alone (Ok x) q g m = ap answer_number m
refusal-alone (Err e) (Ok x) g m = absurd m
refusal-alone (Err e) (Err f) g m = rw (g e f m)

pub component-alone : {P : Report → SubRefusal → Type 0} (r : Result (Unit {0}) Report) (q : Result (Unit {0}) SubRefusal)
    → ((e : Report) (f : SubRefusal) → P e f → f ≡ record { component = e.component; refusal = e.refusal })
    → MatchResult r (λ x. q ≡ Ok x) (λ e. IsErrAnd q (P e)) → sub_reading q ≡ report_reply r
component-alone (Ok x) q g m = ap sub_reading m
component-alone (Err e) (Ok x) g m = absurd m
component-alone (Err e) (Err f) g m = rw (g e f m)
