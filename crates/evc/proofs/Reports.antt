-- Theorems of the reports of a job and of a sub-block: component and reason are the answer's (…-answer, …-number), there is none exactly where the
-- call is accepted (…-none), and the numbers break the rule of the reason (…-breaks). Assumes nothing.
use Prim.Native.Nat.{ℕ}
use native.Mathlib.Omega.{arith}
use native.Mathlib.Nat.{le_refl}
use mathlib.Core.Path.{◌≡◌, refl, sym, ap, ◌∙◌}
use mathlib.Core.Logic.{◌↔◌, inl, inr}
use mathlib.Core.Bool.{Bool, true, false, cond, ◌||◌, false≢true}
use mathlib.Core.List.{List, [], ◌∷◌, ◌++◌}
use lib.Dec.{ltb}
use borrow.Author.Tests.{ltb-true}
use Rattle.std.specs.Prelude.{Option, Some, None, Result, Ok, Err, IsSomeAnd}
use Rattle.order.specs.Positions.{has, shared, Ascending}
use Rattle.order.proofs.Positions.{has-head, has-cases, shared-both, both-shared, shared-ascending, ascending-head}
use Rattle.order.proofs.Rows.{rows-ascending}
use Rattle.evc.specs.declared.Job.{Job}
use Rattle.evc.specs.declared.Part.{Part}
use Rattle.evc.specs.declared.SubBlock.{SubBlock}
use Rattle.evc.specs.declared.Component.{Component}
use Rattle.evc.specs.declared.Component.TheVariants.{Y, U, «V»}
use Rattle.evc.specs.declared.Report.{Report}
use Rattle.evc.specs.Answers.{number, accepted, refused_at, report_reply, report_number}
use Rattle.evc.specs.Tests.{first, outside}
use Rattle.evc.specs.Reports.{Entry, tests, Named, named, first_named, report_at, report}
use Rattle.evc.specs.Jobs.{width, height, pitch, area, area_end, entries_as, job_entries, job_number, report_of_job}
use Rattle.evc.specs.SubBlocks.{luma, chroma, luma_entries, chroma_entries, is_some, lowest, overlap, given, both, tests_of_sub, or_else, sub_reply, report_of_sub}
use Rattle.evc.specs.Breaks.{Asked, alone, luma_asked, chroma_asked, asked, Past, Shares, Breaks, Justified}
use Rattle.evc.proofs.Tests.{number-some}
use Rattle.evc.proofs.SubBlocks.{named-last, none-some}

-- ---- component and reason are the answer's
report-reply : (ts : List Named) → report_reply (report ts) ≡ first_named ts
report-reply [] = refl
report-reply (t ∷ ts) = go t.entry.test.broken (report-reply ts)
  where
    go : (b : Bool) → report_reply (report ts) ≡ first_named ts
        → report_reply (cond b (Err (report_at t)) (report ts))
        ≡ cond b (refused_at t.who (number t.entry.test.refusal)) (first_named ts)
    go true ih = refl
    go false ih = ih

pub report-number : (c : Component) (es : List Entry) → report_number (report (named c es)) ≡ first (tests es)
report-number c [] = refl
report-number c (e ∷ es) = go e.test.broken (report-number c es)
  where
    go : (b : Bool) → report_number (report (named c es)) ≡ first (tests es)
        → report_number (cond b (Err (report_at (record { who = c; entry = e }))) (report (named c es))) ≡ cond b (number e.test.refusal) (first (tests es))
    go true ih = refl
    go false ih = ih

pub sub-report-answer : (n : ℕ) (s : SubBlock) → report_reply (report_of_sub n s) ≡ sub_reply n s
unfolding report_of_sub sub_reply
sub-report-answer n s = report-reply (tests_of_sub n s)

-- a job's component is Y
pub job-report-answer : (n : ℕ) (j : Job) → report_reply (report_of_job n j) ≡ or_else Y (job_number n j) accepted
unfolding report_of_job job_number
job-report-answer n j = report-reply (named Y (job_entries n j)) ∙ named-last Y (job_entries n j)

pub job-report-number : (n : ℕ) (j : Job) → report_number (report_of_job n j) ≡ job_number n j
unfolding report_of_job job_number
job-report-number n j = report-number Y (job_entries n j)

-- ---- there is none exactly where the call is accepted
none-by-number : (r : Result (Unit {0}) Report) → report_number r ≡ 0 → r ≡ Ok tt
none-by-number (Ok done) e = refl
none-by-number (Err r) e = absurd (omega (arith, number-some r.refusal))

none-by-reply : (r : Result (Unit {0}) Report) → report_reply r ≡ accepted → r ≡ Ok tt
none-by-reply (Ok done) e = refl
none-by-reply (Err r) e = let z : ◌≡◌ {A = ℕ} 0 1 = cc in absurd (omega arith)

pub job-report-none : (n : ℕ) (j : Job) → (report_of_job n j ≡ Ok tt) ↔ (job_number n j ≡ 0)
job-report-none n j = (
  λ e. sym (job-report-number n j) ∙ ap report_number e,
  λ z. none-by-number (report_of_job n j) (job-report-number n j ∙ z),
)

pub sub-report-none : (n : ℕ) (s : SubBlock) → (report_of_sub n s ≡ Ok tt) ↔ (sub_reply n s ≡ accepted)
sub-report-none n s = (
  λ e. sym (sub-report-answer n s) ∙ ap report_reply e,
  λ z. none-by-reply (report_of_sub n s) (sub-report-answer n s ∙ z),
)

-- ---- the numbers break the rule
-- what is outside lo..hi is past the end on its side
past : (lo hi x : ℕ) → outside lo hi x ≡ true → Past lo hi x (cond (ltb x lo) lo hi)
past lo hi x e = go (ltb x lo) refl e
  where
    go : (t : Bool) → ltb x lo ≡ t → t || ltb hi x ≡ true → Past lo hi x (cond t lo hi)
    go true l h = inl (refl, ltb-true x lo l)
    go false l h = inr (refl, ltb-true hi x h)

-- two jobs that share a position: the lowest is the first of the ascending list of them
shares : (j k : Job) → is_some (shared (area j) (area k)) ≡ true → Shares j k k.start (lowest (shared (area j) (area k)))
shares j k e = go (shared (area j) (area k)) refl e
  where
    go : (l : List ℕ) → shared (area j) (area k) ≡ l → is_some l ≡ true → Shares j k k.start (lowest l)
    go [] q h = absurd (false≢true h)
    go (p ∷ ps) q h =
        let both = shared-both (area j) (area k) p (ap (λ m. has m p) q ∙ has-head p ps) in
        let up : Ascending (p ∷ ps) = rw q at (shared-ascending (area j) (area k) (rows-ascending j.start (width j) (pitch j) (height j) (le_refl (width j)))) in
        record {
          start = refl;
          first = both.0;
          later = both.1;
          lowest = λ r a b.
              has-cases p ps r (sym (ap (λ m. has m r) q) ∙ both-shared (area j) (area k) r a b)
              (λ i. omega arith)
              (λ t. let l = ascending-head p ps up r t in omega arith);
        }

-- entry by entry: what it breaks where it is broken, and what comes after it where it is not
module _ (n : ℕ) (ask : Component → Option Asked) where
  abbrev Sound : List Named → Type 0
  Sound [] = Unit {0}
  Sound (t ∷ ts) =
      (t.entry.test.broken ≡ true → IsSomeAnd (ask t.who) (λ a. Breaks n a t.entry.test.refusal t.entry.given t.entry.limit))
      × (t.entry.test.broken ≡ false → Sound ts)

  justified : (ts : List Named) → Sound ts → Justified n ask (report ts)
  justified [] k = tt
  justified (t ∷ ts) k = go t.entry.test.broken refl (justified ts)
    where
      go : (b : Bool) → t.entry.test.broken ≡ b → (Sound ts → Justified n ask (report ts))
          → Justified n ask (cond b (Err (report_at t)) (report ts))
      go true e ih = k.0 e
      go false e ih = ih (k.1 e)

  -- the own tests of a component of which a was asked
  own : (c : Component) (a : Asked) (rest : List Named) → ask c ≡ Some a → Sound rest
      → Sound (named c (entries_as a.lo a.hi a.logw a.logh n a.job) ++ rest)
  own c a rest q k = (
    λ e. rw q (rw e, past a.lo a.hi a.logw e),
    λ w. (
      λ e. rw q (rw w, past a.lo a.hi a.logh e),
      λ h. (
        λ e. rw q (refl, refl, ltb-true 63 a.job.qp e),
        λ p. (
          λ e. rw q (rw e, refl, ltb-true 31 a.job.dq_shift e),
          λ d. (
            λ e. rw q (rw d, refl, ltb-true 31 a.job.it_shift e),
            λ i. (
              λ e. rw q (refl, refl, ltb-true n (area_end a.job) e),
              λ f. k,
            ),
          ),
        ),
      ),
    ),
  )

pub job-report-breaks : (n : ℕ) (j : Job) → Justified n (λ c. Some (alone j)) (report_of_job n j)
unfolding report_of_job
job-report-breaks n j = justified n (λ c. Some (alone j)) (named Y (job_entries n j)) (own n (λ c. Some (alone j)) Y (alone j) [] refl tt)

module _ (n : ℕ) (s : SubBlock) where
  y-own : (p : Option Part) (rest : List Named) → s.y ≡ p → Sound n (asked s) rest → Sound n (asked s) (named Y (given p (luma_entries n s)) ++ rest)
  y-own (Some c) rest q k = own n (asked s) Y (luma_asked s c) rest (rw q refl) k
  y-own None rest q k = k

  u-own : (p : Option Part) (rest : List Named) → s.u ≡ p → Sound n (asked s) rest → Sound n (asked s) (named U (given p (chroma_entries n s)) ++ rest)
  u-own (Some c) rest q k = own n (asked s) U (chroma_asked s (given s.y (λ y. luma s y ∷ [])) c) rest (rw q refl) k
  u-own None rest q k = k

  v-own : (p : Option Part) (rest : List Named) → s.v ≡ p → Sound n (asked s) rest → Sound n (asked s) (named «V» (given p (chroma_entries n s)) ++ rest)
  v-own (Some c) rest q k =
      own n (asked s) «V» (chroma_asked s (given s.y (λ y. luma s y ∷ []) ++ given s.u (λ u. chroma s u ∷ [])) c) rest (rw q refl) k
  v-own None rest q k = k

  -- the pairs, by which components are there
  pairs : (y u v : Option Part) → s.y ≡ y → s.u ≡ u → s.v ≡ v
      → Sound n (asked s) (
      named U (both y u (λ c d. overlap (luma s c) (chroma s d) ∷ []))
      ++ (named «V» (both y v (λ c d. overlap (luma s c) (chroma s d) ∷ [])) ++ named «V» (both u v (λ c d. overlap (chroma s c) (chroma s d) ∷ []))))
  pairs (Some y) (Some u) (Some v) a b c = (
    λ e. rw (a, b) (inl (shares _ _ e)),
    λ f. (
      λ e. rw (a, b, c) (inl (shares _ _ e)),
      λ g. (
        λ e. rw (a, b, c) (inr (none-some _ g, inl (shares _ _ e))),
        λ h. tt,
      ),
    ),
  )
  pairs (Some y) (Some u) None a b c = (λ e. rw (a, b) (inl (shares _ _ e)), λ f. tt)
  pairs (Some y) None (Some v) a b c = (λ e. rw (a, b, c) (inl (shares _ _ e)), λ f. tt)
  pairs (Some y) None None a b c = tt
  pairs None (Some u) (Some v) a b c = (λ e. rw (a, b, c) (inl (shares _ _ e)), λ f. tt)
  pairs None (Some u) None a b c = tt
  pairs None None v a b c = tt

  pub sub-report-breaks : Justified n (asked s) (report_of_sub n s)
  unfolding report_of_sub
  sub-report-breaks =
      justified n (asked s) (tests_of_sub n s)
      (y-own s.y _ refl
      (u-own s.u _ refl
      (v-own s.v _ refl
      (pairs s.y s.u s.v refl refl refl))))
