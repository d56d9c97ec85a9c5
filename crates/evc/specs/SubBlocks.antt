-- The sub-block call: up to three jobs on one buffer, for those of Y, U and V that are flagged. Document 01, "Refusal numbers" and
-- "Numbers of the domain"; document 02, One. Assumes nothing.
use Rattle.std.specs.Prelude.{ℕ, zero, suc, ◌-◌, Bool, true, false, List, [], ◌∷◌, ◌++◌, length, ℤ, Option, Some, None, Result}
use Rattle.order.specs.Positions.{shared}
use Rattle.order.specs.Jobs.{jobs}
use Rattle.evc.specs.declared.Job.{Job}
use Rattle.evc.specs.declared.Part.{Part}
use Rattle.evc.specs.declared.SubBlock.{SubBlock}
use Rattle.evc.specs.declared.Component.{Component}
use Rattle.evc.specs.declared.Component.TheVariants.{Y, U, «V»}
use Rattle.evc.specs.declared.Refusal.TheVariants.{Overlap}
use Rattle.evc.specs.declared.Report.{Report}
use Rattle.evc.specs.Answers.{SubReply, accepted, refused_at}
use Rattle.evc.specs.Tests.{Test, ◌when◌}
use Rattle.evc.specs.Reports.{Entry, tests, Named, named, first_named, report}
use Rattle.evc.specs.Jobs.{job_of, area, entries_as, block_jobs}

-- the job of a component: luma's logs, and one less in both directions for chroma (0 - 1 is 0 here: such a call is SIZE below)
abbrev pub luma : SubBlock → Part → Job
luma s c = job_of c.start s.log2_w s.log2_h c.qp s.offset s.dq_shift s.it_shift

abbrev pub chroma : SubBlock → Part → Job
chroma s c = job_of c.start (s.log2_w - 1) (s.log2_h - 1) c.qp s.offset s.dq_shift s.it_shift

-- a component's tests on a buffer of n samples. Logs are tested as handed in, so that chroma's limits are 2 and 7
abbrev pub luma_entries : ℕ → SubBlock → Part → List Entry
luma_entries n s c = entries_as 1 6 s.log2_w s.log2_h n (luma s c)

abbrev pub chroma_entries : ℕ → SubBlock → Part → List Entry
chroma_entries n s c = entries_as 2 7 s.log2_w s.log2_h n (chroma s c)

abbrev pub luma_tests : ℕ → SubBlock → Part → List Test
luma_tests n s c = tests (luma_entries n s c)

abbrev pub chroma_tests : ℕ → SubBlock → Part → List Test
chroma_tests n s c = tests (chroma_entries n s c)

-- the components j and k, of which k is the later, share a sample; the positions that they share are `shared (area j) (area k)`, in ascending order
abbrev pub is_some : List ℕ → Bool
is_some [] = false
is_some (p ∷ ps) = true

-- the first of them; 0 where there is none
abbrev pub lowest : List ℕ → ℕ
lowest [] = 0
lowest (p ∷ ps) = p

-- its numbers are the later one's start and the lowest position that they share
abbrev pub overlap : Job → Job → Entry
overlap j k = record { test = Overlap when is_some (shared (area j) (area k)); given = k.start; limit = lowest (shared (area j) (area k)) }

-- ---- a component is flagged where it is there: of one that isn't, and of a pair that isn't, nothing
abbrev pub given : {A : Type 0} → Option Part → (Part → List A) → List A
given None f = []
given (Some c) f = f c

abbrev pub both : {A : Type 0} → Option Part → Option Part → (Part → Part → List A) → List A
both a b f = given a (λ c. given b (f c))

-- ---- the call's tests, each with the component that it names
abbrev pub pair_yu : SubBlock → List Entry
pair_yu s = both s.y s.u (λ c d. overlap (luma s c) (chroma s d) ∷ [])

abbrev pub pair_yv : SubBlock → List Entry
pair_yv s = both s.y s.v (λ c d. overlap (luma s c) (chroma s d) ∷ [])

abbrev pub pair_uv : SubBlock → List Entry
pair_uv s = both s.u s.v (λ c d. overlap (chroma s c) (chroma s d) ∷ [])

-- each flagged component by itself, then the pairs of flagged ones, of which the later is named
abbrev pub tests_of_sub : ℕ → SubBlock → List Named
tests_of_sub n s =
    named Y (given s.y (luma_entries n s))
    ++ (named U (given s.u (chroma_entries n s))
    ++ (named «V» (given s.v (chroma_entries n s))
    ++ (named U (pair_yu s)
    ++ (named «V» (pair_yv s)
    ++ named «V» (pair_uv s)))))

unfoldable pub sub_reply : ℕ → SubBlock → SubReply
sub_reply n s = first_named (tests_of_sub n s)

unfoldable pub report_of_sub : ℕ → SubBlock → Result (Unit {0}) Report
report_of_sub n s = report (tests_of_sub n s)

-- one step of the same, for functions that test one component: its refusal n, unless that is 0, comes before the rest's answer
abbrev pub or_else : Component → ℕ → SubReply → SubReply
or_else c zero rest = rest
or_else c (suc n) rest = refused_at c (suc n)

-- ---- the jobs of the flagged components, and the buffer at the end: an accepted call does them, a refused one nothing
abbrev pub flagged : SubBlock → List Job
flagged s = given s.y (λ c. luma s c ∷ []) ++ (given s.u (λ c. chroma s c ∷ []) ++ given s.v (λ c. chroma s c ∷ []))

abbrev pub when_accepted : {A : Type 0} → SubReply → A → A → A
when_accepted accepted x y = x
when_accepted (refused_at c n) x y = y

unfoldable pub sub_exit : SubBlock → List ℤ → List ℤ
sub_exit s b = when_accepted (sub_reply (length b) s) (jobs block_jobs (flagged s) b) b
