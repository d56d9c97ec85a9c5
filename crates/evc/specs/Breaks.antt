-- What it is for the numbers of a report to break the rule of its reason: one statement, with a case for each reason. Document 02, One.
-- It holds of every report of a job and of a sub-block: proofs/Reports.antt. Assumes nothing.
use Rattle.std.specs.Prelude.{ℕ, ◌≤◌, ◌<◌, ◌≡◌, ◌⊎◌, true, cond, List, [], ◌∷◌, ◌++◌, ltb, Option, Result, Ok, Err, IsSomeAnd}
use Rattle.order.specs.Positions.{reach, has, shared}
use Rattle.std.specs.Option.{option_map}
use Rattle.evc.specs.declared.Job.{Job}
use Rattle.evc.specs.declared.Part.{Part}
use Rattle.evc.specs.declared.SubBlock.{SubBlock}
use Rattle.evc.specs.declared.Component.{Component}
use Rattle.evc.specs.declared.Component.TheVariants.{Y, U, «V»}
use Rattle.evc.specs.declared.Refusal.{Refusal}
use Rattle.evc.specs.declared.Refusal.TheVariants.{Size, Qp, Shift, Depth, Area, Overlap, Sample}
use Rattle.evc.specs.declared.Report.{Report}
use Rattle.evc.specs.Tests.{outside}
use Rattle.evc.specs.Jobs.{width, height, pitch, area}
use Rattle.evc.specs.SubBlocks.{luma, chroma, given}

-- what a component asked for: its logs as they were handed in and what they must lie in, its job, and the jobs that come before it
pub record Asked : Type 0 where
  pub logw : ℕ
  pub logh : ℕ
  pub lo : ℕ
  pub hi : ℕ
  pub job : Job
  pub earlier : List Job

-- a job alone
abbrev pub alone : Job → Asked
alone j = record { logw = j.log2_w; logh = j.log2_h; lo = 1; hi = 6; job = j; earlier = [] }

-- the components of a sub-block, chroma's behind earlier jobs
abbrev pub luma_asked : SubBlock → Part → Asked
luma_asked s c = record { logw = s.log2_w; logh = s.log2_h; lo = 1; hi = 6; job = luma s c; earlier = [] }

abbrev pub chroma_asked : SubBlock → List Job → Part → Asked
chroma_asked s js c = record { logw = s.log2_w; logh = s.log2_h; lo = 2; hi = 7; job = chroma s c; earlier = js }

-- what was asked of a component, behind those that are flagged; nothing of one that isn't flagged
abbrev pub asked : SubBlock → Component → Option Asked
asked s Y = option_map (luma_asked s) s.y
asked s U = option_map (chroma_asked s (given s.y (λ c. luma s c ∷ []))) s.u
asked s «V» = option_map (chroma_asked s (given s.y (λ c. luma s c ∷ []) ++ given s.u (λ c. chroma s c ∷ []))) s.v

-- x is below the limit lo, or above the limit hi
abbrev pub Past : ℕ → ℕ → ℕ → ℕ → Type 0
Past lo hi x limit = ((limit ≡ lo) × (x < limit)) ⊎ ((limit ≡ hi) × (limit < x))

-- x is the start of the job k, and limit the lowest position that k shares with the job j before it
pub record Shares (j k : Job) (x limit : ℕ) : Type 0 where
  pub start : x ≡ k.start
  pub first : has (area j) limit ≡ true
  pub later : has (area k) limit ≡ true
  pub lowest : (p : ℕ) → has (area j) p ≡ true → has (area k) p ≡ true → limit ≤ p

-- the same of the first of the jobs js that shares a position with k
abbrev pub SharesFirst : List Job → Job → ℕ → ℕ → Type 0
SharesFirst [] k x limit = ⊥
SharesFirst (j ∷ js) k x limit = Shares j k x limit ⊎ ((shared (area j) (area k) ≡ []) × SharesFirst js k x limit)

-- x breaks the limit, on a buffer of n samples; where two numbers have one rule, x is the first that breaks it
abbrev pub Breaks : ℕ → Asked → Refusal → ℕ → ℕ → Type 0
Breaks n a Size x limit = (x ≡ cond (outside a.lo a.hi a.logw) a.logw a.logh) × Past a.lo a.hi x limit
Breaks n a Qp x limit = (x ≡ a.job.qp) × (limit ≡ 63) × (limit < x)
Breaks n a Shift x limit = (x ≡ cond (ltb 31 a.job.dq_shift) a.job.dq_shift a.job.it_shift) × (limit ≡ 31) × (limit < x)
Breaks n a Area x limit = (x ≡ a.job.start) × (limit ≡ n) × (limit < reach x (width a.job) (pitch a.job) (height a.job))
Breaks n a Overlap x limit = SharesFirst a.earlier a.job x limit
Breaks n a Depth x limit = ⊥
Breaks n a Sample x limit = ⊥

-- a report is justified where it names what was asked, and its numbers break the rule of its reason there
abbrev pub Justified : ℕ → (Component → Option Asked) → Result (Unit {0}) Report → Type 0
Justified n ask (Ok done) = Unit {0}
Justified n ask (Err e) = IsSomeAnd (ask e.component) (λ a. Breaks n a e.refusal e.given e.limit)
