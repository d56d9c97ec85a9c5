-- What an accepted sub-block call leaves. Assumes nothing.
use mathlib.Core.Path.{◌≡◌, refl, sym, ap, ◌∙◌}
use mathlib.Core.List.{List, [], ◌∷◌, ◌++◌}
use Prim.Native.Nat.{ℕ}
use lib.ListN.{length}
use lib.IntN.{ℤ}
use Rattle.std.specs.Prelude.{Option, Some, None, MatchOption, IfSome, IsSomeAnd, option_map}
use Rattle.order.specs.Jobs.{Kind, after, jobs}
use Rattle.evc.specs.declared.Job.{Job}
use Rattle.evc.specs.declared.Part.{Part}
use Rattle.evc.specs.declared.SubBlock.{SubBlock}
use Rattle.evc.specs.Answers.{accepted}
use Rattle.evc.specs.Jobs.{job_number, block_jobs, job_exit}
use Rattle.evc.specs.SubBlocks.{luma, chroma, given, sub_reply, sub_exit}

-- one list of jobs after another
jobs-append : {A J : Type 0} (w : Kind A J) (js ks : List J) (b : List A) → jobs w (js ++ ks) b ≡ jobs w ks (jobs w js b)
jobs-append w [] ks b = refl
jobs-append w (j ∷ js) ks b = jobs-append w js ks (after w j b)

module _ (f : Part → Job) where
  -- q is what `map` makes of a component by a closure that gives what P says: the component's job
  pub mapped : {P : Part → Job → Type 0} (o : Option Part) (q : Option Job) → ((c : Part) (j : Job) → P c j → j ≡ f c)
      → MatchOption o (q ≡ None) (λ c. IsSomeAnd q (P c)) → q ≡ option_map f o
  mapped None q g m = m
  mapped (Some c) None g m = absurd m
  mapped (Some c) (Some j) g m = ap Some (g c j m)

  -- a component that has passed its tests is an accepted job, while the buffer keeps its length
  pub job-passed : (o : Option Part) {q : Option Job} {n m : ℕ} → ((c : Part) → o ≡ Some c → job_number n (f c) ≡ 0) → q ≡ option_map f o → m ≡ n
      → IfSome q (λ j. job_number m j ≡ 0)
  job-passed None h q e = rw q tt
  job-passed (Some c) h q e = rw (q, e) (h c refl)

  -- and leaves what its job leaves
  job-left : (o : Option Part) {q : Option Job} (b p : List ℤ) → q ≡ option_map f o → MatchOption q (p ≡ b) (λ j. p ≡ job_exit j b)
      → p ≡ jobs block_jobs (given o (λ c. f c ∷ [])) b
  unfolding job_exit
  job-left None b p q m = rw q at m
  job-left (Some c) b p q m = rw q at m

-- what the three components leave, one after the other
pub sub-left : (s : SubBlock) (b p q r : List ℤ) {y u v : Option Job} → sub_reply (length b) s ≡ accepted
    → y ≡ option_map (luma s) s.y → u ≡ option_map (chroma s) s.u → v ≡ option_map (chroma s) s.v
    → MatchOption y (p ≡ b) (λ j. p ≡ job_exit j b)
    → MatchOption u (q ≡ p) (λ j. q ≡ job_exit j p)
    → MatchOption v (r ≡ q) (λ j. r ≡ job_exit j q)
    → r ≡ sub_exit s b
unfolding sub_exit
sub-left s b p q r a ey eu ev ep eq er =
    let jy = given s.y (λ c. luma s c ∷ []) in
    let ju = given s.u (λ c. chroma s c ∷ []) in
    let jv = given s.v (λ c. chroma s c ∷ []) in
    let hp = job-left (luma s) s.y b p ey ep in
    let hq = job-left (chroma s) s.u p q eu eq in
    let hr = job-left (chroma s) s.v q r ev er in
    rw a (hr ∙ ap (jobs block_jobs jv) (hq ∙ ap (jobs block_jobs ju) hp)
    ∙ sym (jobs-append block_jobs jy (ju ++ jv) b ∙ jobs-append block_jobs ju jv (jobs block_jobs jy b)))
