-- Block jobs of several theatres on one buffer, where no two accepted jobs of different theatres share a sample. Jobs of ONE theatre may share some:
-- then only an order that keeps each theatre's own is free. The theory is of the crate order. Assumes nothing.
use mathlib.Core.Path.{◌≡◌, sym, ap, ◌∙◌}
use mathlib.Core.HLevel.{Discrete}
use mathlib.Core.List.{List, map, Mem}
use lib.ListN.{length}
use lib.IntN.{ℤ}
use Rattle.order.specs.Jobs.{jobs, answers, samples}
use Rattle.order.specs.Theatres.{only, SameByTheatre, SeparateTheatres}
use Rattle.order.proofs.ByTheatre.{by-theatre, theatre-alone, carrying-lawful, carrying-jobs, carrying-answers}
use Rattle.evc.specs.declared.Job.{Job}
use Rattle.evc.specs.Jobs.{job_number, block_jobs}
use Rattle.evc.specs.Theatres.{theatre_of, job_in, theatre_jobs}
use Rattle.evc.proofs.Jobs.{lawful}

module _ {Θ : Type 0} (dec : Discrete Θ) (b : List ℤ) (js : List (Θ × Job)) (apart : SeparateTheatres (theatre_jobs Θ) (length b) theatre_of js) where
  -- a rearrangement that keeps each theatre's own order leaves the same buffer, and each job answers as it does alone
  pub jobs-by-theatre : (ks : List (Θ × Job)) → SameByTheatre dec theatre_of js ks
      → (jobs block_jobs (map job_in ks) b ≡ jobs block_jobs (map job_in js) b)
      × (answers block_jobs (map job_in ks) b ≡ map (λ x. job_number (length b) (job_in x)) ks)
  jobs-by-theatre ks same =
      let h = by-theatre (carrying-lawful job_in block_jobs lawful) dec theatre_of b js ks same apart in
      (sym (carrying-jobs job_in block_jobs ks b) ∙ h.0 ∙ carrying-jobs job_in block_jobs js b, sym (carrying-answers job_in block_jobs ks b) ∙ h.1)

  -- each accepted job's samples end as if its theatre's jobs had been the only ones
  pub job-theatre-alone : (x : Θ × Job) → Mem x js → job_number (length b) (job_in x) ≡ 0
      → samples block_jobs (job_in x) (jobs block_jobs (map job_in js) b)
      ≡ samples block_jobs (job_in x) (jobs block_jobs (map job_in (only dec theatre_of (theatre_of x) js)) b)
  job-theatre-alone x m z =
      ap (samples block_jobs (job_in x)) (sym (carrying-jobs job_in block_jobs js b))
      ∙ theatre-alone (carrying-lawful job_in block_jobs lawful) dec theatre_of b js apart x m z
      ∙ ap (samples block_jobs (job_in x)) (carrying-jobs job_in block_jobs (only dec theatre_of (theatre_of x) js) b)
