-- The third demand, for block jobs: any list of jobs on one buffer whose accepted members share no sample, in any order; what lies outside an
-- area. The theory is of the crate order; that an accepted sub-block is such a list stands in SubBlocks.antt. Assumes nothing.
use mathlib.Core.Path.{◌≡◌}
use mathlib.Core.List.{List, Perm}
use lib.ListN.{length}
use lib.IntN.{ℤ}
use Rattle.order.specs.Jobs.{samples, Separate}
use Rattle.order.proofs.OneJob as OneJob
use Rattle.order.proofs.AnyOrder.{AnyOrder, any_order}
use Rattle.evc.specs.declared.Job.{Job}
use Rattle.evc.specs.Jobs.{job_number, job_exit, block_jobs}
use Rattle.evc.proofs.Jobs.{lawful}

-- in any order the buffer ends the same; each accepted area holds its block of its first contents, all else is unchanged; each job answers
-- as it does alone
pub jobs-in-any-order : (b : List ℤ) (js ks : List Job) → Perm js ks → Separate block_jobs (length b) js → AnyOrder block_jobs b js ks
jobs-in-any-order = any_order lawful

-- two buffers of one length that agree in a job's area: the job answers the same, and leaves the same samples there
pub outside-does-not-matter : (b c : List ℤ) (j : Job) → length b ≡ length c → samples block_jobs j b ≡ samples block_jobs j c
    → (job_number (length b) j ≡ job_number (length c) j) × (samples block_jobs j (job_exit j b) ≡ samples block_jobs j (job_exit j c))
unfolding job_exit
outside-does-not-matter = OneJob.outside-does-not-matter lawful

-- a refused job changes nothing
pub refused-unchanged : (b : List ℤ) (j : Job) → (job_number (length b) j ≡ 0 → ⊥) → job_exit j b ≡ b
unfolding job_exit
refused-unchanged = OneJob.refused-unchanged block_jobs
