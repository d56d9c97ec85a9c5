-- Block jobs of several theatres: each is handed in with the theatre that it comes from, a value of any type Θ. Assumes nothing.
use Rattle.std.specs.Prelude.{ℤ}
use Rattle.order.specs.Jobs.{Kind}
use Rattle.order.specs.Theatres.{carrying}
use Rattle.evc.specs.declared.Job.{Job}
use Rattle.evc.specs.Jobs.{block_jobs}

abbrev pub theatre_of : {Θ : Type 0} → Θ × Job → Θ
theatre_of x = x.0

abbrev pub job_in : {Θ : Type 0} → Θ × Job → Job
job_in x = x.1

abbrev pub theatre_jobs : (Θ : Type 0) → Kind ℤ (Θ × Job)
theatre_jobs Θ = carrying job_in block_jobs
