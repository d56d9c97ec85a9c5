-- A pair of a sub-block's components, as src/pairs.rt looks at it: where both have passed their own tests, or aren't there. Assumes nothing.
use Rattle.std.specs.Prelude.{List, [], ◌∷◌, Option, Some, None}
use Rattle.evc.specs.declared.Job.{Job}
use Rattle.evc.specs.Reports.{Entry}
use Rattle.evc.specs.SubBlocks.{overlap}
use Rattle.job_tests.specs.declared.jobs.Sized.{Sized}

abbrev pub job_in : Sized → Job
job_in s = s.job

-- the test of the pair: none where one of them isn't there
abbrev pub pair : Option Job → Option Job → List Entry
pair (Some j) (Some k) = overlap j k ∷ []
pair (Some j) None = []
pair None o = []
