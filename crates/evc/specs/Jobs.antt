-- The block job: dequantize an area of the buffer, stage one, stage two, back into the same area. Document 01, "Numbers of the domain"
-- and "The two stages"; document 02, One. Assumes nothing.
use Rattle.std.specs.Prelude.{ℕ, ◌^◌, List, [], ◌∷◌, map, ltb, ℤ, pos, Result}
use Rattle.order.specs.Positions.{rows, reach}
use Rattle.order.specs.Jobs.{Kind, after}
use Rattle.evc.specs.declared.Job.{Job}
use Rattle.evc.specs.declared.Component.TheVariants.{Y}
use Rattle.evc.specs.declared.Refusal.TheVariants.{Size, Qp, Shift, Area}
use Rattle.evc.specs.declared.Report.{Report}
use Rattle.evc.specs.Tests.{Test, ◌when◌, first}
use Rattle.evc.specs.Reports.{Entry, tests, at_most, within, named, report}
use Rattle.evc.specs.Table.{tm}
use Rattle.evc.specs.Dequantizer.{scale, dequantized}
use Rattle.evc.specs.Stages.{stage_one_out, stage_two_out}

-- a job, by its numbers in their order
abbrev pub job_of : ℕ → ℕ → ℕ → ℕ → ℤ → ℕ → ℕ → Job
job_of start logw logh qp offset dqshift itshift =
    record { start = start; log2_w = logw; log2_h = logh; qp = qp; offset = offset; dq_shift = dqshift; it_shift = itshift }

abbrev pub width : Job → ℕ
width j = 2 ^ j.log2_w

abbrev pub height : Job → ℕ
height j = 2 ^ j.log2_h

-- the row after a row starts a pitch later: here straight behind it
abbrev pub pitch : Job → ℕ
pitch j = width j

-- the positions of the job's samples, row after row, and one past the last of them
abbrev pub area : Job → List ℕ
area j = rows j.start (width j) (pitch j) (height j)

abbrev pub area_end : Job → ℕ
area_end j = reach j.start (width j) (pitch j) (height j)

-- the area must end inside a buffer of n samples; its numbers are the start and n
abbrev pub inside : ℕ → Job → Entry
inside n j = record { test = Area when ltb n (area_end j); given = j.start; limit = n }

-- the tests on a buffer of n samples, of a job whose logs were handed in as logw and logh and must lie in lo..hi
abbrev pub entries_as : ℕ → ℕ → ℕ → ℕ → ℕ → Job → List Entry
entries_as lo hi logw logh n j =
    within Size lo hi logw
    ∷ within Size lo hi logh
    ∷ at_most Qp 63 j.qp
    ∷ at_most Shift 31 j.dq_shift
    ∷ at_most Shift 31 j.it_shift
    ∷ inside n j
    ∷ []

abbrev pub job_entries : ℕ → Job → List Entry
job_entries n j = entries_as 1 6 j.log2_w j.log2_h n j

abbrev pub tests_of_job : ℕ → Job → List Test
tests_of_job n j = tests (job_entries n j)

unfoldable pub job_number : ℕ → Job → ℕ
job_number n j = first (tests_of_job n j)

-- a job's component is Y
unfoldable pub report_of_job : ℕ → Job → Result (Unit {0}) Report
report_of_job n j = report (named Y (job_entries n j))

-- what the job makes of its samples: stage one has the size height and width lines, stage two the size width and height lines
unfoldable pub block : Job → List ℤ → List ℤ
block j l =
    stage_two_out (tm (width j)) (width j) (height j) j.it_shift
    (stage_one_out (tm (height j)) (height j) (width j)
    (map (dequantized (scale j.qp) j.offset j.dq_shift) l))

-- block jobs as a kind of job on one buffer, to which the theory of order applies
abbrev pub block_jobs : Kind ℤ Job
block_jobs = record { blank = pos 0; number = job_number; area = area; block = block }

-- the buffer at the end: an accepted job's area holds its block, all else is as it was
unfoldable pub job_exit : Job → List ℤ → List ℤ
job_exit j b = after block_jobs j b
