-- The area of a job as the code computes it: its size by the sum of its logs, its end without forming a sum; the area as one run of samples.
-- Assumes nothing.
use Prim.Native.Nat.{ℕ, ◌+◌, ◌-◌, ◌*◌, ◌≤◌, ◌<◌}
use native.Mathlib.Nat.{mul_comm}
use native.Mathlib.Omega.{arith}
use lib.Pow.{pow-add}
use mathlib.Core.Path.{◌≡◌, sym, ◌∙◌}
use mathlib.Core.Bool.{true}
use lib.Dec.{ltb}
use borrow.Author.Tests.{ltb-true, lt-ltb}
use Rattle.order.specs.Positions.{row}
use Rattle.integers.proofs.Bools.{same_test}
use Rattle.order.proofs.Rows.{rows-packed}
use Rattle.evc.specs.declared.Job.{Job}
use Rattle.evc.specs.Tests.{samples_of}
use Rattle.evc.specs.Jobs.{width, height, area, area_end}
use Rattle.evc.proofs.Jobs.{area-end}

-- the samples of a job, row after row
pub samples-of : (j : Job) → samples_of j.log2_w j.log2_h ≡ height j * width j
samples-of j = pow-add 2 j.log2_w j.log2_h ∙ mul_comm (width j) (height j)

-- the area of a job is one run of samples
pub area-run : (j : Job) → area j ≡ row j.start (samples_of j.log2_w j.log2_h)
area-run j = rows-packed j.start (width j) (height j) ∙ rw (samples-of j)

module _ (j : Job) (m : ℕ) (e : m ≡ samples_of j.log2_w j.log2_h) where
  pub end_of : area_end j ≡ j.start + m
  end_of = area-end j ∙ rw (e, samples-of j)

  -- a buffer that is shorter than the area
  pub past-short : (n : ℕ) → n < m → true ≡ ltb n (area_end j)
  past-short n h = rw end_of (sym (lt-ltb n (j.start + m) (omega arith)))

  -- one that is not: the start is compared with what is left
  pub past-left : (n : ℕ) → m ≤ n → ltb (n - m) j.start ≡ ltb n (area_end j)
  past-left n h =
      rw end_of
      (same_test _ _
      (λ t. lt-ltb n (j.start + m) (omega (arith, ltb-true (n - m) j.start t)))
      (λ t. lt-ltb (n - m) j.start (omega (arith, ltb-true n (j.start + m) t))))
