-- Laws of block jobs: a block keeps its length; what an accepted job knows of its numbers, and that they are all that is asked; that block
-- jobs are lawful, so that the theory of order applies to them. Assumes nothing.
use Prim.Native.Nat.{ℕ, ◌+◌, ◌*◌, ◌≤◌}
use native.Mathlib.Nat.{le_refl}
use lib.Pow.{pow_pos}
use mathlib.Core.Path.{◌≡◌, ◌∙◌}
use mathlib.Core.List.{List}
use borrow.Author.Tests.{ltb-false, le-ltb}
use lib.ListN.{length, length-map}
use lib.IntN.{ℤ, ℤ_set}
use Rattle.integers.proofs.Written.{tab-length}
use Rattle.order.specs.Jobs.{Lawful}
use Rattle.order.proofs.Rows.{rows-distinct, rows-below, reach-packed}
use Rattle.evc.specs.declared.Job.{Job}
use Rattle.evc.specs.Reports.{tests}
use Rattle.evc.specs.Jobs.{width, height, pitch, area_end, entries_as, tests_of_job, job_number, block, block_jobs}
use Rattle.evc.proofs.Tests.{Unbroken, unbroken, first-none, outside-no, inside-no}

pub length-block : (j : Job) (l : List ℤ) → length (block j l) ≡ length l
unfolding block
length-block j l = tab-length _ _ ∙ tab-length _ _ ∙ length-map l _

-- the numbers are in their ranges, and the area ends inside a buffer of n samples
pub record Accepted (n : ℕ) (j : Job) : Type 0 where
  pub w1 : 1 ≤ j.log2_w
  pub w6 : j.log2_w ≤ 6
  pub h1 : 1 ≤ j.log2_h
  pub h6 : j.log2_h ≤ 6
  pub qp63 : j.qp ≤ 63
  pub dq31 : j.dq_shift ≤ 31
  pub it31 : j.it_shift ≤ 31
  pub fits : area_end j ≤ n

-- a packed area is one run of samples
pub area-end : (j : Job) → area_end j ≡ j.start + height j * width j
area-end j = reach-packed j.start (width j) (height j) (pow_pos j.log2_h)

-- the tests of a job whose logs were handed in with other limits say the same of it
pub accepted-as : (lo hi logw logh n : ℕ) (j : Job)
    → (lo ≤ logw → logw ≤ hi → (1 ≤ j.log2_w) × (j.log2_w ≤ 6))
    → (lo ≤ logh → logh ≤ hi → (1 ≤ j.log2_h) × (j.log2_h ≤ 6))
    → Unbroken (tests (entries_as lo hi logw logh n j)) → Accepted n j
accepted-as lo hi logw logh n j fw fh u =
    let a = outside-no lo hi logw u.0 in
    let b = outside-no lo hi logh u.1.0 in
    let w = fw a.0 a.1 in
    let h = fh b.0 b.1 in
    record {
      w1 = w.0;
      w6 = w.1;
      h1 = h.0;
      h6 = h.1;
      qp63 = ltb-false _ _ u.1.1.0;
      dq31 = ltb-false _ _ u.1.1.1.0;
      it31 = ltb-false _ _ u.1.1.1.1.0;
      fits = ltb-false _ _ u.1.1.1.1.1.0;
    }

pub accepted : (n : ℕ) (j : Job) → job_number n j ≡ 0 → Accepted n j
unfolding job_number
accepted n j e = accepted-as 1 6 j.log2_w j.log2_h n j (λ a b. (a, b)) (λ a b. (a, b)) (unbroken (tests_of_job n j) e)

pub accept : (n : ℕ) (j : Job) → Accepted n j → job_number n j ≡ 0
unfolding job_number
accept n j a =
    first-none (tests_of_job n j)
    (inside-no 1 6 j.log2_w a.w1 a.w6, (inside-no 1 6 j.log2_h a.h1 a.h6, (le-ltb _ _ a.qp63, (le-ltb _ _ a.dq31, (le-ltb _ _ a.it31, (le-ltb _ _ a.fits, tt))))))

pub lawful : Lawful block_jobs
lawful =
    record {
      aset = ℤ_set;
      keep = length-block;
      fits = λ n j e. (
        rows-distinct j.start (width j) (pitch j) (height j) (le_refl (width j)),
        rows-below n j.start (width j) (pitch j) (height j) (pow_pos j.log2_h) (accepted n j e).fits,
      );
    }
