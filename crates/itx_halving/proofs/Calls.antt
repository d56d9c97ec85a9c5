-- What a caller cites: a call on exactly its area. Assumes nothing.
use mathlib.Core.Path.{◌≡◌, sym, ◌∙◌}
use mathlib.Core.List.{List}
use Prim.Native.Nat.{ℕ, ◌^◌, ◌≤◌}
use native.Mathlib.Omega.{arith}
use borrow.Author.Tests.{le-ltb}
use lib.ListN.{length}
use lib.IntN.{ℤ}
use Rattle.integers.proofs.Written.{written_all}
use Rattle.evc.specs.Tests.{samples_of}
use Rattle.evc.specs.Table.{tm}
use Rattle.evc.specs.Stages.{stage_one_out, stage_two_out, stage_one_tests, stage_two_tests, stage_one_number, stage_two_number, stage_one_exit, stage_two_exit, itxb0_exit, itxb1_exit}
use Rattle.evc.proofs.Tests.{first-none, inside-no}

-- ---- buffers of exactly the area's places: the call is accepted, and the output is the stage of the input
module _ (logn logl : ℕ) (src dst : List ℤ) (low : 1 ≤ logn) (n : logn ≤ 6) (l : logl ≤ 6) (a : length src ≡ samples_of logn logl) (b : length dst ≡ samples_of logn logl) where
  pub stage-one-whole : (stage_one_number (length src) (length dst) logn logl ≡ 0) × (itxb0_exit logn logl src dst ≡ stage_one_out (tm (2 ^ logn)) (2 ^ logn) (2 ^ logl) src)
  unfolding stage_one_number stage_one_exit
  stage-one-whole =
      let p : samples_of logn logl ≤ length src = omega arith in
      let q : samples_of logn logl ≤ length dst = omega arith in
      let z =
      first-none (stage_one_tests (length src) (length dst) logn logl)
      (inside-no 1 6 logn low n, (le-ltb 6 logl l, (le-ltb _ _ p, (le-ltb _ _ q, tt)))) in
      (z, rw z (written_all (samples_of logn logl) _ dst (sym b) ∙ rw a))

  pub stage-two-whole :
      (shift : ℕ) →
      shift ≤ 31 →
      (stage_two_number (length src) (length dst) logn logl shift ≡ 0) × (itxb1_exit logn logl shift src dst ≡ stage_two_out (tm (2 ^ logn)) (2 ^ logn) (2 ^ logl) shift src)
  unfolding stage_two_number stage_two_exit
  stage-two-whole shift s =
      let p : samples_of logn logl ≤ length src = omega arith in
      let q : samples_of logn logl ≤ length dst = omega arith in
      let z =
      first-none (stage_two_tests (length src) (length dst) logn logl shift)
      (inside-no 1 6 logn low n, (le-ltb 6 logl l, (le-ltb 31 shift s, (le-ltb _ _ p, (le-ltb _ _ q, tt))))) in
      (z, rw z (written_all (samples_of logn logl) _ dst (sym b) ∙ rw a))
