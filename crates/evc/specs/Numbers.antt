-- Document 01's numbers to meet, 1 to 9, as one table of cases about the definitions. proofs/Numbers.antt proves it; number 10 is run.
-- Assumes nothing.
use Rattle.std.specs.Prelude.{ℕ, ◌≡◌, [], ◌∷◌, replicate, ℤ, pos, neg_ℤ}
use Rattle.evc.specs.declared.Job.{Job}
use Rattle.evc.specs.Answers.{Reply, value, refused}
use Rattle.evc.specs.Planes.{packed}
use Rattle.evc.specs.Dequantizer.{scale_reply, dequantized}
use Rattle.evc.specs.Stages.{itxb0_exit, itxb1_exit}
use Rattle.evc.specs.Jobs.{job_of, job_number, job_exit}
use Rattle.evc.specs.Calls.{satd_16b, ssd_16b, sad_16i}

abbrev minus : ℕ → ℤ
minus n = neg_ℤ (pos n)

-- a job of 2 by 2 at the buffer's start
abbrev small : Job
small = job_of 0 1 1 4 (pos 32) 6 12

-- SATD at depth 8 of w by h samples that are all 1 against samples that are all 0
abbrev flat : ℕ → ℕ → ℕ → Reply ℕ
flat w h n = satd_16b (packed (replicate n 1) w h) 0 0 w h (replicate n 0) 8

-- the same with one sample of 1, at the corner
abbrev corner : ℕ → ℕ → Reply ℕ
corner w n = satd_16b (packed (1 ∷ replicate n 0) w w) 0 0 w w (0 ∷ replicate n 0) 8

-- 2 by 2 samples at depth 10 that all differ by s
abbrev ssd_of : ℕ → Reply ℤ
ssd_of s = ssd_16b (packed (replicate 4 s) 2 2) 0 0 1 1 (replicate 4 0) 10

abbrev sad_of : ℕ → Reply ℕ
sad_of s = sad_16i (packed (replicate 4 s) 2 2) 0 0 2 2 (replicate 4 0) 10

pub record Numbers : Type 0 where
  pub n1-63 : scale_reply 63 ≡ value (pos 58368)
  pub n1-51 : scale_reply 51 ≡ value (pos 14592)
  pub n1-64 : scale_reply 64 ≡ refused 2
  pub n2-floor : dequantized (pos 45) (pos 0) 1 (minus 1) ≡ minus 23
  pub n2-clip : dequantized (pos 40) (pos 0) 0 (pos 32767) ≡ pos 32767
  pub n3 : itxb0_exit 1 1 (pos 1 ∷ pos 2 ∷ pos 3 ∷ pos 4 ∷ []) (replicate 4 (pos 0)) ≡ pos 256 ∷ minus 128 ∷ pos 384 ∷ minus 128 ∷ []
  pub n4 : itxb0_exit 2 0 (pos 0 ∷ pos 1 ∷ pos 0 ∷ pos 0 ∷ []) (replicate 4 (pos 0)) ≡ pos 84 ∷ pos 35 ∷ minus 35 ∷ minus 84 ∷ []
  pub n5-floor : itxb1_exit 1 0 7 (minus 3 ∷ pos 0 ∷ []) (replicate 2 (pos 0)) ≡ minus 1 ∷ minus 1 ∷ []
  pub n5-half : itxb1_exit 1 0 7 (minus 1 ∷ pos 0 ∷ []) (replicate 2 (pos 5)) ≡ pos 0 ∷ pos 0 ∷ []
  pub n5-clip : itxb1_exit 1 0 0 (pos 2147483647 ∷ pos 0 ∷ []) (replicate 2 (pos 0)) ≡ pos 32767 ∷ pos 32767 ∷ []
  pub n6-answer : job_number 4 small ≡ 0
  pub n6-samples : job_exit small (pos 4 ∷ pos 0 ∷ pos 0 ∷ pos 0 ∷ []) ≡ pos 4 ∷ pos 4 ∷ pos 4 ∷ pos 4 ∷ []
  pub n7-8x8 : flat 8 8 64 ≡ value 4
  pub n7-4x4 : flat 4 4 16 ≡ value 2
  pub n7-2x2 : flat 2 2 4 ≡ value 1
  pub n7-8x4 : flat 8 4 32 ≡ value 4
  pub n8-8x8 : corner 8 63 ≡ value 16
  pub n8-4x4 : corner 4 15 ≡ value 8
  pub n8-2x2 : corner 2 3 ≡ value 3
  pub n9-ssd-3 : ssd_of 3 ≡ value (pos 0)
  pub n9-sad-3 : sad_of 3 ≡ value 3
  pub n9-ssd-4 : ssd_of 4 ≡ value (pos 4)
