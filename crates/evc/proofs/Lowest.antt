-- The first broken test of each call has the lowest number that applies: its tests stand in ascending order of their numbers, which is
-- computed, and of such a list it is proved once. A sub-block names the first component that
-- has a broken test, with the lowest number of that component (SubBlocks.antt). Assumes nothing.
use Prim.Native.Nat.{ℕ, ◌≤◌, ◌^◌}
use native.Mathlib.Nat.{le_antisymm, le_trans, le_refl}
use mathlib.Core.Path.{◌≡◌, refl, sym, ap, subst, ◌∙◌}
use mathlib.Core.Logic.{inl, inr}
use mathlib.Core.Bool.{Bool, true, false, cond, ◌&&◌, true≢false}
use mathlib.Core.List.Memᴰ
use mathlib.Core.List.{List, [], ◌∷◌}
use lib.Dec.{T, leb, leb→le}
use mir.Facts.{and_yes}
use borrow.Author.Tests.{le-leb}
use Rattle.evc.specs.declared.Job.{Job}
use Rattle.evc.specs.declared.Part.{Part}
use Rattle.evc.specs.declared.SubBlock.{SubBlock}
use Rattle.evc.specs.Answers.{number, reply_number}
use Rattle.evc.specs.Tests.{Test, first, Applies, Lowest, log_sizes}
use Rattle.evc.specs.Dequantizer.{scale_tests, scale_reply, dquant_tests, dquant_number}
use Rattle.evc.specs.Stages.{stage_one_tests, stage_one_number, stage_two_tests, stage_two_number}
use Rattle.evc.specs.Jobs.{tests_of_job, job_number}
use Rattle.evc.specs.SubBlocks.{luma_tests, chroma_tests}
use Rattle.evc.specs.Planes.{Block}
use Rattle.evc.specs.Calls.{compare_tests, sad_sizes, satd_sizes, sad_reply, ssd_reply, satd_reply, diff_tests, diff_number}
use Rattle.evc.proofs.Tests.{reply-number}

-- ---- once for every list in ascending order
-- each number is at least n and at least the one before it
abbrev ascending : ℕ → List Test → Bool
ascending n [] = true
ascending n (t ∷ ts) = leb n (number t.refusal) && ascending (number t.refusal) ts

above : (n : ℕ) (ts : List Test) → T (ascending n ts) → (m : ℕ) → Applies ts m → n ≤ m
above n [] t m a = absurd (Memᴰ.not-nil a.1)
above n (t ∷ ts) k m (s, Memᴰ.head q, b, e) =
    let h = leb→le n (number t.refusal) (and_yes (leb n (number t.refusal)) (ascending (number t.refusal) ts) k).0 in
    subst (λ (x : ℕ). n ≤ x) (sym (ap (λ (x : Test). number x.refusal) q) ∙ e) h
above n (t ∷ ts) k m (s, Memᴰ.tail q, b, e) =
    let h = and_yes (leb n (number t.refusal)) (ascending (number t.refusal) ts) k in
    le_trans (leb→le n (number t.refusal) h.0) (above (number t.refusal) ts h.1 m (s, q, b, e))

-- a test that is not broken changes nothing
applies-tail : (t : Test) (ts : List Test) → t.broken ≡ false → (m : ℕ) → Applies (t ∷ ts) m → Applies ts m
applies-tail t ts e m (s, Memᴰ.head q, b, d) = absurd (true≢false (sym b ∙ ap (λ (x : Test). x.broken) q ∙ e))
applies-tail t ts e m (s, Memᴰ.tail q, b, d) = (s, q, b, d)

lowest-tail : (t : Test) (ts : List Test) (n : ℕ) → t.broken ≡ false → Lowest ts n → Lowest (t ∷ ts) n
lowest-tail t ts n e (inl l) = inl ((l.0.0, Memᴰ.tail l.0.1, l.0.2, l.0.3), λ m a. l.1 m (applies-tail t ts e m a))
lowest-tail t ts n e (inr l) = inr (l.0, λ m a. l.1 m (applies-tail t ts e m a))

lowest-head : (t : Test) (ts : List Test) → T (ascending (number t.refusal) ts) → t.broken ≡ true → Lowest (t ∷ ts) (number t.refusal)
lowest-head t ts k e =
    inl ((t, Memᴰ.head refl, e, refl), above (number t.refusal) (t ∷ ts) (rw (le-leb _ _ (le_refl (number t.refusal))) k))

from : (n : ℕ) (ts : List Test) → T (ascending n ts) → Lowest ts (first ts)
from n [] k = inr (refl, λ m a. Memᴰ.not-nil a.1)
from n (t ∷ ts) k =
    let h = (and_yes (leb n (number t.refusal)) (ascending (number t.refusal) ts) k).1 in
    by t.broken refl h (from (number t.refusal) ts h)
  where
    by : (b : Bool) → t.broken ≡ b → T (ascending (number t.refusal) ts) → Lowest ts (first ts)
        → Lowest (t ∷ ts) (cond b (number t.refusal) (first ts))
    by true e k ih = lowest-head t ts k e
    by false e k ih = lowest-tail t ts (first ts) e ih

pub lowest : (ts : List Test) → T (ascending 0 ts) → Lowest ts (first ts)
lowest = from 0

-- two numbers that are the lowest are one
pub lowest-one : (ts : List Test) (m n : ℕ) → Lowest ts m → Lowest ts n → m ≡ n
lowest-one ts m n (inl a) (inl b) = le_antisymm (a.1 n b.0) (b.1 m a.0)
lowest-one ts m n (inl a) (inr b) = absurd (b.1 m a.0)
lowest-one ts m n (inr a) (inl b) = absurd (a.1 n b.0)
lowest-one ts m n (inr a) (inr b) = a.0 ∙ sym b.0

-- ---- each call's answer
pub scale-lowest : (qp : ℕ) → Lowest (scale_tests qp) (reply_number (scale_reply qp))
unfolding scale_reply
scale-lowest qp = rw reply-number (lowest (scale_tests qp) tt)

pub dquant-lowest : (n logw logh shift : ℕ) → Lowest (dquant_tests n logw logh shift) (dquant_number n logw logh shift)
unfolding dquant_number
dquant-lowest n logw logh shift = lowest (dquant_tests n logw logh shift) tt

pub stage-one-lowest : (n m logn logl : ℕ) → Lowest (stage_one_tests n m logn logl) (stage_one_number n m logn logl)
unfolding stage_one_number
stage-one-lowest n m logn logl = lowest (stage_one_tests n m logn logl) tt

pub stage-two-lowest : (n m logn logl shift : ℕ) → Lowest (stage_two_tests n m logn logl shift) (stage_two_number n m logn logl shift)
unfolding stage_two_number
stage-two-lowest n m logn logl shift = lowest (stage_two_tests n m logn logl shift) tt

pub job-lowest : (n : ℕ) (j : Job) → Lowest (tests_of_job n j) (job_number n j)
unfolding job_number
job-lowest n j = lowest (tests_of_job n j) tt

-- the four SADs, the two SSDs and SATD, over whatever blocks they compare
pub sad-lowest : (w h depth : ℕ) (a b : Block) → Lowest (compare_tests (sad_sizes w h) w h depth a b) (reply_number (sad_reply w h depth a b))
unfolding sad_reply
sad-lowest w h depth a b = rw reply-number (lowest (compare_tests (sad_sizes w h) w h depth a b) tt)

pub ssd-lowest : (logw logh depth : ℕ) (a b : Block)
    → Lowest (compare_tests (log_sizes logw logh) (2 ^ logw) (2 ^ logh) depth a b) (reply_number (ssd_reply logw logh depth a b))
unfolding ssd_reply
ssd-lowest logw logh depth a b = rw reply-number (lowest (compare_tests (log_sizes logw logh) (2 ^ logw) (2 ^ logh) depth a b) tt)

pub satd-lowest : (w h depth : ℕ) (a b : Block) → Lowest (compare_tests (satd_sizes w h) w h depth a b) (reply_number (satd_reply w h depth a b))
unfolding satd_reply
satd-lowest w h depth a b = rw reply-number (lowest (compare_tests (satd_sizes w h) w h depth a b) tt)

pub diff-lowest : (n logw logh depth : ℕ) (a b : Block) → Lowest (diff_tests n logw logh depth a b) (diff_number n logw logh depth a b)
unfolding diff_number
diff-lowest n logw logh depth a b = lowest (diff_tests n logw logh depth a b) tt

-- the tests of one component of a sub-block
pub luma-lowest : (n : ℕ) (s : SubBlock) (c : Part) → Lowest (luma_tests n s c) (first (luma_tests n s c))
luma-lowest n s c = lowest (luma_tests n s c) tt

pub chroma-lowest : (n : ℕ) (s : SubBlock) (c : Part) → Lowest (chroma_tests n s c) (first (chroma_tests n s c))
chroma-lowest n s c = lowest (chroma_tests n s c) tt
