-- What an accepted job lends of its buffer to `itdq`, and what it leaves. Assumes nothing.
use Prim.Native.Nat.{ℕ, ◌+◌, ◌*◌, ◌-◌, ◌^◌, ◌%◌, ◌≤◌}
use native.Mathlib.Nat.{add-sub_cancel_left}
use native.Mathlib.Omega.{arith}
use mathlib.Core.Path.{◌≡◌, sym, ap, ◌∙◌}
use mathlib.Core.List.{List, ◌++◌, map}
use lib.ListN.{length, take, drop, length-drop, length-map}
use lib.Seq.{length-take-le}
use lib.IntN.{ℤ, pos}
use mir.Syntax.{w64}
use Rattle.integers.proofs.Bits.{one_shl}
use Rattle.order.proofs.Rows.{change-row}
use Rattle.evc.specs.declared.Job.{Job}
use Rattle.evc.specs.Tests.{samples_of}
use Rattle.evc.specs.Answers.{value_or}
use Rattle.evc.specs.Dequantizer.{scale, scale_reply, dequantized, dquant_exit}
use Rattle.evc.specs.Jobs.{job_number, block, job_exit}
use Rattle.evc.proofs.Jobs.{length-block, accepted}
use Rattle.scaling.proofs.Scales.{scale-known}
use Rattle.dquant.proofs.Calls.{dquant-whole}
use Rattle.job_tests.proofs.Areas.{area-run, end_of}
use Rattle.itx.specs.Both.{both_exit}
use Rattle.itx.specs.Blocks.{TwoStageBlock, two_stages}
use Rattle.itx.proofs.Blocks.{both-block}

-- ---- what the job lends of the buffer b is exactly its area, of n samples
module _ (b : List ℤ) (j : Job) (z : job_number (length b) j ≡ 0) (n : ℕ) (e : n ≡ samples_of j.log2_w j.log2_h) where
  -- the part's length as the code writes it, from the start and the end
  abbrev k : ℕ
  k = j.start + n - j.start

  lent-size : k ≡ n
  lent-size = add-sub_cancel_left j.start n

  abbrev part : List ℤ
  part = take k (drop j.start b)

  inside-at : j.start + n ≤ length b
  inside-at = rw (sym (end_of j n e)) (accepted (length b) j z).fits

  part-long : length part ≡ k
  part-long = length-take-le k (drop j.start b) (rw length-drop (omega (arith, inside-at)))

  -- what the dequantizer leaves of the part
  abbrev y : List ℤ
  y = dquant_exit j.log2_w j.log2_h (value_or (scale_reply j.qp) (pos 0)) j.offset j.dq_shift part

  y-is : y ≡ map (dequantized (scale j.qp) j.offset j.dq_shift) part
  y-is =
      let a = accepted (length b) j z in
      rw (scale-known j.qp a.qp63)
      (dquant-whole j.log2_w j.log2_h (scale j.qp) j.offset j.dq_shift part a.w6 a.h6 a.dq31 (part-long ∙ lent-size ∙ e)).1

  y-long : length y ≡ k
  y-long = ap length y-is ∙ length-map part _ ∙ part-long

  -- which is a block that both stages take
  lent-block : TwoStageBlock (length y) j.log2_w j.log2_h j.it_shift
  lent-block =
      let a = accepted (length b) j z in
      record {
        w1 = a.w1;
        w6 = a.w6;
        h1 = a.h1;
        h6 = a.h6;
        s31 = a.it31;
        long = y-long ∙ lent-size ∙ e;
      }

  -- and the buffer at the end, with x as both stages leave it in place of the part
  done_at : (x : List ℤ) → x ≡ both_exit j.log2_w j.log2_h j.it_shift y → take j.start b ++ (x ++ drop k (drop j.start b)) ≡ job_exit j b
  unfolding job_exit block two_stages
  done_at x e' =
      let h : x ≡ two_stages j.log2_w j.log2_h j.it_shift y = e' ∙ both-block j.log2_w j.log2_h j.it_shift y lent-block in
      rw (z, h, y-is, lent-size, area-run j, ← e)
      (sym (change-row (pos 0) (block j) (length-block j) b j.start n inside-at))

-- ---- the same, with the size as the code computes it
abbrev pub size : Job → ℕ
size j = (1 * 2 ^ (j.log2_w + j.log2_h)) % 2 ^ 64

module _ (b : List ℤ) (j : Job) (z : job_number (length b) j ≡ 0) where
  pub logs-sum : j.log2_w + j.log2_h ≤ 12
  logs-sum = let a = accepted (length b) j z in omega arith

  sized : size j ≡ samples_of j.log2_w j.log2_h
  sized = one_shl w64 (j.log2_w + j.log2_h) (omega (arith, logs-sum))

  pub area-inside : j.start + size j ≤ length b
  area-inside = inside-at b j z (size j) sized

  -- the part that is lent
  abbrev pub lent : List ℤ
  lent = take (j.start + size j - j.start) (drop j.start b)

  -- x is what `itdq` leaves of it
  pub lent-done : (x : List ℤ)
      → x ≡ both_exit j.log2_w j.log2_h j.it_shift (dquant_exit j.log2_w j.log2_h (value_or (scale_reply j.qp) (pos 0)) j.offset j.dq_shift lent)
      → take j.start b ++ (x ++ drop (j.start + size j - j.start) (drop j.start b)) ≡ job_exit j b
  lent-done x e = done_at b j z (size j) sized x e
