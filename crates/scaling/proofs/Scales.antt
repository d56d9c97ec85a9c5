-- The scale of a qp that passes its test, and what a refused one answers. Assumes nothing.
use Prim.Native.Nat.{ℕ, ◌<◌, ◌≤◌}
use mathlib.Core.Path.{◌≡◌}
use lib.IntN.{pos}
use borrow.Author.Tests.{lt-ltb, le-ltb}
use Rattle.evc.specs.Answers.{refused, value_or}
use Rattle.evc.specs.Dequantizer.{scale, scale_reply}

pub scale-known : (qp : ℕ) → qp ≤ 63 → value_or (scale_reply qp) (pos 0) ≡ scale qp
unfolding scale_reply
scale-known qp h = rw (le-ltb 63 qp h)

-- a qp past its limit is refused, so that the check finds the code's answer for itself
pub qp_refused : (qp : ℕ) → 63 < qp → refused 2 ≡ scale_reply qp
unfolding scale_reply
qp_refused qp h = rw (lt-ltb 63 qp h)
