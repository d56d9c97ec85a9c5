-- `scaling::scale` meets its contract: the arms of the `match` give the number of qp % 6, and one test over the 64 values of qp shows that the
-- shift of a number's bits is the scale. Assumes nothing.
use mathlib.Core.Path.{◌≡◌, ap}
use mathlib.Core.Bool.{Bool}
use Prim.Native.Nat.{ℕ, ◌*◌, ◌/◌, ◌%◌, ◌^◌, ◌≤◌}
use native.Mathlib.Omega.{arith}
use lib.Dec.{T}
use lib.ListN.{get_or}
use borrow.Author.Tests.{lt-ltb, le-ltb}
use mir.Syntax.{w32}
use mir.Val.{to_z}
use Rattle.integers.proofs.Every.{below, below_at, eq_z, eq_z→eq}
use Rattle.evc.specs.Dequantizer.{scale_numbers, scale, scale_reply}
use Rattle.evc.specs.Answers.{value}
use Rattle.scaling.proofs.scale.Goals.{in-0, in-1, in-2, in-3, in-4, in_default}
use Rattle.scaling.proofs.scale.Goals as goal

-- the scale number of a remainder, which each arm has for its own
number : ℕ → ℕ
number r = get_or scale_numbers r 0

-- the bits of the code's product, as they are read, are the scale
right : ℕ → Bool
right qp = eq_z (to_z w32 (number (qp % 6) * 2 ^ (qp / 6) % 2 ^ 32)) (scale qp)

all_right : T (below right 64)
unfolding right number scale
all_right = tt

-- each arm's bits are the number of its remainder, so the one test over the values of qp answers for all arms
here : (n j qp : ℕ) → n ≡ number j → qp % 6 ≡ j → qp ≤ 63 → value (to_z w32 (n * 2 ^ (qp / 6) % 2 ^ 32)) ≡ scale_reply qp
unfolding scale_reply right
here n j qp p e h =
    rw (p, ← e, le-ltb 63 qp h)
    (ap value (eq_z→eq _ _ (below_at right 64 all_right qp (omega arith))))

pub returns : goal.returns
unfolding number
returns c =
    elim c.match-qp-rem6.branch [
      | in-0 w ↦ here c.match-qp-rem6.number-bits 0 c.args.qp (omega arith) w.in-0.is (omega arith)
      | in-1 w ↦ here c.match-qp-rem6.number-bits 1 c.args.qp (omega arith) w.in-1.is (omega arith)
      | in-2 w ↦ here c.match-qp-rem6.number-bits 2 c.args.qp (omega arith) w.in-2.is (omega arith)
      | in-3 w ↦ here c.match-qp-rem6.number-bits 3 c.args.qp (omega arith) w.in-3.is (omega arith)
      | in-4 w ↦ here c.match-qp-rem6.number-bits 4 c.args.qp (omega arith) w.in-4.is (omega arith)
      | in_default w ↦ here c.match-qp-rem6.number-bits 5 c.args.qp (omega arith) (omega arith) (omega arith)
    ]
