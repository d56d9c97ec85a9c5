-- `itx_halving::tests::stage_two` meets its contract: each return by the tests that led there. Assumes nothing.
use native.Mathlib.Omega.{arith}
use Prim.Native.Nat.{◌+◌, ◌*◌, ◌^◌, ◌%◌, ◌≤◌}
use mathlib.Core.Path.{◌≡◌}
use mathlib.Core.Bool.{false, ◌||◌}
use lib.Dec.{ltb}
use borrow.Author.Tests.{ltb-false}
use mir.Syntax.{w64}
use Rattle.integers.proofs.Bools.{or-neither}
use Rattle.integers.proofs.Bits.{one_shl}
use Rattle.evc.specs.Tests.{outside, samples_of}
use Rattle.evc.proofs.Tests.{outside-no}
use Rattle.itx_halving.proofs.tests.Laws.{stage-area, stage-none}
use Rattle.itx_halving.proofs.tests.stage_two.Goals.{Else-log2_size-log2_line}
use Rattle.itx_halving.proofs.tests.stage_two.Goals as goal

-- the sizes have passed
sum : (c : Else-log2_size-log2_line) → c.args.log2_size + c.args.log2_line ≤ 12
sum c =
    let n = c.args.log2_size in
    let l = c.args.log2_line in
    let s : outside 1 6 n || ltb 6 l ≡ false = c.if-log2_size-log2_line.false in
    let o = or-neither (outside 1 6 n) (ltb 6 l) s in
    omega (arith, (outside-no 1 6 n o.0).1, ltb-false 6 l o.1)

sized : (c : Else-log2_size-log2_line) → (1 * 2 ^ (c.args.log2_size + c.args.log2_line)) % 2 ^ 64 ≡ samples_of c.args.log2_size c.args.log2_line
sized c = one_shl w64 (c.args.log2_size + c.args.log2_line) (omega (arith, sum c))

pub overflow_add-n : goal.overflow_add-n
overflow_add-n c = omega (arith, sum (goal.at.overflow_add-n c).Else-log2_size-log2_line)

pub overflow_shl-n : goal.overflow_shl-n
overflow_shl-n c = omega (arith, sum (goal.at.overflow_shl-n c).Else-log2_size-log2_line)

pub returns-then-n-src : goal.returns-then-n-src
returns-then-n-src c =
    stage-none _ _ _ _ _ c.if-log2_size-log2_line.false (omega arith) _ (sized (goal.at.returns-then-n-src c).Else-log2_size-log2_line) c.if-n-src.true

pub returns-else-n-src : goal.returns-else-n-src
returns-else-n-src c =
    stage-area _ _ _ _ _ c.if-log2_size-log2_line.false (omega arith) _ (sized (goal.at.returns-else-n-src c).Else-log2_size-log2_line) c.if-n-src.false
