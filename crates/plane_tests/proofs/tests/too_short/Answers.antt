-- `plane_tests::tests::too_short` meets its contract. Assumes nothing.
use mathlib.Core.Path.{sym}
use Prim.Native.Nat.{◌-◌, ◌*◌, ◌/◌, ◌≤◌, ◌<◌}
use native.Mathlib.Nat.{mul-le-mul, div-lt_iff_lt-mul}
use native.Mathlib.Omega.{arith}
use borrow.Author.Tests.{lt-ltb}
use Rattle.order.specs.Positions.{reach}
use Rattle.integers.proofs.Bools.{ltb-same}
use Rattle.plane_tests.proofs.tests.too_short.Goals as goal

pub returns-then-n-width : goal.returns-then-n-width
returns-then-n-width c = let a = c.args in sym (lt-ltb a.n (reach 0 a.width a.stride a.height) (omega arith))

pub overflow_mul-result : goal.overflow_mul-result
overflow_mul-result c =
    let a = c.args in
    let p : a.height - 1 ≤ 16383 = omega arith in
    let q : a.stride ≤ 4294967295 = omega arith in
    let h : (a.height - 1) * a.stride ≤ 16383 * 4294967295 = mul-le-mul p q in
    omega arith

pub returns-then-stride-lt4294967296 : goal.returns-then-stride-lt4294967296
returns-then-stride-lt4294967296 c =
    let a = c.args in
    ltb-same (a.n - a.width) ((a.height - 1) * a.stride) a.n (reach 0 a.width a.stride a.height) (λ h. omega arith) (λ h. omega arith)

pub returns : goal.returns
returns c =
    let a = c.args in
    let by : 0 < a.stride = omega arith in
    let room = a.n - a.width in
    ltb-same (room / a.stride) (a.height - 1) a.n (reach 0 a.width a.stride a.height)
    (λ h. let k : room < (a.height - 1) * a.stride = (div-lt_iff_lt-mul by).0 h in omega arith)
    (λ h. (div-lt_iff_lt-mul by).1 (omega arith))
