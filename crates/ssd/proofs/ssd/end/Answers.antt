-- `ssd::ssd::end` meets its contract. Assumes nothing.
use Prim.Native.Nat.{◌^◌}
use native.Mathlib.Omega.{arith}
use borrow.Author.Tests.{le-leb, lt-leb}
use mir.Syntax.{w64}
use mir.Facts.{to_z_pos}
use Rattle.integers.proofs.Bits.{div-some, div-none}
use Rattle.ssd.proofs.ssd.end.Goals as goal

pub returns-then-t-depth-ne0 : goal.returns-then-t-depth-ne0
returns-then-t-depth-ne0 c =
    let a = c.args in
    rw (le-leb (2 ^ a.depth) a.t.any (div-some a.t.any a.depth c.if-t-depth-ne0.true))

pub returns : goal.returns
returns c =
    let a = c.args in
    rw (to_z_pos w64 {n = a.t.sum} (omega (arith, c.requires)), lt-leb (2 ^ a.depth) a.t.any (div-none a.t.any a.depth c.if-t-depth-ne0.false))
