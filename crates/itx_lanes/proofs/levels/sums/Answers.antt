-- `itx_lanes::levels::sums` meets its contract: level after level. Assumes nothing.
use mathlib.Core.Path.{refl}
use native.Mathlib.Omega.{arith}
use lib.Dec.{lit<, lit≤}
use Rattle.itx_lanes.proofs.Passes.{begun-level, ended-level, sums_by}
use Rattle.itx_lanes.proofs.Sizes.{is_1024}
use Rattle.itx_lanes.proofs.levels.sums.Goals as goal

pub returns-then-this-eq256-clause-sized : goal.returns-then-this-eq256-clause-sized
returns-then-this-eq256-clause-sized g c = λ w.
    sums_by 16 refl (lit< tt) (lit≤ tt) _ _ c.if-this-eq256.true (omega arith) (ended-level refl c.pass.ensures)

pub returns-then-this-eq512-clause-sized : goal.returns-then-this-eq512-clause-sized
returns-then-this-eq512-clause-sized g c = λ w.
    sums_by 32 refl (lit< tt) (lit≤ tt) _ _ c.if-this-eq512.true (omega arith) (ended-level refl c.pass-2.ensures)

pub pass-requires-3 : goal.pass-requires-3
pass-requires-3 g c =
    let p = is_1024 c.if-this.false c.if-this-eq256.false c.if-this-eq512.false in
    (begun-level refl (record { whole = refl; size = lit≤ tt; room = omega arith }) (ended-level refl c.pass-2.ensures), (lit≤ tt, lit≤ tt))

pub returns-clause-sized : goal.returns-clause-sized
returns-clause-sized g c = λ w.
    sums_by 64 refl (lit< tt) (lit≤ tt) _ _ (is_1024 c.if-this.false c.if-this-eq256.false c.if-this-eq512.false) (omega arith) (ended-level refl c.pass-4.ensures)
