-- `sad_bi::near::lower` meets its contract. Assumes nothing.
use Rattle.std.proofs.Common.{◌≤ℤ◌, ap, ◌∙◌, subst₂, to_z-of_z}
use Rattle.integers.proofs.Order.{<ℤ-≤ℤ}
use Rattle.integers.proofs.Bits.{lt-held, lt-failed}
use Rattle.sad_bi.specs.Marks.{low_mark_of}
use Rattle.sad_bi.proofs.Cut.{low_first, low_second}
use Rattle.sad_bi.proofs.near.lower.Goals as goal

pub returns-then-u-v : goal.returns-then-u-v
returns-then-u-v c =
    let u = to_z-of_z c.ranges.u in
    let v = to_z-of_z c.ranges.v in
    ap low_mark_of u ∙ low_first c.args.u c.args.v (subst₂ ◌≤ℤ◌ u v (<ℤ-≤ℤ (lt-held _ _ c.if-u-v.true)))

pub returns-else-u-v : goal.returns-else-u-v
returns-else-u-v c =
    let u = to_z-of_z c.ranges.u in
    let v = to_z-of_z c.ranges.v in
    ap low_mark_of v ∙ low_second c.args.u c.args.v (subst₂ ◌≤ℤ◌ v u (lt-failed _ _ c.if-u-v.false))
