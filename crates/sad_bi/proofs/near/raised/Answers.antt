-- `sad_bi::near::raised` meets its contract. Assumes nothing.
use Rattle.std.proofs.Common.{Bool, cond, ℤ, pos, neg_ℤ, sym, ap, ◌∙◌, to_z-of_z}
use lib.Signed.{lt_z}
use Rattle.sad_bi.specs.Near.{raise}
use Rattle.sad_bi.proofs.near.raised.Goals as goal

-- the test is of the value's bits
limit : ℤ → Bool
limit v = lt_z v (neg_ℤ (pos 16384))

pub returns-then-v-ltminus16384 : goal.returns-then-v-ltminus16384
unfolding raise limit
returns-then-v-ltminus16384 c =
    let v = c.args.v in
    ap (λ (t : Bool). cond {A = ℤ} t (neg_ℤ (pos 16384)) v) (sym c.if-v-ltminus16384.true ∙ ap limit (to_z-of_z c.ranges.v))

pub returns-else-v-ltminus16384 : goal.returns-else-v-ltminus16384
unfolding raise limit
returns-else-v-ltminus16384 c =
    let v = c.args.v in
    to_z-of_z c.ranges.v
    ∙ ap (λ (t : Bool). cond {A = ℤ} t (neg_ℤ (pos 16384)) v) (sym c.if-v-ltminus16384.false ∙ ap limit (to_z-of_z c.ranges.v))
