-- `itxb0_blocks::stage_one::itxb0` meets its contract: by blocks where the guard holds. Assumes nothing.
use mathlib.Core.Path.{◌≡◌, sym, ◌∙◌}
use mathlib.Core.Bool.{true}
use native.Mathlib.Omega.{arith}
use lib.ListN.{length}
use Rattle.evc.specs.Stages.{stage_two_number}
use Rattle.itx_halving.specs.Taken.{takes, Call}
use Rattle.itx_halving.proofs.Taken.{call, call-rooms, one-did, one_left}
use Rattle.itx_halving.proofs.Places.{blocks}
use Rattle.itxb0_blocks.proofs.stage_one.itxb0.Goals.{Then-takes}
use Rattle.itxb0_blocks.proofs.stage_one.itxb0.Goals as goal

-- where the guard has let the call pass
module _ (c : Then-takes) where
  guard : takes 4 6 4 c.args.log2_size c.args.log2_line (stage_two_number (length c.args.src.now) (length c.args.dst.now) c.args.log2_size c.args.log2_line 0) ≡ true
  guard = sym c.takes.ensures ∙ c.if-takes.true

  known : Call 4 6 4 (length c.args.src.now) (length c.args.dst.now) c.args.log2_size c.args.log2_line 0
  known = call guard

pub overflow_shl-log2_line : goal.overflow_shl-log2_line
overflow_shl-log2_line c = omega (arith, (known (goal.at.overflow_shl-log2_line c).Then-takes).line-most)

pub ones-requires : goal.ones-requires
ones-requires c = let w = known (goal.at.ones-requires c).Then-takes in ((w.size-least, w.size-most), (call-rooms w, blocks w))

pub returns-then-takes : goal.returns-then-takes
returns-then-takes c =
    let both = one-did 4 6 4 c.args.log2_size c.args.log2_line c.args.src.now c.args.dst.now (guard (goal.at.returns-then-takes c).Then-takes) c.ones.ensures in record { did = both.0; exit = both.1 }

pub returns : goal.returns
returns c =
    let both = one_left 4 6 4 c.args.log2_size c.args.log2_line c.args.src.now c.args.dst.now (sym c.takes.ensures ∙ c.if-takes.false) in record { did = both.0; exit = both.1 }
