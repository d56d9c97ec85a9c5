-- `capi::sub_blocks::tv_sub_block` meets its contract: it is `evc_sub_block_itdq2` on the call as handed in, its answer as a number and a
-- component. Assumes nothing.
use mir.Facts.{to_z-of_z}
use Rattle.capi.proofs.Laws.{sub-told-as}
use Rattle.capi.proofs.sub_blocks.tv_sub_block.Goals as goal

pub returns : goal.returns
returns c =
    let offset = c.ranges.offset in
    let done = simp (c.sub_block-call.ensures, to_z-of_z) at c.evc_sub_block_itdq2.ensures in
    record { told = sub-told-as done.answer c.tell_sub_block.ensures; exit = done.exit }
