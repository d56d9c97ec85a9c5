-- `sub_block::evc_sub_block_itdq2` meets its contract. Assumes nothing.
use mathlib.Core.Path.{sym}
use Rattle.evc.proofs.SubBlocks.{sub-refused}
use Rattle.sub_block.proofs.evc_sub_block_itdq2.Goals as goal

pub returns-in_err-of_sub_block-clause-exit : goal.returns-in_err-of_sub_block-clause-exit
returns-in_err-of_sub_block-clause-exit c = sym (sub-refused c.args.call c.args.coef.now _ _ (sym c.in_err-of_sub_block.ensures))
