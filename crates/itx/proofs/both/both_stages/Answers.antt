-- `itx::both::both_stages` meets its contract: by the smallest block that is enough. Assumes nothing.
use mathlib.Core.Path.{◌∙◌}
use native.Mathlib.Omega.{arith}
use Rattle.itx.proofs.both.Ends.{taken, left}
use Rattle.itx.proofs.both.both_stages.Goals as goal

pub returns-then-n-le16 : goal.returns-then-n-le16
returns-then-n-le16 c = c.with_block.ensures ∙ taken _ _ _ _ (omega arith)

pub returns-then-n-le64 : goal.returns-then-n-le64
returns-then-n-le64 c = c.with_block-then-n-le64.ensures ∙ taken _ _ _ _ (omega arith)

pub returns-then-n-le1024 : goal.returns-then-n-le1024
returns-then-n-le1024 c = c.with_block-then-n-le1024.ensures ∙ taken _ _ _ _ (omega arith)

pub returns-then-n-le4096 : goal.returns-then-n-le4096
returns-then-n-le4096 c = c.with_block-then-n-le4096.ensures ∙ taken _ _ _ _ (omega arith)

pub returns-else-n-le4096 : goal.returns-else-n-le4096
returns-else-n-le4096 c = left _ _ _ _ (omega arith)
