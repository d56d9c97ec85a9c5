-- `sad::sad::total` meets its contract. Assumes nothing.
use Rattle.std.proofs.Common.{bit_or}
use Rattle.block_rows.specs.Totals.{apart}
use Rattle.block_rows.proofs.AtEdges.{standing-totalled}
use Rattle.sad.proofs.sad.total.Goals as goal

pub returns-in-Some : goal.returns-in-Some
returns-in-Some c = standing-totalled apart bit_or 0 c.in-Some.ensures.some c.compare_blocks.ensures
