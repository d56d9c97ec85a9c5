-- `itx_table::whole::table` meets its contract: the numbers are written out on both sides. Assumes nothing.
use Rattle.itx_table.proofs.Stored.{stored}
use Rattle.itx_table.proofs.Rule.{stored-flat}
use Rattle.itx_table.proofs.whole.table.Goals as goal

pub returns : goal.returns
unfolding stored
returns c = stored-flat
