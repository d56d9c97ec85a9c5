-- `block_rows::edges::sample` meets its contract. Assumes nothing.
use mathlib.Core.Path.{sym}
use native.Mathlib.Omega.{arith}
use lib.ListN.{get_or-eq_default}
use Rattle.block_rows.proofs.edges.sample.Goals as goal

pub returns-else-at-row : goal.returns-else-at-row
returns-else-at-row c = sym (get_or-eq_default c.args.row.now 0 {n = c.args.at} (omega arith))
