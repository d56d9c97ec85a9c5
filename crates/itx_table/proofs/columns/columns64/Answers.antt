-- `itx_table::columns::columns64` meets its contract: the numbers pass the test. Assumes nothing.
use mathlib.Core.Path.{refl}
use Rattle.integers.specs.Sum.{sum}
use Rattle.evc.specs.Table.{tm64}
use Rattle.itx_table.specs.Columns.{column}
use Rattle.itx_table.proofs.ColumnSums.{right, columns-right}
use Rattle.itx_table.proofs.columns.columns64.Goals as goal

pub returns : goal.returns
unfolding right column sum tm64
returns c = columns-right 64 _ refl tt
