-- The 64 by 64 table as `table` hands it out. Document 01, "The transform tables". Assumes nothing.
use Rattle.std.specs.Prelude.{◌/◌, ◌%◌, List, ℤ}
use Rattle.integers.specs.Lists.{tab}
use Rattle.evc.specs.Table.{tm64}

-- row after row, each of 64 numbers
unfoldable pub flat : List ℤ
flat = tab 4096 (λ i. tm64 (i / 64) (i % 64))
