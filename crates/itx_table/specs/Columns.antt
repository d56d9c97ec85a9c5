-- What a line of inputs that are all 32768 gives. Document 01, "The transform tables". Assumes nothing.
use Rattle.std.specs.Prelude.{ℕ, ℤ, pos, ◌*ℤ◌}
use Rattle.integers.specs.Sum.{sum_z}
use Rattle.evc.specs.Table.{tm}

-- 32768 times the sum of column n of size N
unfoldable pub column : ℕ → ℕ → ℤ
column N n = pos 32768 *ℤ sum_z N (λ k. tm N k n)
