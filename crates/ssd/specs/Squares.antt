-- What SSD adds up: squared differences. Cited by the contracts of src/rows.rt and src/edges.rt. Assumes nothing.
use Rattle.std.specs.Prelude.{ℕ, ◌*◌, ◌-◌, ◌/◌, ◌%◌, ◌^◌}
use Rattle.block_rows.specs.Totals.{apart}

-- how far two samples are apart, squared and divided by 2^shift
unfoldable pub squared : ℕ → ℕ → ℕ → ℕ
squared shift p q = apart p q * apart p q / 2 ^ shift

-- of two samples that are first cut to as many bits as the depth has, so that 32 bits hold a row's sum. Where the OR of all samples is below the
-- depth's limit nothing was cut
unfoldable pub squared_low : ℕ → ℕ → ℕ → ℕ
squared_low depth p q = squared (2 * (depth - 8)) (p % 2 ^ depth) (q % 2 ^ depth)
