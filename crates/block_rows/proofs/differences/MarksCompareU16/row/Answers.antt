-- `block_rows::differences::Marks::row` meets its contract. Assumes nothing.
use Rattle.std.proofs.Common.{◌≡◌, ℕ, zero, suc, refl, length, arith}
use Rattle.integers.specs.Sum.{sum, sum_n}
use Rattle.block_rows.proofs.differences.MarksCompareU16.row.Goals as goal

-- nothing, added often
nothing : (n : ℕ) → 0 ≡ sum_n n (λ i. 0)
unfolding sum
nothing zero = refl
nothing (suc n) = omega (arith, nothing n)

pub returns : goal.returns
returns c = record { total = nothing (length c.args.rows.a.now); marks = c.any_row.ensures; most = omega arith }
