-- The column sums: a list of n stored numbers is what specs/Columns.antt says, by ONE test that antt computes; and a bound on each of them.
-- Assumes nothing.
use mathlib.Core.Path.{◌≡◌}
use mathlib.Core.Bool.{Bool}
use mathlib.Core.List.{List}
use Prim.Native.Nat.{ℕ, ◌*◌, ◌/◌}
use native.Mathlib.Omega.{arith}
use lib.Dec.{T}
use lib.ListN.{length}
use lib.IntN.{ℤ, pos}
use Rattle.integers.specs.Lists.{tab}
use Rattle.integers.proofs.Every.{every, at, eq_z, eq_z→eq}
use Rattle.integers.proofs.Written.{is-tab}
use Rattle.integers.proofs.Bound.{Within, within-mul, within-const}
use Rattle.integers.proofs.Sum.{within-sum}
use Rattle.itx_table.specs.Columns.{column}
use Rattle.itx_table.proofs.Rule.{tm64-within}

unfoldable pub right : ℕ → ℕ → ℤ → Bool
right N n z = eq_z z (column N n)

pub columns-right : (N : ℕ) (l : List ℤ) → length l ≡ N → T (every (right N) 0 l) → l ≡ tab N (column N)
unfolding right
columns-right N l e t = is-tab N (column N) l (pos 0) e (λ i h. eq_z→eq _ _ (at (right N) l t i (omega arith)))

pub column-within : (N n : ℕ) → Within (32768 * (N * 90)) (column N n)
unfolding column
column-within N n = within-mul {m = 32768} {n = N * 90} (within-const (pos 32768)) (within-sum N 90 _ (λ k h. record { bound = tm64-within (k * (64 / N)) n }))
