-- A call of the stage that neither `itxb1_small` nor `itx_lines` did is refused, and leaves its output as it was. Assumes nothing.
use mathlib.Core.Path.{◌≡◌}
use mathlib.Core.Bool.{false}
use mathlib.Core.List.{List}
use Prim.Native.Nat.{ℕ, ◌≤◌}
use lib.ListN.{length}
use lib.IntN.{ℤ}
use Rattle.evc.specs.Stages.{stage_two_tests, stage_two_number, stage_two_exit, itxb1_exit}
use Rattle.evc.proofs.Tests.{unbroken, outside-no}
use Rattle.itx_halving.specs.Taken.{takes_two}
use Rattle.itx_halving.proofs.Nobody.{refused, nobody}

module _ (a b : ℕ) (src dst : List ℤ) where
  two-sizes : (shift : ℕ) → stage_two_number (length src) (length dst) a b shift ≡ 0 → (1 ≤ a) × (a ≤ 6)
  unfolding stage_two_number
  two-sizes shift e = outside-no 1 6 a (unbroken (stage_two_tests (length src) (length dst) a b shift) e).0

  pub two-nobody : (shift : ℕ) → takes_two 1 3 0 a b shift src dst ≡ false → takes_two 4 6 0 a b shift src dst ≡ false → dst ≡ itxb1_exit a b shift src dst
  unfolding stage_two_exit
  two-nobody shift s l = refused _ _ _ (nobody a b _ (two-sizes shift) s l)
