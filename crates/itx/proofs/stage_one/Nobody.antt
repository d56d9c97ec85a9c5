-- A call of the stage that neither `itxb0_small` nor `itx_lines` did is refused, and leaves its output as it was. Assumes nothing.
use mathlib.Core.Path.{◌≡◌}
use mathlib.Core.Bool.{false}
use mathlib.Core.List.{List}
use Prim.Native.Nat.{ℕ, ◌≤◌}
use lib.ListN.{length}
use lib.IntN.{ℤ}
use Rattle.evc.specs.Stages.{stage_one_tests, stage_one_number, stage_one_exit, itxb0_exit}
use Rattle.evc.proofs.Tests.{unbroken, outside-no}
use Rattle.itx_halving.specs.Taken.{takes_one}
use Rattle.itx_halving.proofs.Nobody.{refused, nobody}

module _ (a b : ℕ) (src dst : List ℤ) where
  one-sizes : stage_one_number (length src) (length dst) a b ≡ 0 → (1 ≤ a) × (a ≤ 6)
  unfolding stage_one_number
  one-sizes e = outside-no 1 6 a (unbroken (stage_one_tests (length src) (length dst) a b) e).0

  pub one-nobody : takes_one 1 3 0 a b src dst ≡ false → takes_one 4 6 0 a b src dst ≡ false → dst ≡ itxb0_exit a b src dst
  unfolding stage_one_exit
  one-nobody s l = refused _ _ _ (nobody a b _ one-sizes s l)
