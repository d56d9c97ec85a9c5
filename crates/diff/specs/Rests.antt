-- What is left of a call of DIFF once its sides, its depth and its areas are tested. Cited by the contracts of src/diff.rt. Assumes nothing.
use Rattle.std.specs.Prelude.{ℕ, ◌*◌, List, ◌≡◌, ℤ}
use Rattle.integers.specs.Lists.{written}
use Rattle.order.specs.Jobs.{if_accepted}
use Rattle.evc.specs.Tests.{first}
use Rattle.evc.specs.Planes.{Block}
use Rattle.evc.specs.Differences.{difference, diff_at}
use Rattle.evc.specs.Calls.{tests_of_samples}

-- SAMPLE's number or 0, and the buffer l with the differences in its first places where that is 0
pub record Differed (w h : ℕ) (a b : Block) (l : List ℤ) (number : ℕ) (exit : List ℤ) : Type 0 where
  pub answer : number ≡ first (tests_of_samples w h a b)
  pub buffer : exit ≡ if_accepted number (written (h * w) (diff_at w (difference a b)) l) l
