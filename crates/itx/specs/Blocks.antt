-- A block that both stages take, and what they make of it, as the laws of a job speak of it. Assumes nothing.
use Rattle.std.specs.Prelude.{ℕ, ◌^◌, ◌≤◌, ◌≡◌, List, ℤ}
use Rattle.evc.specs.Tests.{samples_of}
use Rattle.evc.specs.Table.{tm}
use Rattle.evc.specs.Stages.{stage_one_out, stage_two_out}

-- n samples, with sides of 2 to 64, and a shift that stage two takes
pub record TwoStageBlock (n logw logh shift : ℕ) : Type 0 where
  pub w1 : 1 ≤ logw
  pub w6 : logw ≤ 6
  pub h1 : 1 ≤ logh
  pub h6 : logh ≤ 6
  pub s31 : shift ≤ 31
  pub long : n ≡ samples_of logw logh

-- stage one has the size height and width lines, stage two the size width and height lines
unfoldable pub two_stages : ℕ → ℕ → ℕ → List ℤ → List ℤ
two_stages logw logh shift l =
    stage_two_out (tm (2 ^ logw)) (2 ^ logw) (2 ^ logh) shift (stage_one_out (tm (2 ^ logh)) (2 ^ logh) (2 ^ logw) l)
