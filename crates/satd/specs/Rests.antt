-- What is left of a call of SATD once its sides, its depth and its areas are tested. Cited by the contracts of src/satd.rt. Assumes nothing.
use Rattle.std.specs.Prelude.{ℕ, ◌-◌, ◌/◌, ◌^◌}
use Rattle.evc.specs.Answers.{Reply}
use Rattle.evc.specs.Planes.{Block}
use Rattle.evc.specs.Differences.{difference}
use Rattle.evc.specs.Tiles.{tile_side, satd_total}
use Rattle.plane_tests.specs.Blocks.{rest}

abbrev pub satd_left : ℕ → ℕ → ℕ → Block → Block → Reply ℕ
satd_left w h depth a b = rest w h a b (satd_total (tile_side w h) w h (difference a b) / 2 ^ (depth - 8))
