-- Document 01's numbers 1 to 9 hold of the definitions, each by computing it. Assumes nothing.
use mathlib.Core.Path.{refl}
use lib.IntN.{pow, one}
use lib.Count.{ones, ones_in}
use Rattle.integers.specs.Sum.{sum}
use Rattle.integers.specs.Lists.{tab, written}
use Rattle.evc.specs.Table.{tm64}
use Rattle.evc.specs.Dequantizer.{scale, scale_reply, dequantized}
use Rattle.evc.specs.Stages.{product, stage_one_at, stage_two_at, stage_one_number, stage_two_number, stage_one_exit, stage_two_exit}
use Rattle.evc.specs.Jobs.{job_number, block, job_exit}
use Rattle.evc.specs.Differences.{sad_total, ssd_total}
use Rattle.evc.specs.Tiles.{sign, coefficient, tile_sum, tile_number, tile_side, satd_total}
use Rattle.evc.specs.Calls.{sad_reply, ssd_reply, satd_reply}
use Rattle.evc.specs.Numbers.{Numbers}

pub numbers : Numbers
unfolding pow one ones ones_in sum tab written tm64 scale scale_reply dequantized product stage_one_at stage_two_at stage_one_number stage_two_number stage_one_exit
    stage_two_exit job_number block job_exit sad_total ssd_total sign coefficient tile_sum tile_number tile_side satd_total sad_reply ssd_reply satd_reply
numbers =
    record {
      n1-63 = refl;
      n1-51 = refl;
      n1-64 = refl;
      n2-floor = refl;
      n2-clip = refl;
      n3 = refl;
      n4 = refl;
      n5-floor = refl;
      n5-half = refl;
      n5-clip = refl;
      n6-answer = refl;
      n6-samples = refl;
      n7-8x8 = refl;
      n7-4x4 = refl;
      n7-2x2 = refl;
      n7-8x4 = refl;
      n8-8x8 = refl;
      n8-4x4 = refl;
      n8-2x2 = refl;
      n9-ssd-3 = refl;
      n9-sad-3 = refl;
      n9-ssd-4 = refl;
    }
