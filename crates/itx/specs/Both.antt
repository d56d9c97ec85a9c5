-- Both stages on one area, as the calls of the stages leave it. Document 01, "The two stages". Assumes nothing.
use Rattle.std.specs.Prelude.{ℕ, cond, List, ltb, ℤ, pos, length, replicate}
use Rattle.evc.specs.Stages.{itxb0_exit, itxb1_exit}

-- stage one into a block of as many zeros, and stage two back. Stage one has the size height and width lines, stage two the size width and height
-- lines; a stage that refuses leaves what it would write
unfoldable pub through : ℕ → ℕ → ℕ → List ℤ → List ℤ
through logw logh shift l = itxb1_exit logw logh shift (itxb0_exit logh logw l (replicate (length l) (pos 0))) l

-- the same of at most 4,096 samples; more are left as they are
unfoldable pub both_exit : ℕ → ℕ → ℕ → List ℤ → List ℤ
both_exit logw logh shift l = cond (ltb 4096 (length l)) l (through logw logh shift l)
