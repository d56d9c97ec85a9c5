-- Blocks whose rows stand a stride apart in their buffer, from a start on, and what is left of a call once its sides, its depth and its
-- areas are tested. Cited by the contracts of the crates that compare blocks. Assumes nothing.
use Rattle.std.specs.Prelude.{ℕ, ◌+◌, ◌*◌, ◌≤◌, false, List, pos, get_or}
use Rattle.order.specs.Positions.{reach}
use Rattle.evc.specs.Answers.{Reply}
use Rattle.evc.specs.Tests.{first, reply}
use Rattle.evc.specs.Planes.{Block, is_too_large}
use Rattle.evc.specs.Calls.{tests_of_samples}

-- the value in row j, column i
unfoldable pub cell : {A : Type 0} → A → List A → ℕ → ℕ → ℕ → ℕ → A
cell d l start stride j i = get_or l (start + j * stride + i) d

-- two blocks of w by h lie inside buffers of m and n values
pub record TwoBlocks (w h m start stride n start' stride' : ℕ) : Type 0 where
  pub narrow : w ≤ 64
  pub low : h ≤ 64
  pub one : reach start w stride h ≤ m
  pub two : reach start' w stride' h ≤ n

-- samples whose rows stand a stride apart in a buffer that is long enough
abbrev pub strided : List ℕ → ℕ → ℕ → ℕ → Block
strided l start stride depth = record { area = false; reads = λ j i. pos (cell 0 l start stride j i); bad = is_too_large depth }

-- SAMPLE where a value of either block is bad, else the value v
unfoldable pub rest : {A : Type 0} → ℕ → ℕ → Block → Block → A → Reply A
rest w h a b v = reply (first (tests_of_samples w h a b)) v
