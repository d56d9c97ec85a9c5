-- A stage is done by several crates side by side: each takes calls by size and number of lines, and leaves every other call alone.
-- Cited by the contracts of their `itxb0` and `itxb1`. Assumes nothing.
use Rattle.std.specs.Prelude.{Bool, cond, ◌&&◌, List, ℕ, ◌≤◌, leb, eqb, length, ℤ}
use Rattle.evc.specs.Tests.{samples_of}
use Rattle.evc.specs.Stages.{stage_one_number, stage_two_number, itxb0_exit, itxb1_exit}

-- a call of size 2^logn on 2^logl lines, with that refusal number (0: accepted), is one that a crate takes which does sizes
-- 2^lo .. 2^hi of 2^least lines or more
unfoldable pub takes : ℕ → ℕ → ℕ → ℕ → ℕ → ℕ → Bool
takes lo hi least logn logl number = leb lo logn && (leb logn hi && (leb least logl && eqb number 0))

-- ---- stage one, on an input src and an output dst
abbrev pub takes_one : ℕ → ℕ → ℕ → ℕ → ℕ → List ℤ → List ℤ → Bool
takes_one lo hi least logn logl src dst = takes lo hi least logn logl (stage_one_number (length src) (length dst) logn logl)

-- what the output holds at the end: the stage where the call was done, and else what it held
abbrev pub done_one : Bool → ℕ → ℕ → List ℤ → List ℤ → List ℤ
done_one did logn logl src dst = cond did (itxb0_exit logn logl src dst) dst

-- ---- stage two
abbrev pub takes_two : ℕ → ℕ → ℕ → ℕ → ℕ → ℕ → List ℤ → List ℤ → Bool
takes_two lo hi least logn logl shift src dst = takes lo hi least logn logl (stage_two_number (length src) (length dst) logn logl shift)

abbrev pub done_two : Bool → ℕ → ℕ → ℕ → List ℤ → List ℤ → List ℤ
done_two did logn logl shift src dst = cond did (itxb1_exit logn logl shift src dst) dst

-- ---- what the code of a call that is taken knows
pub record Call (lo hi least n m logn logl shift : ℕ) : Type 0 where
  pub size-least : lo ≤ logn
  pub size-most : logn ≤ hi
  pub size-table : logn ≤ 6
  pub line-least : least ≤ logl
  pub line-most : logl ≤ 6
  pub shift-most : shift ≤ 31
  pub src-room : samples_of logn logl ≤ n
  pub dst-room : samples_of logn logl ≤ m
