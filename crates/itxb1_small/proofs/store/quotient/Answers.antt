-- `itxb1_small::store::quotient` meets its contract: clipped, or with nothing left to clip. Assumes nothing.
use mathlib.Core.Path.{◌≡◌, sym, ap, ◌∙◌}
use Prim.Native.Nat.{◌^◌, ◌≤◌}
use native.Mathlib.Omega.{arith}
use lib.IntN.{ℤ}
use lib.Signed.{shr_z}
use mir.Syntax.{w32, w64}
use mir.Val.{SFits, to_z, of_z}
use mir.Facts.{to_z-of_z}
use Rattle.integers.specs.Z.{floor_pow, clip32}
use Rattle.integers.proofs.Bound.{sfits_shr}
use Rattle.integers.proofs.Clip.{clip32-id}
use Rattle.itxb1_small.proofs.Quotients.{quotient_fits}
use Rattle.integers.proofs.Bits.{back}
use Rattle.itxb1_small.proofs.store.quotient.Goals.{Start}
use Rattle.itxb1_small.proofs.store.quotient.Goals as goal

-- what the code shifts, and what is left, as the definition has it
module _ (s : Start) where
  abbrev left : ℤ
  left = shr_z (to_z w64 (of_z w64 s.args.v)) (2 ^ s.args.shift)

  is : to_z w64 (of_z w64 left) ≡ floor_pow s.args.v s.args.shift
  is =
      ap (λ (z : ℤ). to_z w64 (of_z w64 (shr_z z (2 ^ s.args.shift)))) (to_z-of_z s.ranges.v)
      ∙ to_z-of_z (sfits_shr (2 ^ s.args.shift) s.ranges.v)

  fits : 11 ≤ s.args.shift → SFits w32 (floor_pow s.args.v s.args.shift)
  fits h = quotient_fits s.args.v s.args.shift h s.requires.1

pub returns-then-shift-lt11 : goal.returns-then-shift-lt11
returns-then-shift-lt11 c = back w32 c.clip32.result c.clip32.type_inv ∙ c.clip32.ensures ∙ ap clip32 (is (goal.at.returns-then-shift-lt11 c).Start)

pub overflow_cast-result : goal.overflow_cast-result
overflow_cast-result c = rw (is (goal.at.overflow_cast-result c).Start) (fits (goal.at.overflow_cast-result c).Start (omega arith))

pub returns : goal.returns
returns c =
    ap (λ (z : ℤ). to_z w32 (of_z w32 z)) (is (goal.at.returns c).Start) ∙ to_z-of_z (fits (goal.at.returns c).Start (omega arith)) ∙ sym (clip32-id _ (fits (goal.at.returns c).Start (omega arith)))
