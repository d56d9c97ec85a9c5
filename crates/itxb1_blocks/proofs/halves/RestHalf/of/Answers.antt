-- `itxb1_blocks::halves::RestHalf::of` meets its contract: each number on the way fits, by the laws of the halves. Assumes nothing.
use mathlib.Core.Path.{◌≡◌, sym, ap, ap₂, ◌∙◌, subst}
use lib.IntN.{ℤ, pos, ◌-ℤ◌, ◌*ℤ◌}
use lib.Signed.{shr_z}
use mir.Syntax.{w16, w32}
use mir.Val.{SFits, to_z, of_z}
use mir.Facts.{to_z-of_z}
use Rattle.integers.proofs.Bound.{within-sfits, sfits-within}
use Rattle.itxb1_blocks.specs.Halves.{upper, rest}
use Rattle.itxb1_blocks.proofs.Parts.{upper_fits, scaled_fits, residue-fits, rest-fits, shifted}
use Rattle.itxb1_blocks.proofs.halves.RestHalf.of.Goals.{Start}
use Rattle.itxb1_blocks.proofs.halves.RestHalf.of.Goals as goal

module _ (c : Start) where
  abbrev x : ℤ
  x = c.args.v

  -- the code's numbers: 65536 times the upper half, what is left, and that less 32768
  abbrev up : ℤ
  up = to_z w32 (of_z w32 (shr_z (to_z w32 (of_z w32 x)) 65536))

  abbrev half : ℤ
  half = to_z w32 (of_z w32 (up *ℤ pos 65536))

  abbrev left : ℤ
  left = to_z w32 (of_z w32 (to_z w32 (of_z w32 x) -ℤ half))

  scaled : half ≡ upper x *ℤ pos 65536
  scaled = ap (λ (z : ℤ). to_z w32 (of_z w32 (z *ℤ pos 65536))) (shifted x c.ranges.v) ∙ to_z-of_z (scaled_fits (upper x) (upper_fits x c.ranges.v))

  residue : left ≡ x -ℤ upper x *ℤ pos 65536
  residue = ap₂ (λ (y z : ℤ). to_z w32 (of_z w32 (y -ℤ z))) (to_z-of_z c.ranges.v) scaled ∙ to_z-of_z (residue-fits x)

  less : left -ℤ pos 32768 ≡ rest x
  unfolding rest upper
  less = ap (λ (z : ℤ). z -ℤ pos 32768) residue

  low_fits : SFits w32 (rest x)
  low_fits = sfits-within (within-sfits (rest-fits x)) tt

  lowered : to_z w32 (of_z w32 (left -ℤ pos 32768)) ≡ rest x
  lowered = ap (λ (z : ℤ). to_z w32 (of_z w32 z)) less ∙ to_z-of_z low_fits

pub overflow_mul-result : goal.overflow_mul-result
overflow_mul-result c = subst (SFits w32) (sym (ap (λ (z : ℤ). z *ℤ pos 65536) (shifted (x c) c.ranges.v))) (scaled_fits (upper (x c)) (upper_fits (x c) c.ranges.v))

pub overflow_sub-result : goal.overflow_sub-result
overflow_sub-result c = subst (SFits w32) (sym (ap₂ ◌-ℤ◌ (to_z-of_z c.ranges.v) (scaled c))) (residue-fits (x c))

pub overflow_sub-result-2 : goal.overflow_sub-result-2
overflow_sub-result-2 c = subst (SFits w32) (sym (less c)) (low_fits c)

pub overflow_cast-result : goal.overflow_cast-result
overflow_cast-result c = subst (SFits w16) (sym (lowered c)) (rest-fits (x c))

pub returns : goal.returns
returns c = ap (λ (z : ℤ). to_z w16 (of_z w16 z)) (lowered c) ∙ to_z-of_z (rest-fits (x c))
