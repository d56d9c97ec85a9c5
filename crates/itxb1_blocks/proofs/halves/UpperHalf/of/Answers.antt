-- `itxb1_blocks::halves::UpperHalf::of` meets its contract. Assumes nothing.
use mathlib.Core.Path.{sym, ap, ◌∙◌, subst}
use lib.IntN.{ℤ}
use mir.Syntax.{w16}
use mir.Val.{SFits, to_z, of_z}
use mir.Facts.{to_z-of_z}
use Rattle.itxb1_blocks.proofs.Parts.{upper_fits, shifted}
use Rattle.itxb1_blocks.proofs.halves.UpperHalf.of.Goals as goal

pub overflow_cast-result : goal.overflow_cast-result
overflow_cast-result c = subst (SFits w16) (sym (shifted c.args.v c.ranges.v)) (upper_fits c.args.v c.ranges.v)

pub returns : goal.returns
returns c = ap (λ (z : ℤ). to_z w16 (of_z w16 z)) (shifted c.args.v c.ranges.v) ∙ to_z-of_z (upper_fits c.args.v c.ranges.v)
