-- `integers::clip16` meets its contract: a clip is the minimum of a maximum, and what is clipped fits. Assumes nothing.
use mathlib.Core.Path.{◌≡◌, sym, ap, ◌∙◌, subst}
use lib.IntN.{pos, negsuc}
use lib.Signed.{le_z_yes}
use mir.Syntax.{w16, w64}
use mir.Val.{SFits}
use mir.Facts.{to_z-of_z}
use Rattle.integers.specs.Z.{min_z, clip16}
use Rattle.integers.proofs.Bits.{back}
use Rattle.integers.proofs.Clip.{clip-minmax, clip16-fits}
use Rattle.integers.proofs.clip16.Goals as goal

clipped : (c : goal.After-min_i64) → c.min_i64.result ≡ clip16 c.args.x
clipped c =
    let f = c.ranges.x in
    let g : SFits w64 c.max_i64.result = record { sfits = c.max_i64.type_inv } in
    simp to_z-of_z at c.min_i64.ensures ∙ ap (min_z (pos 32767)) (simp to_z-of_z at c.max_i64.ensures)
    ∙ clip-minmax (negsuc 32767) (pos 32767) c.args.x (le_z_yes tt)

fits : (c : goal.After-min_i64) → SFits w16 c.min_i64.result
fits c = subst (SFits w16) (sym (clipped c)) (clip16-fits c.args.x)

pub overflow_cast-result : goal.overflow_cast-result
overflow_cast-result c = rw (back w64 c.min_i64.result c.min_i64.type_inv) (fits c)

pub returns : goal.returns
returns c = rw (back w64 c.min_i64.result c.min_i64.type_inv) (to_z-of_z (fits c) ∙ clipped c)
