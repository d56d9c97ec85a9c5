-- `satd_tiles::line::two` meets its contract: each result is an expression of the line's numbers. That none wraps is a test of bounds, that the
-- results are the coefficients one of normal forms. Assumes nothing.
use Rattle.std.proofs.Common.{List, [], ◌∷◌, ℤ, map}
use lib.Count.{ones, ones_in}
use lib.IntN.{pow, one}
use mir.Syntax.{w32}
use Rattle.integers.proofs.Expr.{Ex, var, add, sub, stored}
use Rattle.evc.specs.Tiles.{sign}
use Rattle.satd_tiles.proofs.Lines.{fits, line-is}
use Rattle.satd_tiles.proofs.line.two.Goals.{Start}
use Rattle.satd_tiles.proofs.line.two.Goals as goal

abbrev results : List Ex
results = map (stored w32) (add (var 0) (var 1) ∷ sub (var 0) (var 1) ∷ [])

abbrev input : Start → List ℤ
input s = s.args.x0 ∷ s.args.x1 ∷ []

pub overflow_add-result : goal.overflow_add-result
overflow_add-result c = fits (input c) c.requires (add (var 0) (var 1)) tt

pub overflow_sub-result : goal.overflow_sub-result
overflow_sub-result c = fits (input c) c.requires (sub (var 0) (var 1)) tt

pub returns : goal.returns
unfolding sign ones ones_in pow one
returns c = line-is (input c) c.requires results tt tt
