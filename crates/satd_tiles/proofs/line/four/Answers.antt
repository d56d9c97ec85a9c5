-- `satd_tiles::line::four` meets its contract: each local is an expression of the line's numbers. That none wraps is a test of bounds, that the
-- results are the coefficients one of normal forms. Assumes nothing.
use Rattle.std.proofs.Common.{List, [], ◌∷◌, ℤ, map}
use lib.Count.{ones, ones_in}
use lib.IntN.{pow, one}
use mir.Syntax.{w32}
use Rattle.integers.proofs.Expr.{Ex, var, add, sub, stored}
use Rattle.evc.specs.Tiles.{sign}
use Rattle.satd_tiles.proofs.Lines.{fits, line-is}
use Rattle.satd_tiles.proofs.line.four.Goals.{Start}
use Rattle.satd_tiles.proofs.line.four.Goals as goal

abbrev a0 : Ex
a0 = add (var 0) (var 2)

abbrev a1 : Ex
a1 = add (var 1) (var 3)

abbrev a2 : Ex
a2 = sub (var 0) (var 2)

abbrev a3 : Ex
a3 = sub (var 1) (var 3)

abbrev results : List Ex
results = map (stored w32) (add a0 a1 ∷ sub a0 a1 ∷ add a2 a3 ∷ sub a2 a3 ∷ [])

abbrev input : Start → List ℤ
input s = s.args.x0 ∷ s.args.x1 ∷ s.args.x2 ∷ s.args.x3 ∷ []

pub overflow_add-a0 : goal.overflow_add-a0
overflow_add-a0 c = fits (input c) c.requires a0 tt

pub overflow_add-a1 : goal.overflow_add-a1
overflow_add-a1 c = fits (input c) c.requires a1 tt

pub overflow_sub-a2 : goal.overflow_sub-a2
overflow_sub-a2 c = fits (input c) c.requires a2 tt

pub overflow_sub-a3 : goal.overflow_sub-a3
overflow_sub-a3 c = fits (input c) c.requires a3 tt

pub overflow_add-result : goal.overflow_add-result
overflow_add-result c = fits (input c) c.requires (add a0 a1) tt

pub overflow_sub-result : goal.overflow_sub-result
overflow_sub-result c = fits (input c) c.requires (sub a0 a1) tt

pub overflow_add-result-2 : goal.overflow_add-result-2
overflow_add-result-2 c = fits (input c) c.requires (add a2 a3) tt

pub overflow_sub-result-2 : goal.overflow_sub-result-2
overflow_sub-result-2 c = fits (input c) c.requires (sub a2 a3) tt

pub returns : goal.returns
unfolding sign ones ones_in pow one
returns c = line-is (input c) c.requires results tt tt
