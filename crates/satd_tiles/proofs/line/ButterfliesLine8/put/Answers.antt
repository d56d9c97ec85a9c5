-- The `put` of `satd_tiles::line::Butterflies` at 8 meets its contract: the numbers handed on are the line's, and those that are put are its
-- coefficients. Assumes nothing.
use Rattle.std.proofs.Common.{◌≡◌, ℤ, List, [], ◌∷◌, refl, ap, ◌∙◌}
use mir.Syntax.{w32}
use Rattle.integers.specs.Lists.{tab}
use Rattle.integers.specs.Sum.{sum}
use Rattle.integers.proofs.Expr.{Ex, var, small, reads_all}
use Rattle.satd_tiles.specs.Passes.{place, puts, line, whole_line}
use Rattle.satd_tiles.proofs.Lines.{whole-within}
use Rattle.satd_tiles.proofs.line.ButterfliesLine8.put.Goals as goal

abbrev places : List Ex
places = var 0 ∷ var 1 ∷ var 2 ∷ var 3 ∷ var 4 ∷ var 5 ∷ var 6 ∷ var 7 ∷ []

numbers : List ℤ → List ℤ
numbers x = place x 0 ∷ place x 1 ∷ place x 2 ∷ place x 3 ∷ place x 4 ∷ place x 5 ∷ place x 6 ∷ place x 7 ∷ []

of_numbers : (x : List ℤ) → whole_line 8 (numbers x) ≡ whole_line 8 x
unfolding numbers whole_line line tab sum
of_numbers x = refl

numbers_of : (x : List ℤ) → numbers (whole_line 8 x) ≡ whole_line 8 x
unfolding numbers whole_line tab
numbers_of x = refl

pub returns : goal.returns
unfolding numbers
returns c =
    let x = c.args.x in
    let e =
    c.eight.ensures ∙ ap (whole_line 8) (reads_all (λ k. small w32 (place x k) 262144 (record { bound = c.requires.within k }) tt) places tt)
    ∙ of_numbers x in
    let f =
    reads_all (λ k. small w32 (place c.eight.result k) 2097152 (record { bound = rw e (whole-within 262144 8 x c.requires.within k) }) tt) places tt in
    ap (λ (l : List ℤ). puts (place l) c.args.j c.args.out.now 8) (f ∙ ap numbers e ∙ numbers_of x)
