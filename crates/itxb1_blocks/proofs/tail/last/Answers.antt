-- `itxb1_blocks::tail::last` meets its contract: no number on the way leaves 64 bits. Assumes nothing.
use mathlib.Core.Path.{ap, ◌∙◌}
use mathlib.Core.List.{[], ◌∷◌}
use Prim.Native.Nat.{ℕ}
use lib.IntN.{pos}
use mir.Syntax.{w16, w32, w64}
use Rattle.integers.specs.Z.{clip16}
use Rattle.integers.proofs.Expr.{Ex, var, lit, add, mul, shr, loc, Known, arg, small, env, fit, reads}
use Rattle.itxb1_blocks.specs.Halves.{joined}
use Rattle.integers.proofs.Bits.{back}
use Rattle.itxb1_blocks.proofs.tail.last.Goals.{Start}
use Rattle.itxb1_blocks.proofs.tail.last.Goals as goal

abbrev known : Start → ℕ → Known
known s =
    env (
    arg w32 s.args.h s.ranges.h ∷ arg w32 s.args.a s.ranges.a ∷ small w64 s.args.c 4294967296 (record { bound = s.requires.1 }) tt
    ∷ []
    )

-- 65536 · h, and a added to it
abbrev scaled : Ex
scaled = mul (loc w64 (var 0)) (lit (pos 65536))

abbrev both : Ex
both = add (loc w64 scaled) (loc w64 (var 1))

pub overflow_cast-h : goal.overflow_cast-h
overflow_cast-h c = fit (known c) w64 (var 0) tt

pub overflow_mul-h : goal.overflow_mul-h
overflow_mul-h c = fit (known c) w64 scaled tt

pub overflow_cast-a : goal.overflow_cast-a
overflow_cast-a c = fit (known c) w64 (var 1) tt

pub overflow_add-h : goal.overflow_add-h
overflow_add-h c = fit (known c) w64 both tt

pub overflow_add-h-2 : goal.overflow_add-h-2
overflow_add-h-2 c = fit (known c) w64 (add (loc w64 both) (var 2)) tt

pub returns : goal.returns
unfolding joined
returns c =
    back w16 c.clip16.result c.clip16.type_inv ∙ c.clip16.ensures
    ∙ ap clip16 (reads (known (goal.at.returns c).Start) (loc w64 (shr (loc w64 (add (loc w64 both) (var 2))) c.args.shift)) tt)
