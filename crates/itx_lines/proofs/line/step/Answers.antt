-- `itx_lines::line::step` meets its contract: the sum and the difference of the halves. Assumes nothing.
use mathlib.Core.Path.{◌≡◌, sym, ap₂, ◌∙◌, subst}
use mathlib.Core.List.{[], ◌∷◌}
use Prim.Native.Nat.{ℕ, suc, ◌+◌, ◌*◌, ◌-◌, ◌<◌}
use native.Mathlib.Omega.{arith}
use lib.ListN.{length, get_or, length-set}
use lib.IntN.{ℤ, pos, ◌+ℤ◌, ◌-ℤ◌}
use mir.Syntax.{w64}
use Rattle.integers.proofs.Bound.{Within}
use Rattle.integers.proofs.Expr.{var, add, sub, loc, Known, small, env, fit, reads}
use Rattle.itx_halving.specs.Line.{rows, line, dot, odd, Level}
use Rattle.itx_halving.proofs.Bounds.{half-size, odd-bound, even-bound}
use Rattle.itx_halving.proofs.Step.{place, more}
use Rattle.itx_lines.proofs.line.step.Goals.{After-v-1, Start}
use Rattle.itx_lines.proofs.line.step.Goals as goal

-- a place of the level is one of the buffer
inside : (c : Start) (i : ℕ) → i < c.args.m + c.args.m → i < length c.args.e.now
inside c i h = omega (arith, place c.args.m c.args.q c.requires.0.level.stride i h, c.requires.0.part.long)

module _ (c : After-v-1) where
  abbrev g : Level c.args.t.now c.args.w c.args.x.now c.args.m c.args.q
  g = c.requires.0.level

  -- the two halves at place n, as the code has them and as they are
  abbrev v : ℤ
  v = get_or c.args.e.now c.args.n (pos 0)

  abbrev o : ℤ
  o = c.odd_sum-o.result

  abbrev E : ℤ
  E = dot (rows c.args.t.now c.args.w) (c.args.q + c.args.q) c.args.m c.args.n (line c.args.x.now)

  abbrev O : ℤ
  O = odd (rows c.args.t.now c.args.w) c.args.q c.args.m c.args.n (line c.args.x.now)

  v-is : v ≡ E
  v-is = c.requires.0.part.rest c.args.n (omega arith) c.requires.1

  o_is : o ≡ O
  o_is = c.odd_sum-o.ensures

  abbrev known : ℕ → Known
  known =
      env (
      small w64 v 8796093022208 (subst (Within 8796093022208) (sym v-is) (even-bound g c.args.n c.requires.1)) tt
      ∷ small w64 o 8796093022208 (subst (Within 8796093022208) (sym o_is) (odd-bound g c.args.n c.requires.1)) tt
      ∷ []
      )

pub odd_sum-o-requires : goal.odd_sum-o-requires
odd_sum-o-requires c = (c.requires.0.level, c.requires.1)

pub offset_bounds-e-n : goal.offset_bounds-e-n
offset_bounds-e-n c = omega (arith, half-size c.requires.0.level)

pub slice_copy_out-v : goal.slice_copy_out-v
slice_copy_out-v c = inside (goal.at.slice_copy_out-v c).Start c.args.n (omega (arith, c.requires.1))

pub overflow_add-e : goal.overflow_add-e
overflow_add-e c = fit (known c) w64 (add (var 0) (var 1)) tt

pub offset_bounds-e-n-2 : goal.offset_bounds-e-n-2
offset_bounds-e-n-2 c = omega (arith, half-size (g c))

pub bounds-e-n : goal.bounds-e-n
bounds-e-n c = inside (goal.at.bounds-e-n c).Start c.args.n (omega (arith, c.requires.1))

pub overflow_sub-e : goal.overflow_sub-e
overflow_sub-e c = fit (known c) w64 (sub (var 0) (var 1)) tt

pub overflow_mul-m : goal.overflow_mul-m
overflow_mul-m c = omega (arith, half-size (g c))

pub overflow_sub-m : goal.overflow_sub-m
overflow_sub-m c = omega (arith, half-size (g c), c.requires.1)

pub overflow_sub-m-2 : goal.overflow_sub-m-2
overflow_sub-m-2 c = omega (arith, half-size (g c), c.requires.1)

pub offset_bounds-e-m : goal.offset_bounds-e-m
offset_bounds-e-m c = omega (arith, half-size (g c), c.requires.1)

pub bounds-e-m : goal.bounds-e-m
bounds-e-m c =
    let h = inside (goal.at.bounds-e-m c).Start (2 * c.args.m - 1 - c.args.n) (omega (arith, c.requires.1)) in simp length-set h

pub returns : goal.returns
returns c =
    let m = c.args.m in
    let i : 2 * m - 1 - c.args.n ≡ m + m - suc c.args.n = omega arith in
    record {
      level = g c;
      part =
          rw i
          (more (g c).table.mirrored (g c).size (g c).stride c.args.n c.requires.1 c.requires.0.part _ _
          (reads (known c) (loc w64 (add (var 0) (var 1))) tt ∙ ap₂ ◌+ℤ◌ (v-is c) (o_is c))
          (reads (known c) (loc w64 (sub (var 0) (var 1))) tt ∙ ap₂ ◌-ℤ◌ (v-is c) (o_is c)));
    }
