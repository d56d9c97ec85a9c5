-- `itx_lanes::lanes::input` meets its contract: one input of 16 bits. Assumes nothing.
use borrow.Author.Rules.{sfits_of}
use mathlib.Core.Path.{◌≡◌, sym, ap, ◌∙◌}
use mathlib.Core.List.{[], ◌∷◌}
use Prim.Native.Nat.{ℕ, suc, ◌+◌, ◌*◌, ◌<◌}
use native.Mathlib.Omega.{arith}
use lib.ListN.{get_or}
use lib.IntN.{pos}
use mir.Syntax.{w16, w32}
use Rattle.integers.proofs.Expr.{var, loc, Known, arg, env, fit, reads}
use Rattle.integers.proofs.Bound.{within-sfits}
use Rattle.itx_halving.specs.Line.{line}
use Rattle.itx_halving.proofs.Bounds.{odd-multiple}
use Rattle.itx_lanes.specs.Steps.{lane_list}
use Rattle.itx_lanes.proofs.AsLine.{lane-at}
use Rattle.itx_lanes.proofs.lanes.input.Goals.{After-result-1, Start}
use Rattle.itx_lanes.proofs.lanes.input.Goals as goal

abbrev d : Start → ℕ
d s = (2 * s.args.k + 1) * s.args.q

row : (s : Start) → d s < 64
row s = omega (arith, s.requires.0.rows, odd-multiple s.args.k (s.args.k + 1) s.args.q (omega arith) s.requires.0.some)

abbrev known : After-result-1 → ℕ → Known
known c = env (arg w16 (get_or c.args.s.now (d (goal.at.overflow_cast-result c).Start * 16 + c.args.j) (pos 0)) (sfits_of c.result-1.given) ∷ [])

pub overflow_cast-result : goal.overflow_cast-result
overflow_cast-result c = fit (known c) w32 (var 0) tt

pub returns : goal.returns
returns c =
    let e : 2 * c.args.k + 1 ≡ suc (c.args.k + c.args.k) = omega arith in
    let z = get_or c.args.s.now (d (goal.at.returns c).Start * 16 + c.args.j) (pos 0) in
    let r = reads (known c) (loc w32 (var 0)) tt in
    record {
      is =
          r ∙ sym (lane-at c.args.s.now c.args.j (d (goal.at.returns c).Start) (row (goal.at.returns c).Start))
          ∙ ap (λ (i : ℕ). line (lane_list c.args.s.now c.args.j) (i * c.args.q)) e;
      small = rw r (within-sfits {w = w16} {z = z} (sfits_of c.result-1.given)).bound;
    }
