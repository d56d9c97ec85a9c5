-- `itx_lines::line::odd_sum` meets its contract: the sum so far is the odd half of so many terms. Assumes nothing.
use mathlib.Core.Path.{sym, ap, ◌∙◌}
use mathlib.Core.List.{[], ◌∷◌}
use Prim.Native.Nat.{ℕ, ◌+◌, ◌*◌, ◌<◌}
use native.Mathlib.Omega.{arith}
use lib.ListN.{length}
use lib.IntN.{ℤ, ◌+ℤ◌}
use mir.Syntax.{w64}
use mir.Val.{to_z}
use Rattle.integers.specs.Sum.{addition_z+}
use Rattle.integers.proofs.Bound.{within-mono}
use Rattle.integers.proofs.Sum.{sum-none}
use Rattle.integers.proofs.Expr.{var, add, loc, Known, small, env, fit, reads}
use Rattle.itx_halving.specs.Line.{rows, line, odd, Level}
use Rattle.itx_halving.proofs.Bounds.{term, odd_number, odd_step, odd-multiple, odd-within, half-size, column}
use Rattle.itx_lines.proofs.line.odd_sum.Goals.{After-term-sum, In-loop-k}
use Rattle.itx_lines.proofs.line.odd_sum.Goals as goal

module _ (c : In-loop-k) where
  abbrev k : ℕ
  k = c.loop-k.k

  abbrev g : Level c.args.t.now c.args.w c.args.x.now c.args.m c.args.q
  g = c.requires.0

  -- the odd half of so many terms
  abbrev half : ℕ → ℤ
  half j = odd (rows c.args.t.now c.args.w) c.args.q j c.args.n (line c.args.x.now)

  -- the row and input of this turn
  abbrev d : ℕ
  d = (2 * k + 1) * c.args.q

  row : d < (c.args.m + c.args.m) * c.args.q
  row = rw (odd_number k) (odd-multiple k c.args.m c.args.q c.loop-k-test.true g.stride)

  place : d * c.args.w + c.args.n < length c.args.t.now
  place = g.table.room d c.args.n row (column g c.args.n c.requires.1)

-- the sum so far and this turn's term: what is known of each
abbrev known : After-term-sum → ℕ → Known
known c =
    let k = c.loop-k.k in
    env (
    record {
      machine = to_z w64 c.loop-k.sum-bits;
      exact = odd (rows c.args.t.now c.args.w) c.args.q k c.args.n (line c.args.x.now);
      size = 8796093022208;
      same = c.loop-k.invariant.1;
      within = within-mono (omega (arith, half-size c.requires.0)) (odd-within c.requires.0 k c.args.n (omega arith) c.requires.1);
    }
    ∷ small w64 c.term-sum.result term (record { bound = c.term-sum.ensures.small }) tt
    ∷ []
    )

pub loop-k-init : goal.loop-k-init
unfolding odd
loop-k-init c = (omega arith, sym (sum-none addition_z+ _))

pub overflow_mul-d-in-loop-k-2 : goal.overflow_mul-d-in-loop-k-2
overflow_mul-d-in-loop-k-2 c = omega (arith, place c)

pub overflow_add-d-in-loop-k : goal.overflow_add-d-in-loop-k
overflow_add-d-in-loop-k c = omega (arith, place c)

pub term-sum-requires : goal.term-sum-requires
term-sum-requires c = (place c, (g c).inputs.input (d c) (row c))

pub overflow_add-sum : goal.overflow_add-sum
overflow_add-sum c = fit (known c) w64 (add (var 0) (var 1)) tt

pub loop-k-preserved : goal.loop-k-preserved
loop-k-preserved c =
    let k = c.loop-k.k in
    let half = λ (j : ℕ). odd (rows c.args.t.now c.args.w) c.args.q j c.args.n (line c.args.x.now) in (
      omega arith,
      reads (known c) (loc w64 (add (var 0) (var 1))) tt
          ∙ ap (λ (z : ℤ). half k +ℤ z) c.term-sum.ensures.is
          ∙ odd_step (rows c.args.t.now c.args.w) c.args.q k c.args.n (line c.args.x.now),
    )
