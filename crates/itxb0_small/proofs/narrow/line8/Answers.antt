-- `itxb0_small::narrow::line8` meets its contract: from the half as large, by the halving step. Assumes nothing.
use mathlib.Core.Path.{◌≡◌, refl}
use mathlib.Core.List.{List, [], ◌∷◌, map}
use Prim.Native.Nat.{ℕ, suc, ◌+◌, ◌*◌, ◌-◌, ◌<◌}
use native.Mathlib.Omega.{arith}
use lib.ListN.{length, get_or}
use lib.IntN.{ℤ, pos, ◌+ℤ◌, ◌-ℤ◌}
use mir.Syntax.{w32}
use Rattle.integers.proofs.Expr.{Ex, var, add, sub, loc, Known, small, env, raw, machines, reads, fit}
use Rattle.itx_halving.specs.Line.{rows}
use Rattle.itx_halving.specs.Straight.{Odd, Line}
use Rattle.itx_halving.proofs.Small.{under-four}
use Rattle.itxb0_small.specs.Sums.{narrow}
use Rattle.itx_halving.proofs.Straight.{half-reach, joined}
use Rattle.itxb0_small.proofs.narrow.line8.Goals.{After-odd4-d, Start}
use Rattle.itxb0_small.proofs.narrow.line8.Goals as goal

-- the last row and the last input
last_row : (s : Start) → 7 * s.args.w + 0 < length s.args.t.now
last_row s = s.requires.0.table 7 0 (omega arith) (omega arith)

last-input : (s : Start) → 7 * s.args.l + s.args.j < length s.args.x.now
last-input s = s.requires.0.input 7 (omega arith)

module _ (c : After-odd4-d) where
  -- the halves
  abbrev e : List ℤ
  e = let r = c.line4-e.result in r.0 ∷ r.1 ∷ r.2 ∷ r.3 ∷ []

  even : Line (4 * narrow) (rows c.args.t.now (c.args.w + c.args.w)) 4 (c.args.l + c.args.l) c.args.x.now c.args.j e
  even = c.line4-e.ensures

  abbrev o : ℕ → ℤ
  o n = get_or (c.odd4-a.result ∷ c.odd4-b.result ∷ c.odd4-c.result ∷ c.odd4-d.result ∷ []) n (pos 0)

  odds : (n : ℕ) → n < 4 → Odd (4 * narrow) (rows c.args.t.now c.args.w) 4 c.args.l c.args.x.now c.args.j n (o n)
  odds = under-four _ c.odd4-a.ensures c.odd4-b.ensures c.odd4-c.ensures c.odd4-d.ensures

  -- in expressions: first the places of the one, then of the other
  abbrev half : (n : ℕ) → n < 4 → Known
  half n h = small w32 (get_or e n (pos 0)) (4 * narrow) (record { bound = even.small n h }) tt

  abbrev share : (n : ℕ) → n < 4 → Known
  share n h = small w32 (o n) (4 * narrow) (record { bound = (odds n h).small }) tt

  abbrev known : ℕ → Known
  known =
      env (
      half 0 (omega arith) ∷ half 1 (omega arith) ∷ half 2 (omega arith) ∷ half 3 (omega arith)
      ∷ share 0 (omega arith) ∷ share 1 (omega arith) ∷ share 2 (omega arith) ∷ share 3 (omega arith)
      ∷ []
      )

  abbrev low : ℕ → Ex
  low n = add (var n) (var (4 + n))

  abbrev high : ℕ → Ex
  high n = sub (var n) (var (4 + n))

  abbrev out : List ℤ
  out = map (raw (machines known)) (loc w32 (low 0) ∷ loc w32 (low 1) ∷ loc w32 (low 2) ∷ loc w32 (low 3) ∷ loc w32 (high 3) ∷ loc w32 (high 2) ∷ loc w32 (high 1) ∷ loc w32 (high 0) ∷ [])

  low-is : (n : ℕ) → n < 4 → get_or out n (pos 0) ≡ get_or e n (pos 0) +ℤ o n
  low-is = under-four _ (reads known (loc w32 (low 0)) tt) (reads known (loc w32 (low 1)) tt) (reads known (loc w32 (low 2)) tt) (reads known (loc w32 (low 3)) tt)

  high_is : (n : ℕ) → n < 4 → get_or out (4 + 4 - suc n) (pos 0) ≡ get_or e n (pos 0) -ℤ o n
  high_is = under-four _ (reads known (loc w32 (high 0)) tt) (reads known (loc w32 (high 1)) tt) (reads known (loc w32 (high 2)) tt) (reads known (loc w32 (high 3)) tt)

pub overflow_add-w : goal.overflow_add-w
overflow_add-w c = omega (arith, last_row c)

pub overflow_add-l : goal.overflow_add-l
overflow_add-l c = omega (arith, last-input c)

pub line4-e-requires : goal.line4-e-requires
line4-e-requires c = (half-reach 4 c.requires.0, c.requires.1.1)

pub odd4-a-requires : goal.odd4-a-requires
odd4-a-requires c = (c.requires.0, omega arith)

pub odd4-b-requires : goal.odd4-b-requires
odd4-b-requires c = (c.requires.0, omega arith)

pub odd4-c-requires : goal.odd4-c-requires
odd4-c-requires c = (c.requires.0, omega arith)

pub odd4-d-requires : goal.odd4-d-requires
odd4-d-requires c = (c.requires.0, omega arith)

pub overflow_add-result : goal.overflow_add-result
overflow_add-result c = fit (known (goal.at.overflow_add-result c).After-odd4-d) w32 (low (goal.at.overflow_add-result c).After-odd4-d 0) tt

pub overflow_add-result-2 : goal.overflow_add-result-2
overflow_add-result-2 c = fit (known (goal.at.overflow_add-result-2 c).After-odd4-d) w32 (low (goal.at.overflow_add-result-2 c).After-odd4-d 1) tt

pub overflow_add-result-3 : goal.overflow_add-result-3
overflow_add-result-3 c = fit (known (goal.at.overflow_add-result-3 c).After-odd4-d) w32 (low (goal.at.overflow_add-result-3 c).After-odd4-d 2) tt

pub overflow_add-result-4 : goal.overflow_add-result-4
overflow_add-result-4 c = fit (known (goal.at.overflow_add-result-4 c).After-odd4-d) w32 (low (goal.at.overflow_add-result-4 c).After-odd4-d 3) tt

pub overflow_sub-result : goal.overflow_sub-result
overflow_sub-result c = fit (known (goal.at.overflow_sub-result c).After-odd4-d) w32 (high (goal.at.overflow_sub-result c).After-odd4-d 3) tt

pub overflow_sub-result-2 : goal.overflow_sub-result-2
overflow_sub-result-2 c = fit (known (goal.at.overflow_sub-result-2 c).After-odd4-d) w32 (high (goal.at.overflow_sub-result-2 c).After-odd4-d 2) tt

pub overflow_sub-result-3 : goal.overflow_sub-result-3
overflow_sub-result-3 c = fit (known (goal.at.overflow_sub-result-3 c).After-odd4-d) w32 (high (goal.at.overflow_sub-result-3 c).After-odd4-d 1) tt

pub overflow_sub-result-4 : goal.overflow_sub-result-4
overflow_sub-result-4 c = fit (known (goal.at.overflow_sub-result-4 c).After-odd4-d) w32 (high (goal.at.overflow_sub-result-4 c).After-odd4-d 0) tt

pub returns : goal.returns
returns c =
    let a = c.args in
    joined (4 * narrow) (4 * narrow) a.t.now a.w a.x.now a.l a.j 4 (e (goal.at.returns c).After-odd4-d) (out (goal.at.returns c).After-odd4-d) (o (goal.at.returns c).After-odd4-d) c.requires.1.0 (omega arith) (even (goal.at.returns c).After-odd4-d) (odds (goal.at.returns c).After-odd4-d) refl (low-is (goal.at.returns c).After-odd4-d) (high_is (goal.at.returns c).After-odd4-d)
