-- `itx_lines::line::start` meets its contract: the product of size 2, written out. Assumes nothing.
use mathlib.Core.Path.{◌≡◌, ap₂, ◌∙◌}
use mathlib.Core.List.{List, [], ◌∷◌}
use Prim.Native.Nat.{ℕ, ◌+◌, ◌*◌, ◌≤◌, ◌<◌}
use native.Mathlib.Omega.{arith}
use native.Mathlib.Nat.{zero-mul}
use lib.ListN.{length, get_or, length-set}
use lib.IntN.{ℤ, pos, ◌+ℤ◌, ◌*ℤ◌, nat_abs}
use mir.Syntax.{w64}
use mir.Val.{to_z, of_z}
use Rattle.integers.proofs.Expr.{var, add, loc, Known, small, env, fit, reads}
use Rattle.itx_halving.specs.Line.{line, Small, Term, Table}
use Rattle.itx_halving.proofs.Bounds.{term}
use Rattle.itx_halving.proofs.Step.{started}
use Rattle.itx_lines.proofs.line.start.Goals.{Start}
use Rattle.itx_lines.proofs.line.start.Goals as goal

-- the two rows and columns of the table, and the two inputs
module _ (s : Start) where
  abbrev g : Table s.args.t.now s.args.w (s.args.q + s.args.q)
  g = s.requires.0.0

  input : (i : ℕ) → i < s.args.q + s.args.q → Small s.args.x.now i
  input i h = s.requires.0.1.input i h

  -- column n of the first row
  first : (n : ℕ) → n < 2 → n < length s.args.t.now
  first n h = let r : 0 * s.args.w + n < length s.args.t.now = g.room 0 n (omega (arith, s.requires.1.0)) (omega (arith, s.requires.1.0)) in omega (arith, zero-mul s.args.w)

  -- and of the other
  other : (n : ℕ) → n < 2 → s.args.q * s.args.w + n < length s.args.t.now
  other n h = g.room s.args.q n (omega (arith, s.requires.1.0)) (omega (arith, s.requires.1.0))

-- two products that are added
abbrev known : (u v : ℤ) → nat_abs u ≤ term → nat_abs v ≤ term → ℕ → Known
known u v h k = env (small w64 u term (record { bound = h }) tt ∷ small w64 v term (record { bound = k }) tt ∷ [])

stored :
    {t x : List ℤ} {a b i j : ℕ} {u v : ℤ} →
    Term t a x i u →
    Term t b x j v →
    to_z w64 (of_z w64 (to_z w64 (of_z w64 u) +ℤ to_z w64 (of_z w64 v))) ≡ get_or t a (pos 0) *ℤ line x i +ℤ get_or t b (pos 0) *ℤ line x j
stored {u = u} {v = v} h k =
    reads (known u v h.small k.small) (loc w64 (add (var 0) (var 1))) tt ∙ ap₂ ◌+ℤ◌ h.is k.is

pub term-requires : goal.term-requires
term-requires c = (first c 0 (omega arith), input c 0 (omega (arith, c.requires.1.0)))

pub overflow_mul-q : goal.overflow_mul-q
overflow_mul-q c = omega (arith, other (goal.at.overflow_mul-q c).Start 0 (omega arith))

pub term-requires-2 : goal.term-requires-2
term-requires-2 c = (omega (arith, other (goal.at.term-requires-2 c).Start 0 (omega arith)), input (goal.at.term-requires-2 c).Start c.args.q (omega (arith, c.requires.1.0)))

pub overflow_add-e : goal.overflow_add-e
overflow_add-e c = fit (known c.term.result c.term-2.result c.term.ensures.small c.term-2.ensures.small) w64 (add (var 0) (var 1)) tt

pub bounds-e-0 : goal.bounds-e-0
bounds-e-0 c = omega arith

pub term-requires-3 : goal.term-requires-3
term-requires-3 c = (first (goal.at.term-requires-3 c).Start 1 (omega arith), input (goal.at.term-requires-3 c).Start 0 (omega (arith, c.requires.1.0)))

pub overflow_mul-q-2 : goal.overflow_mul-q-2
overflow_mul-q-2 c = omega (arith, other (goal.at.overflow_mul-q-2 c).Start 0 (omega arith))

pub overflow_add-q : goal.overflow_add-q
overflow_add-q c = omega (arith, other (goal.at.overflow_add-q c).Start 1 (omega arith))

pub term-requires-4 : goal.term-requires-4
term-requires-4 c =
    (other (goal.at.term-requires-4 c).Start 1 (omega arith), input (goal.at.term-requires-4 c).Start c.args.q (omega (arith, c.requires.1.0)))

pub overflow_add-e-2 : goal.overflow_add-e-2
overflow_add-e-2 c = fit (known c.term-3.result c.term-4.result c.term-3.ensures.small c.term-4.ensures.small) w64 (add (var 0) (var 1)) tt

pub bounds-e-1 : goal.bounds-e-1
bounds-e-1 c = simp length-set (omega arith)

pub returns : goal.returns
returns c =
    record {
      table = c.requires.0.0;
      inputs = c.requires.0.1;
      sums =
          started c.args.t.now c.args.x.now c.args.e.now c.args.w c.args.q c.requires.1.0 c.requires.1.1 _ _
          (stored c.term.ensures c.term-2.ensures) (stored c.term-3.ensures c.term-4.ensures);
    }
