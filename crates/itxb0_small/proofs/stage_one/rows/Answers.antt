-- `itxb0_small::stage_one::rows` meets its contract: line after line, summed with document 01's table, and stored, size by size. Assumes nothing.
use mathlib.Core.Path.{◌≡◌, sym, subst}
use mathlib.Core.List.{List}
use Prim.Native.Nat.{ℕ, ◌+◌, ◌*◌, ◌<◌, ◌≤◌}
use native.Mathlib.Omega.{arith}
use lib.ListN.{length}
use lib.IntN.{ℤ}
use mir.Syntax.{w32}
use Rattle.std.proofs.Common.{rules}
use Rattle.integers.specs.Z.{clip32}
use Rattle.evc.specs.Table.{tm}
use Rattle.evc.specs.Stages.{stage_one_at}
use Rattle.itx_halving.specs.Lines.{Lined}
use Rattle.itx_halving.proofs.Instance.{built-in-table, built-in-same}
use Rattle.itx_halving.proofs.Lines.{Upto, upto-none, upto-more}
use Rattle.itx_halving.proofs.Rows.{reach-at, rowed, held}
use Rattle.itxb0_small.specs.Sums.{narrow}
use Rattle.itxb0_small.proofs.Sizes.{eight}
use Rattle.itxb0_small.proofs.stage_one.rows.Goals.{in-2, in-4, in_default}
use Rattle.itxb0_small.proofs.stage_one.rows.Goals as goal

-- one line more of a size that is known
module _ (src d₀ d : List ℤ) (l j : ℕ) where
  abbrev At : ℕ → List ℤ → ℕ → Type 0
  At n d j = Upto (stage_one_at (tm n) n l src) n l d₀ d j

  more : (n k : ℕ) → n ≡ k → At n d j → j < l → (d' e : List ℤ) → e ≡ d' → Lined (stage_one_at (tm k) k l src) d d' k j → At n e (j + 1)
  more n k p a h d' e q s =
      subst (λ (e : List ℤ). At n e (j + 1)) (sym q)
      (subst (λ (m : ℕ). At m d' (j + 1)) (sym p) (upto-more (subst (λ (m : ℕ). At m d j) p a) h s))

room : (n k l : ℕ) (src : List ℤ) → n ≡ k → n * l ≤ length src → k * l ≤ length src
room n k l src p h = subst (λ (m : ℕ). m * l ≤ length src) p h

pub loop-j-init : goal.loop-j-init
loop-j-init g c = upto-none c.requires.1.dst-room

pub line2-requires : goal.line2-requires
line2-requires g c =
    reach-at 2048 2 _ _ (built-in-table 1 (omega arith) _ c.table-t.ensures) c.loop-j-test.true (room g.row.N 2 c.args.l c.args.src.now c.in-2.is c.requires.1.src-room)

pub line4-e-requires : goal.line4-e-requires
line4-e-requires g c =
    let t = built-in-table 2 (omega arith) _ c.table-t.ensures in
    (reach-at 1024 4 _ _ t c.loop-j-test.true (room g.row.N 4 c.args.l c.args.src.now c.in-4.is c.requires.1.src-room), t.mirrored)

pub line8-requires : goal.line8-requires
line8-requires g c =
    let t = built-in-table 3 (omega arith) _ c.table-t.ensures in
    let p : g.row.N ≡ 8 = eight g.row.N c.requires.0 (search rules) (search rules) in (
      reach-at 512 8 _ _ t c.loop-j-test.true (room g.row.N 8 c.args.l c.args.src.now p c.requires.1.src-room),
      (t.mirrored, (built-in-table 2 (omega arith) _ c.table-t.ensures).mirrored),
    )

pub loop-j-preserved : goal.loop-j-preserved
unfolding stage_one_at
loop-j-preserved g c =
    let a = c.args in
    elim c.match-this.branch [
      | in-2 w ↦ more a.src.now a.dst.now c.loop-j.dst a.l c.loop-j.j g.row.N 2 w.in-2.is c.loop-j.invariant c.loop-j-test.true _ _ w.dst-is
          (rowed clip32 (built-in-same 1 (omega arith) _ c.table-t.ensures) w.line2.ensures w.store_i32.ensures)
      | in-4 w ↦ more a.src.now a.dst.now c.loop-j.dst a.l c.loop-j.j g.row.N 4 w.in-4.is c.loop-j.invariant c.loop-j-test.true _ _ w.dst-is
          (rowed clip32 (built-in-same 2 (omega arith) _ c.table-t.ensures) (held w32 (4 * narrow) tt _ w.line4-e.ensures) w.store_i32-in-4.ensures)
      | in_default w ↦ more a.src.now a.dst.now c.loop-j.dst a.l c.loop-j.j g.row.N 8 (eight g.row.N c.requires.0 (search rules) (search rules)) c.loop-j.invariant c.loop-j-test.true _ _ w.dst-is
          (rowed clip32 (built-in-same 3 (omega arith) _ c.table-t.ensures) w.line8.ensures w.store_i32-in_default.ensures)
    ]
