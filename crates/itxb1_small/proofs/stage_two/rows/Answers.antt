-- `itxb1_small::stage_two::rows` meets its contract: line after line, summed with document 01's table, and stored, size by size. Assumes nothing.
use mathlib.Core.Path.{◌≡◌, sym, subst}
use mathlib.Core.List.{List}
use Prim.Native.Nat.{ℕ, ◌+◌, ◌*◌, ◌<◌, ◌≤◌}
use native.Mathlib.Omega.{arith}
use lib.ListN.{length}
use lib.IntN.{ℤ}
use mir.Syntax.{w64}
use Rattle.std.proofs.Common.{rules}
use Rattle.evc.specs.Table.{tm}
use Rattle.evc.specs.Stages.{stage_two_at}
use Rattle.itx_halving.specs.Lines.{shifted, Lined}
use Rattle.itx_halving.proofs.Instance.{built-in-table, built-in-same}
use Rattle.itx_halving.proofs.Lines.{Upto, upto-none, upto-room, upto-more}
use Rattle.itx_halving.proofs.Rows.{reach-at, rowed, bounded, held}
use Rattle.itxb1_small.specs.Sums.{wide}
use Rattle.itxb1_small.proofs.Sizes.{four}
use Rattle.itxb1_small.proofs.stage_two.rows.Goals.{in-2, in_default}
use Rattle.itxb1_small.proofs.stage_two.rows.Goals as goal

-- one line more of a size that is known
module _ (src d₀ d : List ℤ) (l shift j : ℕ) where
  abbrev At : ℕ → List ℤ → ℕ → Type 0
  At n d j = Upto (stage_two_at (tm n) n l shift src) n l d₀ d j

  more : (n k : ℕ) → n ≡ k → At n d j → j < l → (d' e : List ℤ) → e ≡ d' → Lined (stage_two_at (tm k) k l shift src) d d' k j → At n e (j + 1)
  more n k p a h d' e q s =
      subst (λ (e : List ℤ). At n e (j + 1)) (sym q)
      (subst (λ (m : ℕ). At m d' (j + 1)) (sym p) (upto-more (subst (λ (m : ℕ). At m d j) p a) h s))

room : (n k l : ℕ) (src : List ℤ) → n ≡ k → n * l ≤ length src → k * l ≤ length src
room n k l src p h = subst (λ (m : ℕ). m * l ≤ length src) p h

size_room : {G : ℕ → ℤ} {d : List ℤ} {j : ℕ} → (n k l : ℕ) (e : List ℤ) → n ≡ k → Upto G n l e d j → j < l → j * k + k ≤ length d
size_room {G} {d} {j} n k l e p a h = subst (λ (m : ℕ). j * m + m ≤ length d) p (upto-room a h)

pub loop-j-init : goal.loop-j-init
loop-j-init g c = upto-none c.requires.1.dst-room

pub line2-e-requires : goal.line2-e-requires
line2-e-requires g c =
    reach-at 2048 2 _ _ (built-in-table 1 (omega arith) _ c.table-t.ensures) c.loop-j-test.true (room g.row.N 2 c.args.l c.args.src.now c.in-2.is c.requires.1.src-room)

pub store_i16-requires : goal.store_i16-requires
store_i16-requires g c =
    (bounded (held w64 (2 * wide) tt _ c.line2-e.ensures) (omega arith), (omega arith, size_room g.row.N 2 c.args.l c.args.dst.now c.in-2.is c.loop-j.invariant c.loop-j-test.true))

pub line4-e-requires : goal.line4-e-requires
line4-e-requires g c =
    let t = built-in-table 2 (omega arith) _ c.table-t.ensures in
    let p : g.row.N ≡ 4 = four g.row.N c.requires.0 (search rules) in
    (reach-at 1024 4 _ _ t c.loop-j-test.true (room g.row.N 4 c.args.l c.args.src.now p c.requires.1.src-room), t.mirrored)

pub store_i16-requires-in_default : goal.store_i16-requires-in_default
store_i16-requires-in_default g c =
    let p : g.row.N ≡ 4 = four g.row.N c.requires.0 (search rules) in
    (bounded (held w64 (4 * wide) tt _ c.line4-e.ensures) (omega arith), (omega arith, size_room g.row.N 4 c.args.l c.args.dst.now p c.loop-j.invariant c.loop-j-test.true))

pub loop-j-preserved : goal.loop-j-preserved
unfolding stage_two_at
loop-j-preserved g c =
    let a = c.args in
    let f = shifted a.r.shift in
    elim c.match-this.branch [
      | in-2 w ↦ more a.src.now a.dst.now c.loop-j.dst a.l a.r.shift c.loop-j.j g.row.N 2 w.in-2.is c.loop-j.invariant c.loop-j-test.true _ _ w.dst-is
          (rowed f (built-in-same 1 (omega arith) _ c.table-t.ensures) (held w64 (2 * wide) tt _ w.line2-e.ensures) w.store_i16.ensures)
      | in_default w ↦ more a.src.now a.dst.now c.loop-j.dst a.l a.r.shift c.loop-j.j g.row.N 4 (four g.row.N c.requires.0 (search rules)) c.loop-j.invariant c.loop-j-test.true _ _ w.dst-is
          (rowed f (built-in-same 2 (omega arith) _ c.table-t.ensures) (held w64 (4 * wide) tt _ w.line4-e.ensures) w.store_i16-in_default.ensures)
    ]
