-- `diff::diff::diff_rows` meets its contract. Assumes nothing.
use mathlib.Core.Path.{◌≡◌, sym, ◌∙◌}
use mathlib.Core.List.{List}
use Prim.Native.Nat.{ℕ, ◌+◌, ◌*◌, ◌≤◌}
use lib.IntN.{ℤ}
use lib.ListN.{length}
use Rattle.integers.specs.Lists.{tab}
use Rattle.integers.proofs.Written.{tab-ext, grid-at}
use Rattle.integers.proofs.Grid.{wrote-start, wrote-row, wrote-end, wrote-long, row_room, row-long}
use Rattle.evc.specs.Differences.{diff_at}
use Rattle.block_rows.specs.Small.{apart_from}
use Rattle.block_rows.proofs.Cells.{row-part}
use Rattle.block_rows.proofs.Tested.{rows_apart}
use Rattle.diff.proofs.diff.diff_rows.Goals.{In-loop-j}
use Rattle.diff.proofs.diff.diff_rows.Goals as goal

pub loop-j-init : goal.loop-j-init
loop-j-init c = wrote-start c.requires.room

-- the room of row j in the output
room : (c : In-loop-j) → let w = c.args.w in c.loop-j.j * w + w ≤ length c.loop-j.out
room c = row_room c.loop-j.invariant c.loop-j-test.true

-- row j's differences, by their places in the output
placed : (w j : ℕ) (d : ℕ → ℕ → ℤ) {r : List ℤ} → r ≡ tab w (d j) → r ≡ tab w (λ i. diff_at w d (j * w + i))
unfolding diff_at
placed w j d e = e ∙ tab-ext w (d j) (λ i. diff_at w d (j * w + i)) (λ i m. sym (grid-at d j i w m))

pub loop-j-preserved : goal.loop-j-preserved
loop-j-preserved c =
    let p = c.args.pair.now in
    let w = c.args.w in
    let j = c.loop-j.j in
    let m = c.loop-j-test.true in
    wrote-row c.loop-j.invariant m c.diff_row.new.out
    (placed w j (apart_from p.a.now p.a_at p.a_stride p.b.now p.b_at p.b_stride)
    (rows_apart p.a.now p.a_at p.a_stride p.b.now p.b_at p.b_stride w m (row-part p.a.now p.a_at p.a_stride j w)
    (row-part p.b.now p.b_at p.b_stride j w) c.requires.small (row-long c.loop-j.invariant m) c.diff_row.ensures))

pub shape_of-out : goal.shape_of-out
shape_of-out c = wrote-long c.loop-j.invariant

pub returns : goal.returns
returns c = wrote-end c.loop-j.invariant c.loop-j-test.false
