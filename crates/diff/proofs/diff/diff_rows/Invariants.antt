-- `diff::diff::diff_rows` meets its contract. Assumes nothing.
use Rattle.integers.proofs.Grid.{Wrote}
use Rattle.evc.specs.Differences.{diff_at}
use Rattle.block_rows.specs.Small.{apart_from}
use Rattle.diff.proofs.diff.diff_rows.Given as goal

abbrev pub invariant-loop-j : goal.invariant-loop-j
invariant-loop-j l =
    let p = l.pair in
    Wrote l.w l.h (diff_at l.w (apart_from p.a.now p.a_at p.a_stride p.b.now p.b_at p.b_stride)) l.initial.out l.out l.j
