-- `satd_tiles::had::sum` meets its contract. Assumes nothing.
use Rattle.std.proofs.Common.{arith, le_trans, get_or, []}
use native.Mathlib.Nat.{mul-le-mul_right}
use Rattle.integers.proofs.Loop.{summed-start, summed-step, summed-end, summed-next}
use Rattle.satd_tiles.specs.Passes.{block_sizes}
use Rattle.satd_tiles.proofs.Tiles.{row-most}
use Rattle.satd_tiles.proofs.had.sum.Goals as goal

pub loop-row-init : goal.loop-row-init
loop-row-init g c = summed-start

pub overflow_add-s : goal.overflow_add-s
overflow_add-s g c =
    let k = c.requires.side in
    omega (
      arith,
      summed-next 16777216 c.loop-row.invariant c.loop-row-test.true c.row_sum-s.ensures
          (λ j h. le_trans (row-most g.row.N 2097152 (get_or c.args.m.now j []) (c.requires.within j)) (mul-le-mul_right 2097152 k)),
      mul-le-mul_right 16777216 k,
    )

pub loop-row-preserved : goal.loop-row-preserved
loop-row-preserved g c = summed-step c.loop-row.invariant c.loop-row-test.true c.row_sum-s.ensures

pub returns : goal.returns
unfolding block_sizes
returns g c = summed-end c.loop-row.invariant (omega arith)
