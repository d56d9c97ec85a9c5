-- `satd_tiles::had::row_sum` meets its contract. Assumes nothing.
use Rattle.std.proofs.Common.{◌≡◌, ℕ, arith, nat_abs, ap, ◌∙◌}
use native.Mathlib.Nat.{mul-le-mul_right}
use mir.Syntax.{w32}
use Rattle.integers.proofs.Expr.{var, small, reads}
use Rattle.integers.proofs.Loop.{summed-start, summed-step, summed-end, summed-next}
use Rattle.satd_tiles.specs.Passes.{place, row_sizes}
use Rattle.satd_tiles.proofs.had.row_sum.Given.{Over}
use Rattle.satd_tiles.proofs.had.row_sum.Goals.{After-abs_i32-s}
use Rattle.satd_tiles.proofs.had.row_sum.Goals as goal

pub loop-x-init : goal.loop-x-init
loop-x-init g c = summed-start

-- what `abs_i32` gave is the next size
next :
    (g : Over) (c : After-abs_i32-s g) →
    c.abs_i32-s.result ≡ nat_abs (place c.args.row.now c.loop-x.x-index)
next g c =
    let sized = λ (k : ℕ). small w32 (place c.args.row.now k) 2097152 (record { bound = c.requires.within k }) tt in
    c.abs_i32-s.ensures ∙ ap nat_abs (reads sized (var c.loop-x.x-index) tt)

pub overflow_add-s : goal.overflow_add-s
overflow_add-s g c =
    omega (arith, summed-next 2097152 c.loop-x.invariant c.loop-x-test.true (next g c) (λ i h. c.requires.within i), mul-le-mul_right 2097152 c.requires.side)

pub loop-x-preserved : goal.loop-x-preserved
loop-x-preserved g c = summed-step c.loop-x.invariant c.loop-x-test.true (next g c)

pub returns : goal.returns
unfolding row_sizes
returns g c = summed-end c.loop-x.invariant (omega arith)
