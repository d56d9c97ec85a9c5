-- `sad_bi::near::runs` meets its contract. Assumes nothing.
use Rattle.std.proofs.Common.{ℕ, ◌+◌, ◌*◌, ◌<◌, ◌≤◌, length, pos, refl, mul-le-mul_right, add-mul, arith}
use Rattle.block_rows.proofs.Running.{running-start, running-row, running-end, running-next}
use Rattle.block_rows.proofs.Cells.{part_length, part_same, rows_alike}
use Rattle.sad_bi.specs.Totals.{mark_bi}
use Rattle.sad_bi.specs.Near.{near_bi, InRuns}
use Rattle.sad_bi.proofs.Packed.{packed-length, packed-same}
use Rattle.sad_bi.proofs.near.runs.Goals.{In-loop-j}
use Rattle.sad_bi.proofs.near.runs.Goals as goal

-- each run lies in its buffer
module _ {n count m k s : ℕ} (r : InRuns n count m k s) {j : ℕ} (p : j < count) where
  ends : j * (n + n) + (n + n) ≤ count * (n + n)
  ends =
      let a : (j + 1) * (n + n) ≤ count * (n + n) = mul-le-mul_right (n + n) (omega arith) in
      omega (arith, add-mul j 1 (n + n))

  in-first : 0 + j * (n + n) + (n + n) ≤ m
  in-first = omega (arith, ends, r.one)

  in-second : s + j * (n + n) + (n + n) ≤ k
  in-second = omega (arith, ends, r.two)

pub overflow_add-w : goal.overflow_add-w
overflow_add-w c = omega (arith, c.requires.small)

pub loop-j-init : goal.loop-j-init
loop-j-init c = running-start

-- where the runs end
one : (c : In-loop-j) → let a = c.args in 0 + c.loop-j.j * (a.n + a.n) + (a.n + a.n) ≤ length a.a.now
one c = in-first c.requires c.loop-j-test.true

two : (c : In-loop-j) → let a = c.args in a.b_at + c.loop-j.j * (a.n + a.n) + (a.n + a.n) ≤ length a.b.now
two c = in-second c.requires c.loop-j-test.true

pub overflow_mul-p : goal.overflow_mul-p
overflow_mul-p c = omega (arith, one c, c.well_formed)

pub overflow_add-q : goal.overflow_add-q
overflow_add-q c = omega (arith, two c, c.well_formed)

pub overflow_add-p_end : goal.overflow_add-p_end
overflow_add-p_end c = omega (arith, one c, c.well_formed)

pub overflow_add-q_end : goal.overflow_add-q_end
overflow_add-q_end c = omega (arith, two c, c.well_formed)

pub offset_bounds-a-p : goal.offset_bounds-a-p
offset_bounds-a-p c = omega (arith, one c, c.well_formed)

pub slice_bounds-pairs-count : goal.slice_bounds-pairs-count
slice_bounds-pairs-count c = omega arith

pub slice_bounds-pairs-start : goal.slice_bounds-pairs-start
slice_bounds-pairs-start c = omega arith

pub slice_bounds-pairs-end : goal.slice_bounds-pairs-end
slice_bounds-pairs-end c = omega (arith, one c)

pub offset_bounds-b-q : goal.offset_bounds-b-q
offset_bounds-b-q c = omega (arith, two (goal.at.offset_bounds-b-q c).In-loop-j, c.well_formed)

pub slice_bounds-pairs-count-in-loop-j : goal.slice_bounds-pairs-count-in-loop-j
slice_bounds-pairs-count-in-loop-j c = omega arith

pub slice_bounds-pairs-start-in-loop-j : goal.slice_bounds-pairs-start-in-loop-j
slice_bounds-pairs-start-in-loop-j c = omega arith

pub slice_bounds-pairs-end-in-loop-j : goal.slice_bounds-pairs-end-in-loop-j
slice_bounds-pairs-end-in-loop-j c = two (goal.at.slice_bounds-pairs-end-in-loop-j c).In-loop-j

pub pairs-t-requires : goal.pairs-t-requires
pairs-t-requires c =
    let a = c.args in
    let w = a.n + a.n in
    let j = c.loop-j.j in
    let p = c.loop-j-test.true in
    record {
      one = packed-length a.a.now j w (in-first c.requires p);
      two = part_length a.b.now a.b_at w j w (in-second c.requires p);
      small = c.requires.small;
    }

pub overflow_add-sum : goal.overflow_add-sum
overflow_add-sum c =
    omega (arith, running-next c.loop-j.invariant (omega arith) c.requires.few c.pairs-t.ensures.most)

pub overflow_step-j : goal.overflow_step-j
overflow_step-j c = omega arith

pub loop-j-smaller : goal.loop-j-smaller
loop-j-smaller c = omega arith

-- what the runs told, said of the buffers
pub loop-j-preserved : goal.loop-j-preserved
loop-j-preserved c =
    let a = c.args in
    let w = a.n + a.n in
    running-row c.loop-j.invariant (omega arith)
    (rows_alike near_bi mark_bi (packed-same a.a.now c.loop-j.j w (pos 0)) (part_same 0 a.b.now a.b_at w c.loop-j.j w) c.pairs-t.ensures)
    refl refl

pub returns : goal.returns
returns c = running-end c.loop-j.invariant (omega arith) c.requires.few
