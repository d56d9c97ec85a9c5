-- `itxb1_blocks::stage_two::two` meets its contract: halves gathered, summed, put together. Assumes nothing.
use Prim.Native.Nat.{◌/◌}
use native.Mathlib.Omega.{arith}
use Rattle.itx_lanes.proofs.Sizes.{is_size, row-stride}
use Rattle.itxb1_blocks.proofs.stage_two.Products.{tail-reads, block-joined}
use Rattle.itxb1_blocks.proofs.stage_two.two.Goals as goal

pub invariant_of-tail : goal.invariant_of-tail
invariant_of-tail g c = record { reads = tail-reads c.requires.1.0 (omega arith) (omega arith) (omega arith) (omega arith) (omega arith) }

pub returns : goal.returns
returns g c =
    let a = c.args in
    let w = c.requires.0 in
    block-joined c.requires.1.0 a.src.now (1024 / g.row.N) a.l a.j0 g.row.P (row-stride g.row.N w.0 w.1) w.0 (omega arith) c.gather.ensures
    (is_size g.row.N w.0 w.1 _ c.sums.ensures.sized) c.gather-2.ensures (is_size g.row.N w.0 w.1 _ c.sums-2.ensures.sized) c.store.ensures
