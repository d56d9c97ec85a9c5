-- Numbers as what the definitions take. Cited by the contracts of src/sub_blocks.rt, and by the exports. Assumes nothing.
use Rattle.std.specs.Prelude.{ℕ, zero, suc, ℤ, Option, None, Some}
use Rattle.evc.specs.declared.Part.{Part}
use Rattle.evc.specs.declared.SubBlock.{SubBlock}

-- a component: it is flagged where the number is not 0
abbrev pub part_of : ℕ → ℕ → ℕ → Option Part
part_of zero start qp = None
part_of (suc flag) start qp = Some (record { start = start; qp = qp })

-- a sub-block call, by its numbers and its components
abbrev pub sub_block_of : ℕ → ℕ → ℤ → ℕ → ℕ → Option Part → Option Part → Option Part → SubBlock
sub_block_of logw logh offset dqshift itshift y u v =
    record { log2_w = logw; log2_h = logh; offset = offset; dq_shift = dqshift; it_shift = itshift; y = y; u = u; v = v }
