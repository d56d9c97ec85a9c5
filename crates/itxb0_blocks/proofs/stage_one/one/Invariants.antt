-- `itxb0_blocks::stage_one::one` meets its contract: gathered, summed, and stored line after line. Assumes nothing.
use Prim.Native.Nat.{◌+◌, ◌*◌}
use lib.ListN.{get_or}
use lib.IntN.{pos}
use Rattle.integers.specs.Z.{clip32}
use Rattle.itx_halving.proofs.Places.{Lanes}
use Rattle.itxb0_blocks.proofs.stage_one.one.Given as goal

abbrev pub invariant-loop-j : goal.invariant-loop-j
invariant-loop-j g l = Lanes (λ j k. clip32 (get_or l.e (k * 16 + j) (pos 0))) g.row.N l.j0 l.initial.dst l.dst l.j
