-- `dquant::area::Dequantizer::each` meets its contract. The invariant: the area is the entry's with its first i fours done. Assumes nothing.
use Prim.Native.Nat.{◌-◌, ◌/◌}
use lib.IntN.{pos}
use lib.ListN.{length, get_or}
use Rattle.integers.proofs.Grid.{Wrote}
use Rattle.evc.specs.Dequantizer.{dequantized}
use Rattle.dquant.proofs.area.Dequantizer.each.Given as goal

abbrev pub invariant-loop-i : goal.invariant-loop-i
invariant-loop-i l =
    Wrote 4 (length l.initial.area / 4) (λ k. dequantized l.self.scale l.self.offset l.self.shift (get_or l.initial.area k (pos 0))) l.initial.area l.area l.i

abbrev pub decreases-loop-i : goal.decreases-loop-i
decreases-loop-i l = l.i-end - l.i
