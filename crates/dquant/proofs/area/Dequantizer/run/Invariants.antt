-- `dquant::area::Dequantizer::run` meets its contract. The invariant: the area is the entry's with its first places done. Assumes nothing.
use mathlib.Core.Path.{◌≡◌}
use lib.IntN.{pos}
use lib.ListN.{length, get_or}
use Rattle.integers.specs.Lists.{written}
use Rattle.evc.specs.Dequantizer.{dequantized}
use Rattle.dquant.proofs.area.Dequantizer.run.Given as goal

abbrev pub invariant-loop-v : goal.invariant-loop-v
invariant-loop-v l =
    l.area ≡ written l.v-index (λ k. dequantized l.self.scale l.self.offset l.self.shift (get_or l.initial.area k (pos 0))) l.initial.area
