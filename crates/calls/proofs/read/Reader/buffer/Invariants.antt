-- `calls::read::Reader::buffer` is safe and ends: the numbers that are left are the measure. Assumes nothing.
use Rattle.std.proofs.Common.{◌-◌, length}
use Rattle.calls.proofs.read.Reader.buffer.Given as goal

abbrev pub decreases-loop-at : goal.decreases-loop-at
decreases-loop-at g l = length l.initial.items - l.at
