-- `sad_answer::sad_answer` meets its contract. Assumes nothing.
use Rattle.std.proofs.Common.{◌-◌, ◌/◌, ◌^◌, sym}
use Rattle.sad_answer.proofs.Answered.{in32-min}
use Rattle.sad_answer.proofs.sad_answer.Goals as goal

pub returns : goal.returns
returns c =
    let a = c.args in
    rw (sym c.if-bad_depth.ensures, sym c.if-bad_samples.ensures, c.min-value.ensures, in32-min (a.sum / 2 ^ (a.depth - 8)))
