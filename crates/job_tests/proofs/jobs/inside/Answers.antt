-- `job_tests::jobs::inside` meets its contract. Assumes nothing.
use Rattle.job_tests.proofs.Areas.{past-short, past-left}
use borrow.Author.Tests.{lt-ltb, le-ltb}
use Prim.Native.Nat.{◌-◌}
use mathlib.Core.Path.{sym}
use Rattle.job_tests.proofs.jobs.inside.Goals.{then-len-n-via-then-len-n, then-len-n-via-else-len-n+then-len-n-2}
use Rattle.job_tests.proofs.jobs.inside.Goals as goal

pub returns-then-len-n : goal.returns-then-len-n
returns-then-len-n c =
    let j = c.args.sized.job in
    elim c.then-len-n.branch [
      | then-len-n-via-then-len-n w ↦ rw (sym (past-short j _ c.samples-n.ensures _ w.if-len-n.true))
      | then-len-n-via-else-len-n+then-len-n-2 w ↦
          rw (sym (past-left j _ c.samples-n.ensures c.args.len w.if-len-n.false), lt-ltb (c.args.len - c.samples-n.result) j.start w.if-len-n-2.true)
    ]

pub returns : goal.returns
returns c =
    let j = c.args.sized.job in
    rw (sym (past-left j _ c.samples-n.ensures c.args.len c.if-len-n.false), le-ltb (c.args.len - c.samples-n.result) j.start c.if-len-n-2.false)
