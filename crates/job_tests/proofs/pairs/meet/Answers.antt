-- `job_tests::pairs::meet` meets its contract. Assumes nothing.
use Rattle.job_tests.proofs.pairs.Overlaps.{first-meets, second-meets}
use Rattle.job_tests.proofs.pairs.meet.Goals as goal

pub returns-then-a-b : goal.returns-then-a-b
returns-then-a-b c = first-meets c.args.j.job c.args.k.job _ c.samples.ensures c.if-a-b.true

pub returns-else-a-b : goal.returns-else-a-b
returns-else-a-b c = second-meets c.args.j.job c.args.k.job _ c.samples-else-a-b.ensures c.if-a-b.false
