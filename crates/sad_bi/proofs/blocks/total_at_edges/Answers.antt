-- `sad_bi::blocks::total_at_edges` meets its contract. Assumes nothing.
use Rattle.sad_bi.proofs.Ends.{counted-all, standing-counted}
use Rattle.sad_bi.proofs.blocks.total_at_edges.Goals as goal

pub returns-in-Some : goal.returns-in-Some
returns-in-Some c = standing-counted c.in-Some.ensures.some c.total.ensures

pub returns-in-None : goal.returns-in-None
returns-in-None c = counted-all _ _ _ _ c.compare_at_edges.ensures
