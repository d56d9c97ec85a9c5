-- `block_rows::blocks::BlockPair::row` meets its contract. Assumes nothing.
use Rattle.block_rows.proofs.Cells.{row-part}
use Rattle.block_rows.proofs.blocks.BlockPair.row.Goals as goal

pub returns-clause-first : goal.returns-clause-first
returns-clause-first g c =
    let s = c.args.self.now in
    row-part s.a.now s.a_at s.a_stride c.args.j c.args.w

pub returns-clause-second : goal.returns-clause-second
returns-clause-second g c =
    let s = c.args.self.now in
    row-part s.b.now s.b_at s.b_stride c.args.j c.args.w
