-- `ssd::edges::total` meets its contract. Assumes nothing.
use Rattle.std.proofs.Common.{bit_or}
use mir.Syntax.{w16}
use mir.Val.{SFits}
use borrow.Author.Rules.{sfits_of}
use Rattle.block_rows.proofs.Cells.{blocks-alike}
use Rattle.block_rows.proofs.AtEdges.{Plain, is_plain, stands, plain-same, plain-inside}
use Rattle.ssd.specs.Squares.{squared_low}
use Rattle.ssd.proofs.edges.total.Goals.{Else-negative}
use Rattle.ssd.proofs.edges.total.Goals as goal

-- the positions have 16 bits
x-fits : (c : Else-negative) → SFits w16 c.args.pair.now.x
x-fits c = sfits_of c.fits-pair.1.1.1.1.0.1

y-fits : (c : Else-negative) → SFits w16 c.args.pair.now.y
y-fits c = sfits_of c.fits-pair.1.1.1.1.1.0.1

-- neither is negative
plain : (c : Else-negative) → let p = c.args.pair.now in Plain p.x p.y
plain c = is_plain (x-fits c) (y-fits c) c.negative.ensures c.if-negative.false

pub invariant_of-ssd_block : goal.invariant_of-ssd_block
invariant_of-ssd_block c =
    let p = c.args.pair.now in
    let b = (goal.at.invariant_of-ssd_block c).Else-negative in
    let e = c.row_start-first.ensures in
    record {
      inside = record {
        narrow = p.first.narrow;
        low = p.first.low;
        one = plain-inside p.stride1 (plain b) (stands p.stride1 (x-fits b) (y-fits b) e) p.first;
        two = plain-inside p.stride2 (plain b) (stands p.stride2 (x-fits b) (y-fits b) e) p.second;
      };
    }

pub returns : goal.returns
returns c =
    let p = c.args.pair.now in
    let b = (goal.at.returns c).Else-negative in
    let e = c.row_start-first.ensures in
    blocks-alike (squared_low c.args.ssd.depth) bit_or p.w (plain-same p.stride1 (plain b) (stands p.stride1 (x-fits b) (y-fits b) e) p.one.now)
    (plain-same p.stride2 (plain b) (stands p.stride2 (x-fits b) (y-fits b) e) p.two.now) c.ssd_block.ensures
