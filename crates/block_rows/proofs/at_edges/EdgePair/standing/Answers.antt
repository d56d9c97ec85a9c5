-- `block_rows::at_edges::EdgePair::standing` meets its contract. Assumes nothing.
use Rattle.std.proofs.Common.{refl}
use mir.Syntax.{w16}
use mir.Val.{SFits}
use borrow.Author.Rules.{sfits_of}
use Rattle.block_rows.proofs.AtEdges.{Plain, is_plain, stands, plain-same, plain-inside}
use Rattle.block_rows.proofs.at_edges.EdgePair.standing.Given.{Over}
use Rattle.block_rows.proofs.at_edges.EdgePair.standing.Goals.{Else-negative}
use Rattle.block_rows.proofs.at_edges.EdgePair.standing.Goals as goal

-- the positions have 16 bits
x-fits : (g : Over) (c : Else-negative g) → SFits w16 c.args.self.now.mv_x
x-fits g c = sfits_of c.fits-self.1.1.1.1.1.0.1

y-fits : (g : Over) (c : Else-negative g) → SFits w16 c.args.self.now.mv_y
y-fits g c = sfits_of c.fits-self.1.1.1.1.1.1.0.1

-- neither is negative
plain : (g : Over) (c : Else-negative g) → let s = c.args.self.now in Plain s.mv_x s.mv_y
plain g c = is_plain (x-fits g c) (y-fits g c) c.negative.ensures c.if-negative.false

pub invariant_of-result : goal.invariant_of-result
invariant_of-result g c =
    let s = c.args.self.now in
    let b = (goal.at.invariant_of-result g c).Else-negative in
    let e = stands s.ref_stride (x-fits g b) (y-fits g b) c.row_start-first.ensures in
    record {
      inside = record {
        narrow = s.inside.two.narrow;
        low = s.inside.two.low;
        one = s.inside.one;
        two = plain-inside s.ref_stride (plain g b) e s.inside.two;
      };
    }

pub returns-clause-some : goal.returns-clause-some
returns-clause-some g c =
    let s = c.args.self.now in
    let b = (goal.at.returns-clause-some g c).Else-negative in
    let e = stands s.ref_stride (x-fits g b) (y-fits g b) c.row_start-first.ensures in
    let k = plain-same s.ref_stride (plain g b) e s.reference.now in
    record { width = refl; height = refl; values = refl; start = refl; stride = refl; reads = k.at }
