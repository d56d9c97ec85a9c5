-- `plane_tests::tests::bad_even_sides` meets its contract. Assumes nothing.
use Rattle.plane_tests.proofs.tests.bad_even_sides.Goals as goal

pub returns : goal.returns
returns c = rw (c.outside.ensures, c.outside-2.ensures)
