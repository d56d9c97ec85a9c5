-- `plane_tests::tests::bad_sides` meets its contract. Assumes nothing.
use mathlib.Core.Path.{ap₂}
use mathlib.Core.Bool.{◌||◌}
use Rattle.plane_tests.proofs.tests.bad_sides.Goals as goal

pub returns : goal.returns
returns c = ap₂ ◌||◌ c.outside.ensures c.outside-2.ensures
