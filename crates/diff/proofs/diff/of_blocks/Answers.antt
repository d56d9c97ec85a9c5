-- `diff::diff::of_blocks` meets its contract: what is written was tested. Assumes nothing.
use mathlib.Core.Path.{refl}
use Rattle.block_rows.specs.Small.{apart_from}
use Rattle.block_rows.proofs.Tested.{some-marked, none-marked, none-small}
use Rattle.diff.proofs.diff.of_blocks.Goals as goal

pub returns-then-any-depth-ne0 : goal.returns-then-any-depth-ne0
returns-then-any-depth-ne0 c = record { answer = some-marked _ _ _ _ _ _ _ _ _ c.any_block-any.ensures c.if-any-depth-ne0.true; buffer = refl }

pub diff_block-requires : goal.diff_block-requires
diff_block-requires c = record { small = none-small _ _ _ _ _ _ _ _ _ c.any_block-any.ensures c.requires.deep c.if-any-depth-ne0.false; room = c.requires.room }

pub returns : goal.returns
unfolding apart_from
returns c =
    record { answer = none-marked _ _ _ _ _ _ _ _ _ c.any_block-any.ensures c.if-any-depth-ne0.false; buffer = c.diff_block.ensures }
