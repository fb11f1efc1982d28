-- `restore` meets its contract: the outcome of the call means what the model says. Assumes nothing.
use Rattle.restore.proofs.Restored.{restore_shown}
use Rattle.restore.proofs.restore.Goals as goal

pub returns-then-blocks-le-FEW_BLOCKS-clause-means : goal.returns-then-blocks-le-FEW_BLOCKS-clause-means
returns-then-blocks-le-FEW_BLOCKS-clause-means c = restore_shown c.args.handle c.args.budget _ c.restore_with.ensures

pub returns-then-blocks-le-SOME_BLOCKS-clause-means : goal.returns-then-blocks-le-SOME_BLOCKS-clause-means
returns-then-blocks-le-SOME_BLOCKS-clause-means c = restore_shown c.args.handle c.args.budget _ c.restore_with-then-blocks-le-SOME_BLOCKS.ensures

pub returns-else-blocks-le-SOME_BLOCKS-clause-means : goal.returns-else-blocks-le-SOME_BLOCKS-clause-means
returns-else-blocks-le-SOME_BLOCKS-clause-means c = restore_shown c.args.handle c.args.budget _ c.restore_with-else-blocks-le-SOME_BLOCKS.ensures
