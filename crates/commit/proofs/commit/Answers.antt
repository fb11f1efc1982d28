-- `commit::commit` meets its contract: what its outcome means (proofs/Committed.antt). Assumes nothing.
use Rattle.commit.proofs.Committed.{commit_shows}
use Rattle.commit.proofs.commit.Goals as goal

pub returns-then-blocks-le-FEW_BLOCKS-clause-means : goal.returns-then-blocks-le-FEW_BLOCKS-clause-means
returns-then-blocks-le-FEW_BLOCKS-clause-means c = commit_shows c.args.handle _ _ _ _ c.commit_with.ensures

pub returns-then-blocks-le-SOME_BLOCKS-clause-means : goal.returns-then-blocks-le-SOME_BLOCKS-clause-means
returns-then-blocks-le-SOME_BLOCKS-clause-means c = commit_shows c.args.handle _ _ _ _ c.commit_with-then-blocks-le-SOME_BLOCKS.ensures

pub returns-else-blocks-le-SOME_BLOCKS-clause-means : goal.returns-else-blocks-le-SOME_BLOCKS-clause-means
returns-else-blocks-le-SOME_BLOCKS-clause-means c = commit_shows c.args.handle _ _ _ _ c.commit_with-else-blocks-le-SOME_BLOCKS.ensures
