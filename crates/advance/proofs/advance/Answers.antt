-- `advance::advance` meets its contract. Assumes nothing.
use mathlib.Core.Path.{ap, ◌∙◌}
use Rattle.store.proofs.Means.{visible_of}
use Rattle.advance.proofs.Advanced.{advance_means_lem}
use Rattle.advance.proofs.advance.Goals as goal

pub returns-then-blocks-le-FEW_BLOCKS-clause-means : goal.returns-then-blocks-le-FEW_BLOCKS-clause-means
returns-then-blocks-le-FEW_BLOCKS-clause-means c = ap visible_of c.advance_with.ensures ∙ advance_means_lem _ _ _

pub returns-then-blocks-le-SOME_BLOCKS-clause-means : goal.returns-then-blocks-le-SOME_BLOCKS-clause-means
returns-then-blocks-le-SOME_BLOCKS-clause-means c = ap visible_of c.advance_with-then-blocks-le-SOME_BLOCKS.ensures ∙ advance_means_lem _ _ _

pub returns-else-blocks-le-SOME_BLOCKS-clause-means : goal.returns-else-blocks-le-SOME_BLOCKS-clause-means
returns-else-blocks-le-SOME_BLOCKS-clause-means c = ap visible_of c.advance_with-else-blocks-le-SOME_BLOCKS.ensures ∙ advance_means_lem _ _ _
