-- `first_depth` meets its contract: the lowest bit that is set is the outermost depth. Assumes nothing.
use borrow.Author.Rules.{rules}
use Rattle.restore.proofs.Marking.{first_found}
use Rattle.restore.proofs.holdings.first_depth.Goals as goal

pub returns : goal.returns
returns c = rw c.from.ensures (first_found c.args.held (search rules) c.requires)
