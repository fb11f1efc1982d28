-- `commit::ending::Inner::moves_out` meets its contract. Assumes nothing.
use borrow.Author.Tests.{le-leb}
use Rattle.commit.proofs.ending.Inner.moves_out.Goals as goal

pub returns : goal.returns
returns c = rw (le-leb 2 _ c.args.self.within.0, c.depth_of.ensures, c.has_depth.ensures, c.parent_of.ensures)
