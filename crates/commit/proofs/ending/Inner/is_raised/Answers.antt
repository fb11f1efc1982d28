-- `commit::ending::Inner::is_raised` meets its contract. Assumes nothing.
use borrow.Author.Tests.{le-leb}
use Rattle.commit.proofs.ending.Inner.is_raised.Goals as goal

pub returns : goal.returns
returns c = rw (le-leb 2 _ c.args.self.within.0, c.depth_of.ensures, c.parent_of.ensures, c.writable_of.ensures, c.has_depth.ensures)
