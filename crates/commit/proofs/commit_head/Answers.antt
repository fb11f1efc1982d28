-- `commit::commit_head` meets its contract. Assumes nothing.
use Rattle.commit.proofs.commit_head.Goals as goal

pub returns : goal.returns
returns c =
    let one = rw c.none.ensures.stored at c.with.ensures.stored in
    rw (one, c.handle_at.ensures, c.parent_of-left.ensures) at c.with-2.ensures.stored
