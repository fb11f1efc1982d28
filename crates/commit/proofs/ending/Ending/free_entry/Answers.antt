-- `commit::ending::Ending::free_entry` meets its contract: the entry is freed or stays (proofs/Deciding.antt). Assumes nothing.
use Rattle.changes.proofs.Staging.{change_then}
use Rattle.commit.proofs.Deciding.{change_alone}
use Rattle.commit.proofs.ending.Ending.free_entry.Goals as goal

pub returns : goal.returns
returns c = let s = c.args.self.now in
    rw (c.then_some.ensures, change_then, c.depth_of.ensures, c.first_word.ensures) (change_alone s.entries.slots s.entries.words.now s.innermost.depth c.args.i c.requires.1)
