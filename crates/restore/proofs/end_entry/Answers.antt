-- `end_entry` meets its contract. Assumes nothing.
use Rattle.changes.proofs.Staging.{change_then}
use Rattle.restore.specs.Restore.{restore_change}
use Rattle.restore.proofs.end_entry.Goals as goal

pub returns : goal.returns
unfolding restore_change
returns c = rw (c.then_some.ensures, c.is_inside.ensures, c.depth_of.ensures, c.first_word.ensures) (change_then _ (0, 0))
