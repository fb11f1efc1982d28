-- `delete::free_entry` meets its contract: the entry is kept or freed. Assumes nothing.
use mathlib.Core.Path.{refl}
use Rattle.changes.proofs.Staging.{change_then}
use Rattle.delete.specs.Delete.{delete_change}
use Rattle.delete.proofs.free_entry.Goals as goal

pub returns : goal.returns
unfolding delete_change
returns c = rw (c.then_some.ensures, change_then, c.frees.ensures, c.first_word.ensures) refl
