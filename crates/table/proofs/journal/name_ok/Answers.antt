-- `table::journal::name_ok` meets its contract. Assumes nothing.
use Rattle.words.specs.Journal.{name_ok}
use Rattle.table.proofs.journal.name_ok.Goals as goal

pub returns : goal.returns
unfolding name_ok
returns c = rw c.handle_at.ensures
