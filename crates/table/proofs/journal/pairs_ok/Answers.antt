-- `table::journal::pairs_ok` meets its contract. Assumes nothing.
use Rattle.std.proofs.Common.{le-leb}
use Rattle.std.proofs.lemmas.Bool.{lt-leb}
use Rattle.table.specs.Rule.{pairs_ok}
use Rattle.table.proofs.journal.pairs_ok.Goals as goal

pub returns-then-max_pairs-count : goal.returns-then-max_pairs-count
unfolding pairs_ok
returns-then-max_pairs-count c = rw (lt-leb _ _ (rw (c.max_pairs.ensures, c.wide-count.ensures) at c.if-max_pairs-count.true))

pub returns : goal.returns
unfolding pairs_ok
returns c = rw (le-leb _ _ (rw (c.max_pairs.ensures, c.wide-count.ensures) at c.if-max_pairs-count.false), c.names_ok.ensures, c.pairs_at.ensures, c.wide-count.ensures)
