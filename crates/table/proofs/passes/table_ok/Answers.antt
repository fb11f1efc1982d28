-- `table::passes::table_ok` meets its contract. Assumes nothing.
use Rattle.std.proofs.Common.{sym}
use Rattle.table.specs.Rule.{table_ok}
use Rattle.table.proofs.passes.table_ok.Goals as goal

pub returns-then-not-pairs_ok : goal.returns-then-not-pairs_ok
unfolding table_ok
returns-then-not-pairs_ok c = rw (sym c.if-not-pairs_ok.ensures)

pub returns : goal.returns
unfolding table_ok
returns c = rw (sym c.if-not-pairs_ok.ensures) c.pending_ok.ensures
