-- `table::lengths_ok` meets its contract. Assumes nothing.
use Rattle.table.specs.Checks.{lengths_ok}
use Rattle.table.proofs.lengths_ok.Goals as goal

pub returns : goal.returns
unfolding lengths_ok
returns c = rw (c.cell_at.ensures, c.cell_at-2.ensures, c.table_words.ensures, c.cells_of-m.ensures, c.bodies_of-b.ensures, c.slots_of-e.ensures)
