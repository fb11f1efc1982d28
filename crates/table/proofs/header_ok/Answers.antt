-- `table::header_ok` meets its contract. Assumes nothing.
use Rattle.table.specs.Checks.{header_ok}
use Rattle.table.proofs.header_ok.Goals as goal

pub returns : goal.returns
unfolding header_ok
returns c = rw (c.wide.ensures, c.wide-2.ensures, c.wide-3.ensures, c.slots_of-slots.ensures, c.cells_of.ensures, c.bodies_of.ensures)
