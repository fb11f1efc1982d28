-- `advance::copy_entry` meets its contract. Assumes nothing.
use Rattle.advance.proofs.copy_entry.Goals as goal

pub returns : goal.returns
returns g c = record { copied = rw (c.cell_of.ensures, c.first_word-word.ensures) at c.copy_cell.ensures; staged = rw (c.to_copy.ensures, c.first_word-word.ensures) at c.stage_entry.ensures }
