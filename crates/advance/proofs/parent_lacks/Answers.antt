-- `advance::parent_lacks` meets its contract. Assumes nothing.
use mathlib.Core.Bool.{not}
use mathlib.Core.Path.{ap}
use native.Mathlib.Omega.{arith}
use Rattle.marks.proofs.Blocks.{cells_all}
use Rattle.advance.proofs.parent_lacks.Goals as goal

pub mark_of-requires : goal.mark_of-requires
mark_of-requires c = let every = cells_all c.args.seen.now (omega (arith, c.requires.0.room)) in omega (arith, every, c.cell_of.ensures)

pub returns : goal.returns
returns c = ap not (rw (c.parent_of.ensures, c.mark_of.ensures, c.cell_of.ensures) at c.has_depth.ensures)
