-- `advance::turns` meets its contract. Assumes nothing.
use native.Mathlib.Omega.{arith}
use Rattle.advance.proofs.turns.Goals as goal

pub has_bit-requires : goal.has_bit-requires
has_bit-requires c = (c.requires, omega (arith, c.cell_of.ensures))

pub returns : goal.returns
returns c = rw (c.depth_of.ensures, c.has_bit.ensures, c.cell_of.ensures)
