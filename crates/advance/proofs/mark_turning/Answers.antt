-- `advance::mark_turning` meets its contract. Assumes nothing.
use Prim.Native.Nat.{ℕ}
use mathlib.Core.Path.{ap}
use native.Mathlib.Omega.{arith}
use Rattle.words.specs.Layout.{group_of}
use Rattle.marks.specs.Blocks.{block_of}
use Rattle.advance.proofs.mark_turning.Goals as goal

pub block_of-b-requires : goal.block_of-b-requires
block_of-b-requires c = omega (arith, c.group_of.ensures, c.cell_of-cell.ensures)

pub bounds-bits-b : goal.bounds-bits-b
bounds-bits-b c = omega (arith, c.requires.1, c.block_of-b.ensures.0, ap (λ (x : ℕ). block_of c.args.seen.now (group_of x)) c.cell_of-cell.ensures, ap (block_of c.args.seen.now) c.group_of.ensures)

pub bounds-bits-b-2 : goal.bounds-bits-b-2
bounds-bits-b-2 c = omega (arith, c.requires.1, c.block_of-b.ensures.0, ap (λ (x : ℕ). block_of c.args.seen.now (group_of x)) c.cell_of-cell.ensures, ap (block_of c.args.seen.now) c.group_of.ensures)

pub returns : goal.returns
returns c = rw (c.with_bit.ensures, c.block_of-b.ensures.0, c.group_of.ensures, c.cell_of-cell.ensures)
