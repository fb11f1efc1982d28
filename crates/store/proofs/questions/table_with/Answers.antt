-- `store::questions::table_with` meets its contract: there is room for the marks, and none is made yet. Assumes nothing.
use Prim.Native.Nat.{ℕ}
use lib.ListN.{length-replicate}
use Rattle.marks.proofs.Blocks.{blank_zeros}
use Rattle.table.specs.Marks.{zeros}
use Rattle.store.proofs.questions.table_with.Goals as goal

pub table_marked-requires-clause-room : goal.table_marked-requires-clause-room
unfolding zeros
table_marked-requires-clause-room g c = record {
  room = rw (length-replicate {A = ℕ}) c.requires.room.1;
  bodies = length-replicate {A = ℕ} 4096 0;
  no_cells = blank_zeros g.row.BYTES;
  no_bodies = blank_zeros 4096;
  reached = c.requires.reached;
}
