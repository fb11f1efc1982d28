-- `advance::advance_with` meets its contract. Assumes nothing.
use Prim.Native.Nat.{ℕ}
use mathlib.Core.Path.{sym, ◌∙◌}
use lib.ListN.{length-replicate}
use Rattle.marks.proofs.Blocks.{blank_zeros}
use Rattle.table.specs.Marks.{zeros}
use Rattle.store.proofs.Refused.{question_no, answer_refused}
use Rattle.advance.proofs.Advanced.{advance_refused, advance_goes}
use Rattle.advance.proofs.advance_with.Goals as goal

pub advance_check-requires-clause-room : goal.advance_check-requires-clause-room
unfolding zeros
advance_check-requires-clause-room g c = record {
  room = rw length-replicate c.requires.room.0;
  bodies = length-replicate {A = ℕ} 4096 0;
  no_cells = blank_zeros g.row.BYTES;
  no_bodies = blank_zeros 4096;
  reached = c.requires.reached;
}

pub returns-in_err-given : goal.returns-in_err-given
returns-in_err-given g c =
    let a = c.args in
    answer_refused _ _ c.from_residual.ensures.1 (advance_refused a.memory.now a.bodies.now a.table.now a.handle a.budget _ c.in_err-given.ensures.no (question_no _))

pub returns : goal.returns
returns g c =
    let a = c.args in
    c.advance_stored.ensures ∙ advance_goes a.memory.now a.bodies.now a.table.now a.handle a.budget (sym c.in_ok-given.ensures.no)
