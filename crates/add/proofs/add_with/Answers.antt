use Rattle.std.proofs.Common.{ℕ, sym, ◌∙◌, length, arith}
use lib.ListN.{length-replicate}
use Rattle.words.specs.Layout.{slots_of}
use Rattle.marks.proofs.Blocks.{blank_zeros, kept_cells}
use Rattle.table.specs.Marks.{zeros}
use Rattle.table.proofs.Marks.{marked_holds}
use Rattle.search.proofs.Free.{unmarked_free}
use Rattle.store.proofs.Checked.{checked_ends}
use Rattle.store.proofs.Refused.{question_no, answer_refused}
use Rattle.add.proofs.Readied.{add_ready}
use Rattle.add.proofs.Listing.{list_facts}
use Rattle.add.proofs.Added.{add_refused, add_performed}
use Rattle.add.proofs.add_with.Goals as goal

pub add_check-requires : goal.add_check-requires
unfolding zeros
add_check-requires g c =
    record {
      room = rw length-replicate c.requires.room.0;
      bodies = length-replicate {A = ℕ} 4096 0;
      no_cells = blank_zeros g.row.BYTES;
      no_bodies = blank_zeros 4096;
      reached = c.requires.reached;
    }

pub returns-in_err-new : goal.returns-in_err-new
returns-in_err-new g c =
    let a = c.args in
    answer_refused _ _ c.from_residual.ensures.1
    (add_refused a.memory.now a.bodies.now a.table.now a.handle a.list.now a.budget _ c.in_err-new.ensures.no (question_no _))

pub invariant_of-fitting : goal.invariant_of-fitting
invariant_of-fitting g c =
    let a = c.args in
    let good = sym c.in_ok-new.ensures.no in
    let f = list_facts a.memory.now a.bodies.now a.table.now a.handle a.list.now good in
    record { few = f.1; within = rw c.cells_of.ensures f.2; filled = f.3 }

pub add_stores-steps-requires-clause-able : goal.add_stores-steps-requires-clause-able
add_stores-steps-requires-clause-able g c =
    let a = c.args in
    let marks = c.in_ok-new.ensures.marks in
    record {
      ready = add_ready a.memory.now a.bodies.now a.table.now a.handle a.list.now (sym c.in_ok-new.ensures.no);
      holders = marked_holds (slots_of (length a.table.now)) a.table.now _ marks.cells;
      in_use = unmarked_free (slots_of (length a.table.now)) a.table.now _ marks.copies;
      cells = omega (arith, kept_cells _ marks.kept);
      places = c.add_check.auto.used ∙ length-replicate {A = ℕ} 4096 0;
    }

pub add_stores-steps-requires-clause-new : goal.add_stores-steps-requires-clause-new
add_stores-steps-requires-clause-new g c =
    let a = c.args in
    let ready = add_ready a.memory.now a.bodies.now a.table.now a.handle a.list.now (sym c.in_ok-new.ensures.no) in
    (checked_ends _ _ a.table.now ready.store a.top c.requires.reached, c.in_ok-new.ensures.counted.cells)

pub returns : goal.returns
returns g c =
    let a = c.args in
    add_performed a.memory.now a.bodies.now a.table.now a.handle a.list.now a.budget c.add_stores-steps.result _ _ _ (sym c.in_ok-new.ensures.no)
    c.add_stores-steps.ensures.steps c.add_stores-steps.ensures.bytes c.add_stores-steps.ensures.words c.answer_of.ensures
