use Rattle.std.proofs.Common.{sym, ◌∙◌, length}
use Rattle.words.specs.Layout.{cells_of}
use Rattle.store.specs.State.{state_in}
use Rattle.store.proofs.Refused.{handed_on, question_no}
use Rattle.add.specs.Asked.{table_of, slots_in}
use Rattle.add.proofs.Listing.{counted_few, list_stop, list_go}
use Rattle.add.proofs.asked.Asking.list_check.Goals as goal

pub returns-in_err-new-clause-no : goal.returns-in_err-new-clause-no
returns-in_err-new-clause-no c =
    let q = c.args.self.now in
    handed_on _ _ c.from_residual.ensures.1
    ∙ list_stop (cells_of (length q.memory.now)) q.memory.now c.args.list.now (state_in (slots_in q) (table_of q) q.bodies.now) _ _ c.in_err-new.ensures.no (question_no _)

pub room_check-requires : goal.room_check-requires
room_check-requires c =
    let q = c.args.self.now in
    counted_few q.memory.now q.bodies.now (table_of q) q.store c.args.list.now _ _ c.in_ok-new.ensures.counted

pub returns-in_err-room_check-clause-no : goal.returns-in_err-room_check-clause-no
returns-in_err-room_check-clause-no c =
    let q = c.args.self.now in
    let n = c.in_ok-new.ensures.counted in
    handed_on _ _ c.from_residual-in_err-room_check.ensures.1 ∙ (rw (n.cells, n.copies) at c.in_err-room_check.ensures)
    ∙ list_go (cells_of (length q.memory.now)) q.memory.now c.args.list.now (state_in (slots_in q) (table_of q) q.bodies.now) _ (sym c.in_ok-new.ensures.no)

pub returns-clause-no : goal.returns-clause-no
returns-clause-no c =
    let q = c.args.self.now in
    let n = c.in_ok-new.ensures.counted in
    (rw (n.cells, n.copies) at c.in_ok-room_check.ensures)
    ∙ list_go (cells_of (length q.memory.now)) q.memory.now c.args.list.now (state_in (slots_in q) (table_of q) q.bodies.now) _ (sym c.in_ok-new.ensures.no)
