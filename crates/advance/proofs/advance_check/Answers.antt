-- `advance::advance_check` meets its contract. Assumes nothing.
use mathlib.Core.Path.{sym, ◌∙◌}
use native.Mathlib.Omega.{arith}
use Rattle.store.specs.Outcome.{buffers}
use Rattle.store.proofs.Checks.{or_else_go, store_lengths}
use Rattle.store.proofs.Raw.{check_rule}
use Rattle.store.proofs.Refused.{handed_on, refused_before, innermost_before}
use Rattle.advance.proofs.Noting.{given_count, turned_advances}
use Rattle.advance.proofs.Advanced.{check_is, advance_slots, advance_room}
use Rattle.advance.proofs.Asked.{lives, asked, comparable}
use Rattle.advance.proofs.advance_check.Goals as goal

pub returns-in_err-sound-clause-no : goal.returns-in_err-sound-clause-no
returns-in_err-sound-clause-no c = refused_before _ _ c.from_residual.ensures.1 _ _ c.in_err-sound.ensures.no ∙ sym (check_is _ _)

pub returns-in_err-innermost_check-clause-no : goal.returns-in_err-innermost_check-clause-no
returns-in_err-innermost_check-clause-no c =
    innermost_before _ _ c.from_residual-in_err-innermost_check.ensures.1 _ _ _ c.in_err-innermost_check.ensures.no ∙ sym (check_is _ _ ∙ or_else_go _ _ (sym c.in_ok-sound.ensures.no))

pub entries_check-requires-clause-comparable : goal.entries_check-requires-clause-comparable
entries_check-requires-clause-comparable c =
    let q = c.in_ok-sound.ensures in
    comparable _ _ _ _ _ _ q.sound q.no c.in_ok-innermost_check.ensures.no c.requires.room.reached _ _ q.marks

pub returns-in_err-given-clause-no : goal.returns-in_err-given-clause-no
returns-in_err-given-clause-no c =
    let q = c.in_ok-sound.ensures in
    handed_on _ _ c.from_residual-in_err-given.ensures.1 ∙ asked _ _ _ _ _ _ q.sound q.no c.in_ok-innermost_check.ensures.no _ c.in_err-given.ensures.no

pub returns-clause-no : goal.returns-clause-no
returns-clause-no c = let q = c.in_ok-sound.ensures in asked _ _ _ _ _ _ q.sound q.no c.in_ok-innermost_check.ensures.no _ c.in_ok-given.ensures.no

pub returns-clause-ready : goal.returns-clause-ready
returns-clause-ready c =
    let a = c.args in
    let q = c.in_ok-sound.ensures in
    let inner = c.in_ok-innermost_check.ensures.no in
    let b = buffers a.memory.now a.bodies.now a.table.now in
    let pass = sym q.no in
    let no = asked _ _ _ _ _ _ q.sound q.no inner _ c.in_ok-given.ensures.no in
    let low = lives a.memory.now a.bodies.now a.table.now a.handle _ _ q.sound q.no inner in
    let f = store_lengths _ _ a.table.now pass in
    let ok = check_rule _ _ a.table.now pass in
    let bits = rw (q.sound.words, q.sound.slots) at c.in_ok-given.ensures.bits in (
      record {
        stands = pass;
        lives = low;
        slots = advance_slots b a.handle (sym no);
        room = advance_room b a.handle (sym no);
        marks = q.marks.copies;
      },
      record {
        cells = record { each = turned_advances a.memory.now a.bodies.now a.table.now ok low _ bits.turned };
        blocks = record {
          kept = q.marks.kept;
          room = omega (arith, c.store_check.auto.seen, c.entries_check.auto.bits, c.requires.blank.0);
          front = bits.front;
        };
        ends = (c.requires.room.reached f.slots_low f.slots_high).0;
        marked = q.marks.cells;
        number = (rw (q.sound.words, q.sound.slots) at c.in_ok-given.ensures.given) ∙ given_count a.memory.now a.bodies.now a.table.now ok low;
      },
    )
