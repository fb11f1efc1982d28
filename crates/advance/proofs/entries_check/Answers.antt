-- `advance::entries_check` meets its contract. Assumes nothing.
use Prim.Native.Nat.{◌+◌}
use mathlib.Core.Bool.{not}
use mathlib.Core.Path.{◌≡◌, sym, ◌∙◌}
use native.Mathlib.Omega.{arith}
use borrow.Author.Tests.{le-leb, lt-leb}
use lib.Dec.{leb}
use lib.ListN.{length}
use Rattle.words.specs.Layout.{bodies_of}
use Rattle.words.specs.Scan.{count}
use Rattle.words.proofs.Scan.{count_le}
use Rattle.table.specs.Entry.{live}
use Rattle.search.specs.Free.{slot_free, is_copy, used_slots, copies}
use Rattle.values.specs.Values.{entry_changed}
use Rattle.store.proofs.Checks.{ask_go, ask_stop}
use Rattle.advance.specs.Notes.{entry_given}
use Rattle.advance.proofs.Noting.{given_entries}
use Rattle.advance.proofs.entries_check.Goals as goal

pub overflow_add-used : goal.overflow_add-used
unfolding used_slots
overflow_add-used c =
    let a = c.args in
    let e = a.table.now.entries in
    let told = c.count_given-given.ensures ∙ given_entries a.memory.now a.bodies.now e.slots e.words.now e.top a.seen.now _ c.requires.comparable c.changed_cells-k.ensures.bits in
    omega (arith, c.count_used-used.ensures.0, told, count_le e.slots (entry_given a.memory.now a.bodies.now e.slots e.words.now), count_le e.slots (λ i. not (slot_free e.slots e.words.now i)), e.few)

pub returns-then-table-used-clause-no : goal.returns-then-table-used-clause-no
returns-then-table-used-clause-no c =
    let a = c.args in
    let e = a.table.now.entries in
    let told = c.count_given-given.ensures ∙ given_entries a.memory.now a.bodies.now e.slots e.words.now e.top a.seen.now _ c.requires.comparable c.changed_cells-k.ensures.bits in
    let wanted : leb (c.count_used-used.result.entries + c.count_given-given.result) e.slots
    ≡ leb (used_slots e.slots e.words.now + count e.slots (entry_given a.memory.now a.bodies.now e.slots e.words.now)) e.slots =
    λ j. leb (c.count_used-used.ensures.0 j + told j) e.slots in
    sym (ask_stop _ 16 _ (sym wanted ∙ lt-leb _ _ c.if-table-used.true))

pub overflow_add-used-2 : goal.overflow_add-used-2
unfolding copies
overflow_add-used-2 c =
    let a = c.args in
    let e = a.table.now.entries in
    omega (arith, c.count_used-used.ensures.1, c.changed_cells-k.ensures.counted, count_le e.slots (is_copy e.slots e.words.now), count_le e.slots (entry_changed a.memory.now a.bodies.now e.slots e.words.now (live e.words.now)), e.few)

pub returns-then-bodies_of-used-clause-no : goal.returns-then-bodies_of-used-clause-no
returns-then-bodies_of-used-clause-no c =
    let a = c.args in
    let e = a.table.now.entries in
    let n = live e.words.now in
    let told = c.count_given-given.ensures ∙ given_entries a.memory.now a.bodies.now e.slots e.words.now e.top a.seen.now _ c.requires.comparable c.changed_cells-k.ensures.bits in
    let fits : leb (c.count_used-used.result.entries + c.count_given-given.result) e.slots
    ≡ leb (used_slots e.slots e.words.now + count e.slots (entry_given a.memory.now a.bodies.now e.slots e.words.now)) e.slots =
    λ j. leb (c.count_used-used.ensures.0 j + told j) e.slots in
    let wanted : leb (c.count_used-used.result.copies + c.changed_cells-k.result) c.bodies_of.result
    ≡ leb (copies e.slots e.words.now + count e.slots (entry_changed a.memory.now a.bodies.now e.slots e.words.now n)) (bodies_of (length a.bodies.now)) =
    λ j. leb (c.count_used-used.ensures.1 j + c.changed_cells-k.ensures.counted j) (c.bodies_of.ensures j) in
    sym (ask_go _ 16 _ (sym fits ∙ le-leb _ _ c.if-table-used.false) ∙ ask_stop _ 17 0 (sym wanted ∙ lt-leb _ _ c.if-bodies_of-used.true))

pub returns-clause-no : goal.returns-clause-no
returns-clause-no c =
    let a = c.args in
    let e = a.table.now.entries in
    let n = live e.words.now in
    let told = c.count_given-given.ensures ∙ given_entries a.memory.now a.bodies.now e.slots e.words.now e.top a.seen.now _ c.requires.comparable c.changed_cells-k.ensures.bits in
    let fits : leb (c.count_used-used.result.entries + c.count_given-given.result) e.slots
    ≡ leb (used_slots e.slots e.words.now + count e.slots (entry_given a.memory.now a.bodies.now e.slots e.words.now)) e.slots =
    λ j. leb (c.count_used-used.ensures.0 j + told j) e.slots in
    let wanted : leb (c.count_used-used.result.copies + c.changed_cells-k.result) c.bodies_of.result
    ≡ leb (copies e.slots e.words.now + count e.slots (entry_changed a.memory.now a.bodies.now e.slots e.words.now n)) (bodies_of (length a.bodies.now)) =
    λ j. leb (c.count_used-used.ensures.1 j + c.changed_cells-k.ensures.counted j) (c.bodies_of.ensures j) in
    sym (ask_go _ 16 _ (sym fits ∙ le-leb _ _ c.if-table-used.false) ∙ ask_go _ 17 0 (sym wanted ∙ le-leb _ _ c.if-bodies_of-used.false))

pub returns-clause-given : goal.returns-clause-given
returns-clause-given c =
    let a = c.args in
    let e = a.table.now.entries in
    c.count_given-given.ensures ∙ given_entries a.memory.now a.bodies.now e.slots e.words.now e.top a.seen.now _ c.requires.comparable c.changed_cells-k.ensures.bits
