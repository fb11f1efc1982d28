-- `advance::give_one` meets its contract. Assumes nothing.
use Prim.Native.Nat.{ℕ, ◌+◌}
use mathlib.Core.Bool.{true, false}
use mathlib.Core.Path.{◌≡◌, sym, ap, ◌∙◌}
use native.Mathlib.Omega.{arith}
use borrow.Author.Tests.{not-true, not-false}
use Rattle.words.proofs.Scan.{true≢}
use Rattle.table.specs.Entry.{word1}
use Rattle.advance.specs.Notes.{lacks_it}
use Rattle.advance.proofs.Found.{found_some, found_is}
use Rattle.advance.proofs.Giving.{passed_over}
use Rattle.advance.proofs.give_one.Goals as goal

pub returns-then-not-parent_lacks : goal.returns-then-not-parent_lacks
returns-then-not-parent_lacks g c =
    let a = c.args in
    let told : lacks_it a.seen.now a.live (word1 a.entries.now.slots a.entries.now.words.now a.i) ≡ false =
    sym (c.parent_lacks.ensures ∙ ap (lacks_it a.seen.now a.live) c.first_word-word.ensures) ∙ not-true _ c.if-not-parent_lacks.true-raw in
    passed_over told

pub unwrap-slot-requires : goal.unwrap-slot-requires
unwrap-slot-requires g c =
    let a = c.args in
    let told : lacks_it a.seen.now a.live (word1 a.entries.now.slots a.entries.now.words.now a.i) ≡ true =
    sym (c.parent_lacks.ensures ∙ ap (lacks_it a.seen.now a.live) c.first_word-word.ensures) ∙ not-false _ c.if-not-parent_lacks.false-raw in
    found_some _ _ _ c.next_free_slot.ensures (c.requires.room told).0

pub stage_entry-requires : goal.stage_entry-requires
stage_entry-requires g c =
    let a = c.args in
    let told : lacks_it a.seen.now a.live (word1 a.entries.now.slots a.entries.now.words.now a.i) ≡ true =
    sym (c.parent_lacks.ensures ∙ ap (lacks_it a.seen.now a.live) c.first_word-word.ensures) ∙ not-false _ c.if-not-parent_lacks.false-raw in
    let slot = found_is _ _ _ c.next_free_slot.ensures _ c.unwrap-slot.ensures in
    (omega (arith, a.staged.now.few, a.staged.now.room), omega (arith, slot, (c.requires.room told).1))

pub overflow_add-result : goal.overflow_add-result
overflow_add-result g c =
    let a = c.args in
    let told : lacks_it a.seen.now a.live (word1 a.entries.now.slots a.entries.now.words.now a.i) ≡ true =
    sym (c.parent_lacks.ensures ∙ ap (lacks_it a.seen.now a.live) c.first_word-word.ensures) ∙ not-false _ c.if-not-parent_lacks.false-raw in
    let slot = found_is _ _ _ c.next_free_slot.ensures _ c.unwrap-slot.ensures in
    omega (arith, slot, (c.requires.room told).0, a.entries.now.few)

pub returns : goal.returns
returns g c =
    let a = c.args in
    let told : lacks_it a.seen.now a.live (word1 a.entries.now.slots a.entries.now.words.now a.i) ≡ true =
    sym (c.parent_lacks.ensures ∙ ap (lacks_it a.seen.now a.live) c.first_word-word.ensures) ∙ not-false _ c.if-not-parent_lacks.false-raw in
    let slot = found_is _ _ _ c.next_free_slot.ensures _ c.unwrap-slot.ensures in
    record {
      put = λ _. rw (slot, c.move_out.ensures, c.second_word.ensures, c.first_word-word.ensures) at c.stage_entry.ensures;
      on = λ _. ap (λ (x : ℕ). x + 1) slot;
      kept = λ z. absurd (true≢ told z);
    }
