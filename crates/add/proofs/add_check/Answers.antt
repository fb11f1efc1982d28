use Rattle.std.proofs.Common.{◌≡◌, ℕ, ◌≤◌, List, sym, ap, subst, ◌∙◌, length, arith}
use Rattle.words.specs.Layout.{slots_of}
use Rattle.marks.proofs.Blocks.{kept_cells}
use Rattle.table.specs.Entry.{live}
use Rattle.table.proofs.Marks.{marked_holds}
use Rattle.store.specs.Checks.{store_check, lent}
use Rattle.store.proofs.Refused.{handed_on, question_no}
use Rattle.add.specs.Walking.{CellsTold}
use Rattle.add.proofs.Listing.{list_refused_lem, list_taken, check_store, check_inner, check_20, check_list}
use Rattle.add.proofs.add_check.Goals as goal

pub returns-in_err-sound-clause-no : goal.returns-in_err-sound-clause-no
returns-in_err-sound-clause-no c =
    let a = c.args in
    handed_on _ _ c.from_residual.ensures.1 ∙ check_store a.memory.now a.bodies.now a.table.now a.handle a.list.now _ c.in_err-sound.ensures.no (question_no _)

pub returns-in_err-innermost_check-clause-no : goal.returns-in_err-innermost_check-clause-no
returns-in_err-innermost_check-clause-no c =
    let a = c.args in
    handed_on _ _ c.from_residual-in_err-innermost_check.ensures.1
    ∙ check_inner a.memory.now a.bodies.now a.table.now a.handle a.list.now (sym c.in_ok-sound.ensures.no) _ c.in_err-innermost_check.ensures.no (question_no _)

pub returns-then-list-clause-no : goal.returns-then-list-clause-no
returns-then-list-clause-no c =
    let a = c.args in
    check_20 a.memory.now a.bodies.now a.table.now a.handle a.list.now (sym c.in_ok-sound.ensures.no) (sym c.in_ok-innermost_check.ensures.no) (list_refused_lem a.list.now c.if-list.true)

pub invariant_of-asking : goal.invariant_of-asking
invariant_of-asking c =
    let a = c.args in
    let s = c.in_ok-sound.ensures.sound in
    let marks = c.in_ok-sound.ensures.marks in
    let back = sym s.words in
    record {
      store = subst (λ (w : List ℕ). store_check (lent (length a.memory.now) (length a.bodies.now) w) ≡ 0) back (sym c.in_ok-sound.ensures.no);
      inner = subst (λ (w : List ℕ). 1 ≤ live w) back c.in_ok-innermost_check.ensures.inner.1;
      slots = s.slots ∙ ap (λ (w : List ℕ). slots_of (length w)) back;
      cells = omega (arith, kept_cells _ marks.kept);
      told = subst (λ (w : List ℕ). CellsTold (slots_of (length w)) w c.store_check.new.seen) back (marked_holds (slots_of (length a.table.now)) a.table.now c.store_check.new.seen marks.cells);
    }

pub returns-clause-no : goal.returns-clause-no
returns-clause-no c =
    let a = c.args in
    check_list a.memory.now a.bodies.now a.table.now a.handle a.list.now (sym c.in_ok-sound.ensures.no) (sym c.in_ok-innermost_check.ensures.no)
    (list_taken a.list.now c.if-list.false) _ (rw c.in_ok-sound.ensures.sound.words at c.list_check.ensures.no)
