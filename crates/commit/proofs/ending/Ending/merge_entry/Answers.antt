-- `commit::ending::Ending::merge_entry` meets its contract: it answers what is decided, or nothing (proofs/Deciding.antt). Assumes nothing.
use mathlib.Core.Bool.{true}
use mathlib.Core.Path.{sym, ◌∙◌}
use Rattle.table.specs.Entry.{parent}
use Rattle.table.specs.Marks.{has}
use Rattle.commit.proofs.Deciding.{moves_deep, raises_low, change_apart, change_kept, change_put}
use Rattle.commit.proofs.ending.Ending.merge_entry.Goals as goal

pub returns-then-not-is_concerned : goal.returns-then-not-is_concerned
returns-then-not-is_concerned c = let s = c.args.self.now in
    let none = rw c.first_word-word.ensures at (sym c.is_concerned.ensures ∙ c.if-not-is_concerned.true) in
    sym (change_apart s.entries.slots s.entries.words.now s.innermost.depth c.args.i s.innermost.lives.0 none)

pub returns-then-not-depth_of-self : goal.returns-then-not-depth_of-self
returns-then-not-depth_of-self c = let s = c.args.self.now in
    let none = rw (c.depth_of.ensures, c.is_raised-raised.ensures, c.mark_of-mark.ensures, c.cell_of.ensures, c.first_word-word.ensures) at c.if-not-depth_of-self.true in
    sym (change_kept s.entries.slots s.entries.words.now s.innermost.depth c.args.i s.innermost.lives.0 s.seen.now s.told none)

pub changed_word-first-requires : goal.changed_word-first-requires
changed_word-first-requires c = let s = c.args.self.now in
    let mark = c.mark_of-mark.result in
    ((λ z. moves_deep s.innermost.depth _ 0 true (has (parent s.innermost.depth) mark) s.innermost.lives.0 (sym c.moves_out-out.ensures ∙ z)), (λ z. raises_low s.innermost.depth _ 0 (has s.innermost.depth mark) true s.innermost.lives.0 (sym c.is_raised-raised.ensures ∙ z)))

pub returns : goal.returns
returns c = let s = c.args.self.now in
    let changes = rw (c.depth_of.ensures, c.is_raised-raised.ensures, c.mark_of-mark.ensures, c.cell_of.ensures, c.first_word-word.ensures) at c.if-not-depth_of-self.false in
    rw (c.body_if-second.ensures, c.changed_word-first.ensures, c.moves_out-out.ensures, c.is_raised-raised.ensures, c.mark_of-mark.ensures, c.cell_of.ensures, c.second_word.ensures, c.first_word-word.ensures)
    (sym (change_put s.entries.slots s.entries.words.now s.innermost.depth c.args.i s.innermost.lives.0 s.seen.now s.told changes))
