use Prim.Native.Nat.{◌≤◌}
use mathlib.Core.Path.{◌≡◌, sym, ◌∙◌}
use borrow.Author.Count.{below_more}
use borrow.Author.Tests.{not-true}
use Rattle.words.proofs.Scan.{and_split}
use Rattle.table.specs.Changes.{keep}
use Rattle.restore.specs.Restore.{restore_change}
use Rattle.restore.proofs.Writing.{not_freed}
use Rattle.restore.proofs.none_deeper.Goals as goal

pub loop-i-preserved : goal.loop-i-preserved
loop-i-preserved c =
    let turn = c.loop-i in
    let a = c.args in
    λ h j low l.
    let both = and_split turn.none _ h in
    let stays = rw (c.depth_of.ensures, c.first_word.ensures) at (sym c.is_inside.ensures ∙ not-true _ both.1) in
    below_more (λ j. a.from ≤ j → restore_change a.entries.now.slots a.entries.now.words.now a.depth j ≡ keep) turn.i
    (λ j l low. turn.invariant both.0 j low l) (λ low. not_freed a.entries.now.slots a.entries.now.words.now a.depth turn.i stays) j l low
