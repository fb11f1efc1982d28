use Prim.Native.Nat.{◌≤◌}
use mathlib.Core.Path.{◌≡◌, sym, ◌∙◌}
use borrow.Author.Count.{below_more}
use borrow.Author.Tests.{not-true}
use Rattle.words.proofs.Scan.{and_split}
use Rattle.table.specs.Changes.{keep}
use Rattle.delete.specs.Delete.{delete_change}
use Rattle.delete.proofs.none_freed.Goals as goal

pub loop-i-preserved : goal.loop-i-preserved
unfolding delete_change
loop-i-preserved c =
    let turn = c.loop-i in
    let a = c.args in
    λ h j low l.
    let both = and_split turn.none _ h in
    let stays = rw c.first_word.ensures at (sym c.frees.ensures ∙ not-true _ both.1) in
    below_more (λ j. a.from ≤ j → delete_change a.entries.now.slots a.entries.now.words.now a.cells.depth a.cells.first a.cells.count j ≡ keep) turn.i
    (λ j l low. turn.invariant both.0 j low l) (λ low. rw stays) j l low
