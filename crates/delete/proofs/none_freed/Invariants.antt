-- `delete::none_freed` meets its contract. The loop's invariant: where the answer so far is yes, each entry passed is kept. Assumes nothing.
use Prim.Native.Nat.{ℕ, ◌≤◌, ◌<◌}
use mathlib.Core.Bool.{true}
use mathlib.Core.Path.{◌≡◌}
use Rattle.table.specs.Changes.{keep}
use Rattle.delete.specs.Delete.{delete_change}
use Rattle.delete.proofs.none_freed.Given as goal

abbrev pub invariant-loop-i : goal.invariant-loop-i
invariant-loop-i l = l.none ≡ true → (j : ℕ) → l.from ≤ j → j < l.i → delete_change l.entries.slots l.entries.words.now l.cells.depth l.cells.first l.cells.count j ≡ keep
