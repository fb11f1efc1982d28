-- `none_deeper` meets its contract. The loop's invariant: where the answer so far is yes, each entry passed is kept. Assumes nothing.
use Prim.Native.Nat.{ℕ, ◌≤◌, ◌<◌}
use mathlib.Core.Bool.{true}
use mathlib.Core.Path.{◌≡◌}
use Rattle.table.specs.Changes.{keep}
use Rattle.restore.specs.Restore.{restore_change}
use Rattle.restore.proofs.none_deeper.Given as goal

abbrev pub invariant-loop-i : goal.invariant-loop-i
invariant-loop-i l = l.none ≡ true → (j : ℕ) → l.from ≤ j → j < l.i → restore_change l.entries.slots l.entries.words.now l.depth j ≡ keep
