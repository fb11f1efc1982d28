-- `write_entries` meets its contract. The loop's invariant: the pairs of the groups passed are written and counted. Assumes nothing.
use mathlib.Core.Path.{◌≡◌}
use Prim.Native.Nat.{◌*◌, ◌≤◌}
use lib.ListN.{length, take}
use Rattle.words.specs.Stores.{stores, gather}
use Rattle.words.specs.Journal.{pair_plans}
use Rattle.table.specs.Changes.{entry_stores}
use Rattle.changes.specs.Staged.{staged}
use Rattle.changes.proofs.writer.write_entries.Given as goal

abbrev pub invariant-loop-k : goal.invariant-loop-k
invariant-loop-k l = record {
  few : l.n ≤ 2 * l.slots;
  counted : l.n ≡ length (gather (64 * l.k) (λ i. entry_stores l.slots i (staged l.staged.words.now l.staged.changed.now i)));
  made : l.table ≡ stores (take l.budget (pair_plans l.at (gather (64 * l.k) (λ i. entry_stores l.slots i (staged l.staged.words.now l.staged.changed.now i))))) l.initial.table;
}
