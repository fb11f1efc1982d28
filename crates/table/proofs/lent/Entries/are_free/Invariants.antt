-- `table::lent::Entries::are_free` meets its contract. The loop's invariant: where `free` says so, the first k of them are. Assumes nothing.
use Rattle.std.proofs.Common.{◌≡◌, ◌+◌, true}
use Rattle.table.specs.Marks.{FreeRun}
use Rattle.table.proofs.lent.Entries.are_free.Given as goal

abbrev pub invariant-loop-k : goal.invariant-loop-k
invariant-loop-k g l = l.free ≡ true → FreeRun l.self.slots l.self.words.now l.i (l.i + l.k)
