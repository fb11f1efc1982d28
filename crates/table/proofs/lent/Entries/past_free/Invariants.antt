-- `table::lent::Entries::past_free` meets its contract. The loop's invariant: the entries passed are free. Assumes nothing.
use Rattle.std.proofs.Common.{◌+◌, ◌*◌}
use Rattle.table.specs.Marks.{FreeRun}
use Rattle.table.proofs.lent.Entries.past_free.Given as goal

abbrev pub invariant-loop-k : goal.invariant-loop-k
invariant-loop-k g l = FreeRun l.self.slots l.self.words.now l.from (l.from + g.row.MANY * l.k)
