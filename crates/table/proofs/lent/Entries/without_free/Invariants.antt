-- `table::lent::Entries::without_free` meets its contract. The loop's invariant: the entries passed, from the top on down, are free. Assumes nothing.
use Rattle.std.proofs.Common.{◌+◌, ◌*◌}
use Rattle.table.specs.Marks.{EndsAt}
use Rattle.table.proofs.lent.Entries.without_free.Given as goal

abbrev pub invariant-loop-k : goal.invariant-loop-k
invariant-loop-k g l = EndsAt l.self.slots l.self.words.now (l.rest + g.row.MANY * l.k)
