-- `table::passes::mark_rules` meets its contract. Assumes nothing.
use Rattle.table.specs.Marks.{RulesMarked}
use Rattle.table.proofs.passes.mark_rules.Given as goal

abbrev pub invariant-loop-i : goal.invariant-loop-i
invariant-loop-i l = RulesMarked l.table.slots l.table.words.now l.table.top l.i l.seen
