use Rattle.add.specs.Asked.{table_of, slots_in, depth_in, newly}
use Rattle.add.proofs.Asking.{Numbered}
use Rattle.add.proofs.asked.Asking.values_check.Given as goal

abbrev pub invariant-loop-j : goal.invariant-loop-j
invariant-loop-j g l =
    Numbered l.self.memory.now l.self.bodies.now (slots_in l.self) (table_of l.self) (depth_in l.self) (newly l.self l.part.seen.now)
    l.part.range.first l.part.range.count l.j l.ruled
