use Rattle.add.specs.Asked.{table_of}
use Rattle.add.proofs.Listing.{Passing}
use Rattle.add.proofs.asked.Asking.ranges_check.Given as goal

abbrev pub invariant-loop-i : goal.invariant-loop-i
invariant-loop-i l = Passing l.self.memory.now l.self.bodies.now (table_of l.self) l.self.held.now l.list l.i l.cells l.copies
