-- `put_back` meets its contract. The loop's invariant: memory is what the bytes of the cells of the runs passed leave, cut at the budget, and
-- `bytes` is their number. Assumes nothing.
use Prim.Native.Nat.{◌-◌, ◌*◌, ◌≤◌, min}
use mathlib.Core.Path.{◌≡◌}
use lib.ListN.{length}
use Rattle.words.specs.Stores.{gather}
use Rattle.restore.specs.Parts.{back_plan, PutBack}
use Rattle.restore.proofs.holdings.Holdings.put_back.Given as goal

abbrev pub invariant-loop-r : goal.invariant-loop-r
invariant-loop-r g l = record {
  within : l.from ≤ l.runs;
  long : length l.memory ≡ length l.initial.memory;
  put : PutBack (gather (min l.self.cells (8 * l.from)) (back_plan l.self.table.now.entries.slots l.self.table.now.entries.words.now l.self.depth l.self.bodies.now)) (min l.self.cells (8 * l.from))
      l.budget l.initial.memory l.bytes l.memory;
}

abbrev pub decreases-loop-r : goal.decreases-loop-r
decreases-loop-r g l = l.runs - l.from
