-- `put_run` meets its contract. The loop's invariant: memory is what the bytes of the run's cells passed leave, cut at the budget, `bytes` is
-- their number, and `rest` has what the marks of the others have of the mask. Assumes nothing.
use Prim.Native.Nat.{◌+◌, ◌-◌}
use mathlib.Core.Path.{◌≡◌}
use lib.ListN.{length}
use Rattle.marks.specs.Blocks.{run_held}
use Rattle.restore.specs.Parts.{group_plan, PutBack}
use Rattle.restore.proofs.holdings.Holdings.put_run.Given as goal

abbrev pub invariant-loop-j : goal.invariant-loop-j
invariant-loop-j g l = record {
  long : length l.memory ≡ length l.initial.memory;
  put : PutBack (group_plan l.self.table.now.entries.slots l.self.table.now.entries.words.now l.self.depth l.self.bodies.now l.from l.j) l.j l.budget l.initial.memory l.bytes l.memory;
  rest : l.rest ≡ run_held l.self.marks.now.directory.seen.now l.self.mask (l.from + l.j) (8 - l.j);
}
