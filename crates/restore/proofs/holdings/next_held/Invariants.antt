-- `next_held` meets its contract. The loop's invariant: in none of the runs passed has a mark any of the mask. Assumes nothing.
use Prim.Native.Nat.{◌-◌}
use Rattle.restore.specs.Marks.{Unheld}
use Rattle.restore.proofs.holdings.next_held.Given as goal

abbrev pub invariant-loop-r : goal.invariant-loop-r
invariant-loop-r l = Unheld l.mask l.marks.directory.seen.now l.from l.runs l.r

abbrev pub decreases-loop-r : goal.decreases-loop-r
decreases-loop-r l = l.runs - l.r
