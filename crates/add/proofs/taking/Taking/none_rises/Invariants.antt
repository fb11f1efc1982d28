use Rattle.std.proofs.Common.{ℕ, ◌<◌}
use Rattle.ranges.specs.Lists.{range_of}
use Rattle.add.proofs.Still.{StillOne}
use Rattle.add.proofs.taking.Taking.none_rises.Given as goal

abbrev pub invariant-loop-range : goal.invariant-loop-range
invariant-loop-range l = (i : ℕ) → i < l.range-index → StillOne l.self.held.now l.depth (range_of l.self.list.ranges.now i)
