-- `ranges::gather` meets its contract: what is gathered so far, with the ranges that are left, is what all of them give. Assumes nothing.
use Rattle.std.proofs.Common.{◌≡◌, drop}
use Rattle.ranges.specs.Batch.{no_batch, batch_ranges, gathered}
use Rattle.ranges.proofs.gather.Given as goal

abbrev pub invariant-loop-range : goal.invariant-loop-range
invariant-loop-range l = gathered (batch_ranges l.batch) (drop l.range-index l.ranges) ≡ gathered no_batch l.ranges
