-- `ranges::order::is_rising` meets its contract. The loop's invariant: the ranges passed rise, and none of them ends behind `end`. Assumes nothing.
use Rattle.std.proofs.Common.{ℕ, ◌<◌, ◌≤◌}
use Rattle.ranges.specs.Lists.{range_of, range_end, number_by, RisingTo}
use Rattle.ranges.proofs.order.is_rising.Given as goal

abbrev pub invariant-loop-key : goal.invariant-loop-key
invariant-loop-key l = record {
  rising : RisingTo l.key-index l.list l.order;
  ended : (i : ℕ) → i < l.key-index → range_end (range_of l.list (number_by l.order i)) ≤ l.end;
}
