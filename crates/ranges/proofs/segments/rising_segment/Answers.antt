-- `ranges::segments::rising_segment` meets its contract: no range but the next one names a cell of it, and none names a cell before it. Assumes
-- nothing.
use Rattle.std.proofs.Common.{ap, arith}
use Rattle.ranges.specs.Lists.{range_of}
use Rattle.ranges.proofs.Parts.{rising_none, rising_next, rising_on}
use Rattle.ranges.proofs.segments.rising_segment.Goals as goal

pub returns-then-list-passed : goal.returns-then-list-passed
returns-then-list-passed c = λ from o. rising_none _ _ _ from o (omega arith)

pub bounds-list-number_of : goal.bounds-list-number_of
bounds-list-number_of c = omega (arith, c.number_of.ensures, c.requires.1.0 c.args.passed (omega arith))

pub returns : goal.returns
returns c = λ from o.
    let list = c.args.list.now in
    let order = c.args.order.now in
    let k = c.args.passed in
    let e = ap (range_of list.ranges.now) c.number_of.ensures in
    rw (c.is_writable.ensures, c.end.ensures, e) (
      rising_next list.ranges.now order k from o list.cells (omega arith) list.within list.filled,
      (omega arith, rising_on list.ranges.now order k from o list.cells (omega arith) list.within list.filled),
    )
