-- `ranges::segments::mixed_segment` meets its contract: up to where a range begins or ends, the list asks for each cell what it asks for the first.
-- Assumes nothing.
use Rattle.ranges.proofs.Parts.{mixed_none, mixed_least}
use Rattle.ranges.proofs.segments.mixed_segment.Goals as goal

pub returns-in_err-first : goal.returns-in_err-first
returns-in_err-first c =
    let list = c.args.list.now in
    rw c.from_residual.ensures (mixed_none list.cells list.ranges.now list.within c.args.from c.next_named-at.result c.next_named-at.ensures c.in_err-first.ensures)

pub returns : goal.returns
returns c =
    let list = c.args.list.now in
    let first = c.in_ok-first.ensures in
    mixed_least list.cells list.ranges.now list.within c.args.from c.next_named-at.result c.next_named-at.ensures c.run_end.result c.in_ok-first.first c.is_writable.result c.run_end.ensures first.0 first.1 first.2 c.is_writable.ensures
