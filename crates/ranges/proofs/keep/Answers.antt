-- `ranges::keep` meets its contract. Assumes nothing.
use Rattle.std.proofs.Common.{length, arith, sym, ◌∙◌}
use borrow.Author.Tests.{le-leb, lt-leb}
use Rattle.ranges.specs.Batch.{kept}
use Rattle.ranges.specs.Ranges.{max_ranges}
use Rattle.ranges.proofs.keep.Goals as goal

pub returns-then-len-lt-BATCH_ROOM : goal.returns-then-len-lt-BATCH_ROOM
unfolding kept
returns-then-len-lt-BATCH_ROOM c =
    c.push.ensures.items ∙ sym (rw (le-leb (length c.args.batch.ranges.items) max_ranges (omega (arith, c.len.ensures.value, c.if-len-lt-BATCH_ROOM.true))))

pub returns-else-len-lt-BATCH_ROOM : goal.returns-else-len-lt-BATCH_ROOM
unfolding kept
returns-else-len-lt-BATCH_ROOM c =
    sym (rw (lt-leb (length c.args.batch.ranges.items) max_ranges (omega (arith, c.len.ensures.value, c.if-len-lt-BATCH_ROOM.false))))
