-- `ranges::segments::Segments::ahead` meets its contract. Assumes nothing.
use Rattle.std.proofs.Common.{◌+◌, ◌<◌, length}
use Rattle.ranges.specs.Lists.{RisingFrom, Next}
use Rattle.ranges.proofs.Parts.{rising_ahead}
use Rattle.ranges.proofs.segments.Segments.ahead.Goals as goal

pub rising_segment-requires : goal.rising_segment-requires
rising_segment-requires c = let h = rw c.in-Some.is at c.args.self.now.rising in h.0

pub returns-in-Some : goal.returns-in-Some
returns-in-Some c =
    let s = c.args.self.now in
    rising_ahead c.in-Some.order s.order c.in-Some.is _ (Next s.list.cells s.list.ranges.now s.at)
    (λ keys p. (s.passed < length s.list.ranges.now) × RisingFrom s.list.ranges.now keys.now (s.passed + 1) p.end)
    c.rising_segment.result (c.rising_segment.ensures s.at (rw c.in-Some.is at s.rising))
