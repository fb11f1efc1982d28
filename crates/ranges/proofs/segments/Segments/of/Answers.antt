-- `ranges::segments::Segments::of` meets its contract: no range is passed yet. Assumes nothing.
use Rattle.std.proofs.Common.{rules}
use Rattle.ranges.proofs.Parts.{rising_start, rises_start}
use Rattle.ranges.proofs.segments.Segments.of.Goals as goal

pub invariant_of-result : goal.invariant_of-result
invariant_of-result c = record {
  low = search rules;
  rising = rising_start c.args.list.ranges.now c.is_rising.result _ c.then_some.result c.requires c.is_rising.ensures c.then_some.ensures;
}

pub returns-clause-whole : goal.returns-clause-whole
returns-clause-whole c = λ n. rises_start c.args.list.ranges.now c.is_rising.result _ c.then_some.result n c.requires c.is_rising.ensures c.then_some.ensures
