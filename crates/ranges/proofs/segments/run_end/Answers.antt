-- `ranges::segments::run_end` meets its contract. Assumes nothing.
use Rattle.std.proofs.Common.{rules, tests}
use Rattle.std.proofs.lemmas.Iterator.{YieldsList-from_slice}
use Rattle.std.proofs.lemmas.Iterator.Consumers.{fold_from_yields_List}
use Rattle.ranges.specs.Lists.{turn_behind}
use Rattle.ranges.proofs.Least.{lesser, least_of}
use Rattle.ranges.proofs.segments.run_end.Goals as goal

pub returns : goal.returns
returns c =
    let a = c.args in
    rw (fold_from_yields_List _ (lesser (λ r. turn_behind r a.at) a.cells) a.cells c.fold.result c.fold.ensures.ran (YieldsList-from_slice a.list.now cc) (λ u x b q k. search (rules, tests)))
    (least_of (λ r. turn_behind r a.at) a.cells a.list.now)
