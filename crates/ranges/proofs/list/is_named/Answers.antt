-- `ranges::list::is_named` meets its contract. Assumes nothing.
use Rattle.std.proofs.Common.{◌∙◌, rules, tests}
use Rattle.std.proofs.lemmas.Iterator.{YieldsList-from_slice}
use Rattle.std.proofs.lemmas.Iterator.Search.{any_from_yields_List}
use Rattle.ranges.specs.Ranges.{covers}
use Rattle.ranges.proofs.Lists.{named_any}
use Rattle.ranges.proofs.list.is_named.Goals as goal

pub returns : goal.returns
returns c =
    any_from_yields_List (λ r. covers r c.args.cell) _ _ _ c.any.ensures.ran (YieldsList-from_slice c.args.list.now cc) (λ x b q k. search (rules, tests))
    ∙ named_any c.args.cell c.args.list.now
