-- `ranges::list::is_writable` meets its contract. Assumes nothing.
use Rattle.std.proofs.Common.{◌∙◌, rules, tests}
use Rattle.std.proofs.lemmas.Iterator.{YieldsList-from_slice}
use Rattle.std.proofs.lemmas.Iterator.Search.{any_from_yields_List}
use Rattle.ranges.proofs.Lists.{raising, label_any}
use Rattle.ranges.proofs.list.is_writable.Goals as goal

pub returns : goal.returns
returns c =
    any_from_yields_List (raising c.args.cell) _ _ _ c.any.ensures.ran (YieldsList-from_slice c.args.list.now cc) (λ x b q k. search (rules, tests))
    ∙ label_any c.args.cell c.args.list.now
