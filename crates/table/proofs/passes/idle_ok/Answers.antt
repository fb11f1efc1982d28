-- `table::passes::idle_ok` meets its contract. Assumes nothing.
use Rattle.std.proofs.Common.{sym, ◌∙◌}
use Rattle.table.proofs.Pairs.{idle_rule}
use Rattle.table.proofs.passes.idle_ok.Goals as goal

pub returns-clause-value : goal.returns-clause-value
returns-clause-value c = c.rule_ok.ensures.value ∙ sym (idle_rule _ _ _ _ c.requires.idle)
