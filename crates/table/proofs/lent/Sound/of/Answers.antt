-- `table::lent::Sound::of` meets its contract. Assumes nothing.
use Rattle.std.proofs.Common.{sym, ◌∙◌}
use Rattle.table.proofs.Rule.{ok_facts}
use Rattle.table.proofs.Pairs.{idle_rule}
use Rattle.table.proofs.Parts.{rule_once}
use Rattle.table.proofs.lent.Sound.of.Goals as goal

pub invariant_of-result : goal.invariant_of-result
invariant_of-result c =
    let e = c.args.entries.now in
    let m = c.requires.passed.0 in
    let b = c.requires.passed.1 in
    let rule = ok_facts m e.slots b e.words.now (sym (idle_rule m e.slots b e.words.now c.requires.idle) ∙ c.requires.passed.2) in
    record { once = rule_once m e.slots b e.words.now rule; domains = rule.live }
