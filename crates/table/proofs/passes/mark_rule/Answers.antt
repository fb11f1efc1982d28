-- `table::passes::mark_rule` meets its contract. Assumes nothing.
use Rattle.std.proofs.Common.{◌≡◌, length, true, false, sym, ap, ◌∙◌, arith}
use Rattle.std.proofs.lemmas.Bool.{not-true}
use Rattle.table.specs.Entry.{word1, is_pattern}
use Rattle.table.proofs.Passing.{rules_skip, rules_spare, rules_marked}
use Rattle.table.proofs.passes.mark_rule.Goals as goal

pub returns-then-not-is_pattern-clause-right : goal.returns-then-not-is_pattern-clause-right
returns-then-not-is_pattern-clause-right c = λ r.
    let e = c.args.table.now in
    let plain : is_pattern (word1 e.slots e.words.now c.args.i) ≡ false = rw c.first_word-word.ensures at (sym c.if-not-is_pattern.ensures) in
    rules_skip _ _ _ _ _ c.requires.rules_marked c.requires.sizes e.ends.0 plain

pub mark_entry-requires : goal.mark_entry-requires
mark_entry-requires c =
    let e = c.args.table.now in
    let rule : is_pattern (word1 e.slots e.words.now c.args.i) ≡ true = rw c.first_word-word.ensures at (sym c.if-not-is_pattern.ensures) in
    let place = c.requires.rules_marked.placed c.args.i (omega (arith, c.requires.sizes, e.ends.0)) rule in
    (rw c.first_word-word.ensures place.1, c.requires.rules_marked.kept, rw c.first_word-word.ensures (rules_spare _ _ _ _ _ c.requires.rules_marked c.requires.sizes e.ends.0 rule))

pub returns-clause-right : goal.returns-clause-right
returns-clause-right c = λ r.
    let e = c.args.table.now in
    let rule : is_pattern (word1 e.slots e.words.now c.args.i) ≡ true = rw c.first_word-word.ensures at (sym c.if-not-is_pattern.ensures) in
    let told = rw c.first_word-word.ensures at c.mark_entry.ensures in
    let out = rw c.first_word-word.ensures at (c.mark_entry.ensures.1 r) in
    rw out (rules_marked _ _ _ _ _ c.requires.rules_marked c.requires.sizes e.ends.0 rule (not-true _ (sym told.0 ∙ r)) (ap length (sym out) ∙ c.mark_entry.auto.seen))
