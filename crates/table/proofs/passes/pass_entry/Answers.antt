-- `table::passes::pass_entry` meets its contract. Assumes nothing.
use Rattle.std.proofs.Common.{◌≡◌, ◌+◌, false, sym, ◌∙◌, arith, eqb-true}
use Rattle.std.proofs.lemmas.Bool.{not-true, not-false}
use Rattle.words.proofs.Scan.{and_join, by_bool}
use Rattle.table.specs.Entry.{word1, word2, depth_of, is_pattern}
use Rattle.table.specs.Marks.{has, mark_at}
use Rattle.table.specs.Rule.{kind_ok}
use Rattle.table.proofs.Rule.{entry_used}
use Rattle.table.proofs.Marks.{owns_facts}
use Rattle.table.proofs.Passing.{placed_facts, free_wrong, passed_free, passed_rule, passed_spare, passed_more, cell_taken, body_taken, entry_parts, entry_wrong}
use Rattle.table.proofs.passes.pass_entry.Goals as goal

pub returns-then-word-eq0-clause-right : goal.returns-then-word-eq0-clause-right
returns-then-word-eq0-clause-right c = λ r.
    let here = sym c.first_word-word.ensures ∙ c.if-word-eq0.true in
    passed_free _ _ _ _ _ _ _ c.requires.passed (c.args.i + 1) (omega arith)
    (λ k low high. let q : k ≡ c.args.i = omega arith in rw q (here, sym c.second_word-second.ensures ∙ eqb-true _ _ r))

pub returns-then-word-eq0-clause-wrong : goal.returns-then-word-eq0-clause-wrong
returns-then-word-eq0-clause-wrong c = λ r.
    let here = sym c.first_word-word.ensures ∙ c.if-word-eq0.true in
    entry_wrong _ _ _ _ c.args.i c.requires.sizes.0 (free_wrong _ _ _ _ _ here (rw c.second_word-second.ensures at r))

pub returns-then-not-place_ok-clause-wrong : goal.returns-then-not-place_ok-clause-wrong
returns-then-not-place_ok-clause-wrong c = λ r.
    let off = rw c.first_word-word.ensures at (sym c.if-not-place_ok.ensures) in
    entry_wrong _ _ _ _ c.args.i c.requires.sizes.0 (entry_parts _ _ _ _ _ (λ z. c.if-word-eq0.false (c.first_word-word.ensures ∙ z)) ∙ rw off)

pub returns-then-is_pattern-clause-right : goal.returns-then-is_pattern-clause-right
returns-then-is_pattern-clause-right c = λ r.
    let on = rw c.first_word-word.ensures at (sym c.if-not-place_ok.ensures) in
    let kind = rw (c.first_word-word.ensures, c.second_word-second.ensures) at (c.rule_right.ensures c.args.bodies) in
    let parts = entry_parts c.args.cells c.args.table.now.slots c.args.bodies c.args.table.now.words.now c.args.i (λ z. c.if-word-eq0.false (c.first_word-word.ensures ∙ z)) in
    passed_rule _ _ _ _ _ _ _ c.requires.passed c.requires.sizes.0 (parts ∙ and_join _ _ on (sym kind ∙ r)) (rw c.first_word-word.ensures at (sym c.if-is_pattern.ensures))

pub returns-then-is_pattern-clause-wrong : goal.returns-then-is_pattern-clause-wrong
returns-then-is_pattern-clause-wrong c = λ r.
    let on = rw c.first_word-word.ensures at (sym c.if-not-place_ok.ensures) in
    let kind = rw (c.first_word-word.ensures, c.second_word-second.ensures) at (c.rule_right.ensures c.args.bodies) in
    entry_wrong _ _ _ _ c.args.i c.requires.sizes.0 (entry_parts _ _ _ _ _ (λ z. c.if-word-eq0.false (c.first_word-word.ensures ∙ z)) ∙ rw (on, sym kind ∙ r))

pub mark_entry-requires : goal.mark_entry-requires
mark_entry-requires c =
    let on = placed_facts c.args.cells _ c.first_word-word.result (sym c.if-not-place_ok.ensures) in
    let e = c.args.table.now in
    let plain : is_pattern (word1 e.slots e.words.now c.args.i) ≡ false = rw c.first_word-word.ensures at (sym c.if-is_pattern.ensures) in (
      omega (arith, on.1, c.requires.sizes.1),
      c.requires.passed.kept,
      rw c.first_word-word.ensures (passed_spare _ _ _ _ _ _ _ c.requires.passed c.requires.sizes.0 plain (rw c.first_word-word.ensures at on.2) c.requires.sizes.3),
    )

pub returns-then-not-mark_entry-clause-wrong : goal.returns-then-not-mark_entry-clause-wrong
returns-then-not-mark_entry-clause-wrong c = λ r.
    let deep = rw c.first_word-word.ensures at (placed_facts c.args.cells _ c.first_word-word.result (sym c.if-not-place_ok.ensures)).0 in
    let plain = rw c.first_word-word.ensures at (sym c.if-is_pattern.ensures) in
    let taken = rw c.first_word-word.ensures at (not-false (has (depth_of c.first_word-word.result) (mark_at c.args.seen.now c.first_word-word.result)) (sym c.mark_entry.ensures.0 ∙ c.if-not-mark_entry.true)) in
    cell_taken _ _ _ _ _ _ _ c.requires.passed c.requires.sizes.0 plain deep taken

pub returns-clause-right : goal.returns-clause-right
returns-clause-right c = λ r.
    let e = c.args.table.now in
    let used_word : word1 e.slots e.words.now c.args.i ≡ 0 → ⊥ = λ z. c.if-word-eq0.false (c.first_word-word.ensures ∙ z) in
    let on = rw c.first_word-word.ensures at (sym c.if-not-place_ok.ensures) in
    let plain = rw c.first_word-word.ensures at (sym c.if-is_pattern.ensures) in
    let fits = c.if-not-mark_entry.false in
    let free = rw c.first_word-word.ensures at (not-true (has (depth_of c.first_word-word.result) (mark_at c.args.seen.now c.first_word-word.result)) (sym c.mark_entry.ensures.0 ∙ fits)) in
    let told = rw (c.first_word-word.ensures, c.second_word-second.ensures) at (c.mark_body.ensures.right r) in
    let ok = entry_parts c.args.cells e.slots c.args.bodies e.words.now c.args.i used_word ∙ and_join _ _ on told.0 in
    let u = entry_used c.args.cells e.slots c.args.bodies e.words.now c.args.i ok used_word in
    rw (c.mark_entry.ensures.1 fits, c.first_word-word.ensures, told.2)
    (passed_more _ _ _ _ _ _ _ c.requires.passed c.requires.sizes.0 plain ok free u.cell c.requires.sizes.3 told.1
    (λ copy. let o = owns_facts (word1 e.slots e.words.now c.args.i) copy in omega (arith, u.copy o.1 o.2, c.requires.sizes.4)))

pub returns-clause-wrong : goal.returns-clause-wrong
returns-clause-wrong c = λ r.
    let e = c.args.table.now in
    let used_word : word1 e.slots e.words.now c.args.i ≡ 0 → ⊥ = λ z. c.if-word-eq0.false (c.first_word-word.ensures ∙ z) in
    let on = rw c.first_word-word.ensures at (sym c.if-not-place_ok.ensures) in
    by_bool (kind_ok c.args.bodies (word1 e.slots e.words.now c.args.i) (word2 e.slots e.words.now c.args.i))
    (λ k. body_taken _ _ _ _ _ _ _ c.requires.passed c.requires.sizes.0
    (rw (c.first_word-word.ensures, c.second_word-second.ensures) at (c.mark_body.ensures.wrong r (rw (c.first_word-word.ensures, c.second_word-second.ensures) k))))
    (λ k. entry_wrong _ _ _ _ c.args.i c.requires.sizes.0 (entry_parts _ _ _ _ _ used_word ∙ rw (on, k)))
