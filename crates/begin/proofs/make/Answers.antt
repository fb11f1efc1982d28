-- `begin::make` meets its contract. Assumes nothing.
use mathlib.Core.Path.{sym, ap, ◌∙◌}
use borrow.Author.Tests.{not-true, not-false}
use Rattle.store.proofs.Means.{visible_of, make_means_lem, make_refused, make_performed}
use Rattle.begin.proofs.make.Goals as goal

pub returns-then-not-lengths_ok : goal.returns-then-not-lengths_ok
returns-then-not-lengths_ok c =
    let e = make_refused _ _ _ c.args.budget (sym c.lengths_ok.ensures ∙ not-true _ c.if-not-lengths_ok.true-raw) in
    record { made = e; means = ap visible_of e ∙ make_means_lem _ _ }

pub returns : goal.returns
returns c =
    let e = make_performed _ _ _ c.args.budget _ c.slots_of-slots.result _ _ _ (sym c.lengths_ok.ensures ∙ not-false _ c.if-not-lengths_ok.false-raw) c.cells_of-cells.ensures c.slots_of-slots.ensures c.bodies_of-places.ensures c.make_words.ensures (rw c.pairs_at.ensures at c.answer_of.ensures) in
    record { made = e; means = ap visible_of e ∙ make_means_lem _ _ }
