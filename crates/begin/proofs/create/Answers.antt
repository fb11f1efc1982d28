-- `begin::create` meets its contract. Assumes nothing.
use mathlib.Core.Path.{refl, sym, ap, ◌∙◌}
use Rattle.store.proofs.Means.{visible_of}
use Rattle.store.proofs.Created.{create_means_lem, create_refused, create_performed}
use Rattle.store.proofs.Refused.{question_no, answer_refused}
use Rattle.begin.proofs.create.Goals as goal

pub returns-in_err-create_check : goal.returns-in_err-create_check
returns-in_err-create_check c =
    let e = answer_refused _ _ c.from_residual.ensures.1 (create_refused _ _ _ c.args.budget _ c.in_err-create_check.ensures (question_no _)) in
    record { made = e; means = ap visible_of e ∙ create_means_lem _ _ }

pub returns : goal.returns
returns c =
    let t = c.args.table.now in
    let e = create_performed _ _ t c.args.budget _ _ _ _ (sym c.in_ok-create_check.ensures) refl c.create_words-need.ensures.made c.create_words-need.ensures.words c.answer_of.ensures in
    record { made = e; means = ap visible_of e ∙ create_means_lem _ _ }
