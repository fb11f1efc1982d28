-- `begin::open` meets its contract. Assumes nothing.
use mathlib.Core.Path.{◌≡◌, refl, sym, ap, ◌∙◌}
use native.Mathlib.Omega.{arith}
use Rattle.words.specs.Layout.{pairs_at, slots_of}
use Rattle.words.specs.Journal.{pending}
use lib.ListN.{length}
use Rattle.table.proofs.Pairs.{pairs_few, pairs_fine}
use Rattle.store.proofs.Checks.{shape_facts, open_shape, open_table, table_pairs}
use Rattle.store.proofs.Means.{visible_of, open_means_lem, open_refused, open_none, open_performed}
use Rattle.store.proofs.Refused.{question_no, answer_refused}
use Rattle.begin.proofs.open.Goals as goal

pub returns-in_err-open_check : goal.returns-in_err-open_check
returns-in_err-open_check c =
    let e = answer_refused _ _ c.from_residual.ensures.1 (open_refused _ _ _ c.args.budget _ c.in_err-open_check.ensures (question_no _)) in
    record { made = e; means = ap visible_of e ∙ open_means_lem _ _ }

pub returns-then-p-eq0 : goal.returns-then-p-eq0
returns-then-p-eq0 c =
    let e = open_none _ _ _ c.args.budget (sym c.in_ok-open_check.ensures) (c.if-p-eq0.true) in
    record { made = e; means = ap visible_of e ∙ open_means_lem _ _ }

pub apply_pending-requires : goal.apply_pending-requires
apply_pending-requires c =
    let t = c.args.table.now in
    let yes4 = sym c.in_ok-open_check.ensures in
    let f = shape_facts _ _ t (open_shape _ _ t yes4) in
    let p = table_pairs _ _ t (open_table _ _ t yes4) in
    let few = pairs_few _ t p in
    let at : c.pairs_at.result ≡ pairs_at (slots_of (length t)) = c.pairs_at.ensures ∙ ap pairs_at c.slots_of.ensures in
    (omega arith, omega arith, rw at (λ j l. (pairs_fine _ t p j l).0))

pub overflow_add-p : goal.overflow_add-p
overflow_add-p c =
    let t = c.args.table.now in
    let yes4 = sym c.in_ok-open_check.ensures in
    let f = shape_facts _ _ t (open_shape _ _ t yes4) in
    let few = pairs_few _ t (table_pairs _ _ t (open_table _ _ t yes4)) in
    omega arith

pub returns : goal.returns
returns c =
    let t = c.args.table.now in
    let e = open_performed _ _ t c.args.budget (pending c.args.table.now) c.pairs_at.result _ _ (sym c.in_ok-open_check.ensures) refl c.if-p-eq0.false
    (c.pairs_at.ensures ∙ ap pairs_at c.slots_of.ensures) c.apply_pending.ensures c.answer_of.ensures in
    record { made = e; means = ap visible_of e ∙ open_means_lem _ _ }
