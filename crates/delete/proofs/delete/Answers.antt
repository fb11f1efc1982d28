-- `delete::delete` meets its contract: its outcome, and what that means (proofs/Deleted.antt). Assumes nothing.
use mathlib.Core.Path.{sym, ap, ◌∙◌}
use native.Mathlib.Omega.{arith}
use Rattle.store.proofs.Checked.{checked_ends}
use Rattle.store.proofs.Checks.{store_lengths}
use Rattle.store.proofs.Means.{visible_of}
use Rattle.delete.proofs.Deleted.{delete_means_lem, check_store, delete_refused, delete_performed}
use Rattle.delete.proofs.delete.Goals as goal

pub returns-in_err-cells : goal.returns-in_err-cells
returns-in_err-cells c = let a = c.args in
    let e = delete_refused a.memory.now a.bodies.now a.table.now a.handle a.first a.count a.budget _ _ c.from_residual.ensures.1 c.in_err-cells.ensures.no in
    record { made = e; means = ap visible_of e ∙ delete_means_lem a.handle a.first a.count _ _ }

pub free_cells-steps-requires : goal.free_cells-steps-requires
free_cells-steps-requires c = let a = c.args in
    let yes = check_store _ _ a.table.now a.handle a.first a.count (sym c.in_ok-cells.ensures.no) in
    let f = store_lengths _ _ a.table.now yes in
    let e = c.slots_of-slots.ensures in
    record { small = (omega (arith, e, f.slots_high), omega (arith, e, f.table_exact)); ends = rw e (checked_ends _ _ a.table.now yes _ c.reach_of-top.ensures) }

pub returns : goal.returns
returns c = let a = c.args in
    let named = c.in_ok-cells.ensures.cells in
    let written = rw (named.1, named.2) at c.free_cells-steps.ensures in
    let e = delete_performed a.memory.now a.bodies.now a.table.now a.handle a.first a.count a.budget (sym c.in_ok-cells.ensures.no) c.slots_of-slots.ensures named.0 written c.answer_of.ensures in
    record { made = e; means = ap visible_of e ∙ delete_means_lem a.handle a.first a.count _ _ }
