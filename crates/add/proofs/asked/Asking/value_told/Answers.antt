use Rattle.std.proofs.Common.{ℕ, List, true, ap, ◌∙◌, arith}
use Rattle.words.specs.Cells.{cell_bytes, same_cell}
use Rattle.table.specs.Entry.{parent}
use Rattle.store.proofs.Checks.{store_lengths}
use Rattle.add.specs.Asked.{table_of, slots_in, depth_in}
use Rattle.add.proofs.Asking.{cell_is}
use Rattle.add.proofs.Comparing.{body_value, body_plain, rule_value, rule_ruled}
use Rattle.add.proofs.asked.Asking.value_told.Goals as goal

pub overflow_cast-cell : goal.overflow_cast-cell
overflow_cast-cell g c = let f = store_lengths _ _ _ c.args.self.now.store in omega (arith, c.requires.cell, f.cells_high)

pub returns-in-Body : goal.returns-in-Body
returns-in-Body g c =
    let q = c.args.self.now in
    let at = rw (q.slots, c.parent_of-depth.ensures, c.depth.ensures) at c.in-Some.ensures.1 in
    let own = c.in-Body.ensures in
    c.told.ensures
    ∙ cell_is q.memory.now q.bodies.now (slots_in q) (table_of q) (depth_in q) (λ x. true) c.args.cell _ _
    (c.same_cell.ensures ∙ ap (λ (v : List ℕ). same_cell v (cell_bytes q.memory.now c.args.cell)) (body_value q.bodies.now (slots_in q) (table_of q) (parent (depth_in q)) c.args.cell c.in-Some.source at c.in-Body.body own))
    (body_plain q.bodies.now (slots_in q) (table_of q) (parent (depth_in q)) c.args.cell c.in-Some.source at c.in-Body.body own)

pub returns-in-Rule : goal.returns-in-Rule
returns-in-Rule g c =
    let q = c.args.self.now in
    let at = rw (q.slots, c.parent_of-depth.ensures, c.depth.ensures) at c.in-Some.ensures.1 in
    let own = c.in-Rule.ensures in
    c.told-in-Rule.ensures
    ∙ cell_is q.memory.now q.bodies.now (slots_in q) (table_of q) (depth_in q) (λ x. true) c.args.cell _ _
    (c.same_cell-in-Rule.ensures ∙ ap (λ (v : List ℕ). same_cell v (cell_bytes q.memory.now c.args.cell)) (rule_value q.bodies.now (slots_in q) (table_of q) (parent (depth_in q)) c.args.cell c.in-Some.source at c.in-Rule.rule own _ c.pattern_bytes.ensures))
    (rule_ruled q.bodies.now (slots_in q) (table_of q) (parent (depth_in q)) c.args.cell c.in-Some.source at c.in-Rule.rule own)
