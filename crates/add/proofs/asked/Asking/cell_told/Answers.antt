use Rattle.std.proofs.Common.{sym, ◌∙◌, arith}
use Rattle.store.proofs.Checks.{store_lengths}
use Rattle.add.specs.Asked.{table_of, slots_in, depth_in, newly}
use Rattle.add.proofs.Asking.{cell_new}
use Rattle.add.proofs.asked.Asking.cell_told.Goals as goal

pub is_new-requires : goal.is_new-requires
is_new-requires g c = let f = store_lengths _ _ _ c.args.self.now.store in omega (arith, c.requires.cell, f.cells_high)

pub returns-then-is_new : goal.returns-then-is_new
returns-then-is_new g c =
    let q = c.args.self.now in
    c.value_told.ensures
    ∙ cell_new q.memory.now q.bodies.now (slots_in q) (table_of q) (depth_in q) (newly q c.args.seen.now) c.args.cell (sym c.is_new.ensures ∙ c.if-is_new.true)
