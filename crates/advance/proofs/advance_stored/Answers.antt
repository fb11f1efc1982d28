-- `advance::advance_stored` meets its contract. Assumes nothing.
use mathlib.Core.Path.{sym, ◌∙◌}
use native.Mathlib.Omega.{arith}
use Rattle.store.proofs.Checks.{store_lengths}
use Rattle.advance.proofs.Performing.{ready_none}
use Rattle.advance.proofs.advance_stored.Goals as goal

pub returns-then-none_set : goal.returns-then-none_set
returns-then-none_set c =
    let a = c.args in
    ready_none a.memory.now a.bodies.now a.table.now a.used.now c.requires.ready.0 a.top a.given a.seen.now a.bits.now c.requires.told (sym c.none_set.ensures ∙ c.if-none_set.true) a.budget _ c.answer_of.ensures

pub overflow_add-top : goal.overflow_add-top
overflow_add-top c =
    let ready = c.requires.ready.0 in
    let told = c.requires.told in
    let f = store_lengths _ _ c.args.table.now ready.stands in
    omega (arith, told.ends.0, f.slots_high, told.number, ready.slots)

pub store_with-requires-else-top-given-le-FEW_SLOTS-clause-sized : goal.store_with-requires-else-top-given-le-FEW_SLOTS-clause-sized
store_with-requires-else-top-given-le-FEW_SLOTS-clause-sized c =
    let told = c.requires.told in
    let f = store_lengths _ _ c.args.table.now c.requires.ready.0.stands in
    let low = f.slots_high in
    (c.requires.sized, omega (arith, told.ends.0), omega arith, omega (arith, told.ends.0), omega arith, omega arith, omega arith)
