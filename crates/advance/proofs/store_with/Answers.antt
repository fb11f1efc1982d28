-- `advance::store_with` meets its contract. Assumes nothing.
use Prim.Native.Nat.{ℕ, ◌≤◌}
use mathlib.Core.Path.{◌∙◌}
use native.Mathlib.Omega.{arith}
use lib.ListN.{length, length-replicate}
use Rattle.words.specs.Layout.{cells_of, group_at}
use Rattle.table.specs.Marks.{zeros}
use Rattle.store.proofs.Checks.{store_lengths}
use Rattle.advance.specs.Notes.{by_group}
use Rattle.advance.proofs.Performing.{ready_front, ready_once, ready_count, ready_inside, ready_order, ready_room, ready_low}
use Rattle.advance.proofs.store_with.Goals as goal

pub invariant_of-entries : goal.invariant_of-entries
invariant_of-entries g c =
    let q = c.slots_of.ensures in
    let f = store_lengths _ _ c.args.table.now c.requires.ready.0.stands in
    record { few = omega (arith, q, f.slots_high); long = omega (arith, q, f.table_exact); ends = rw q c.requires.told.ends }

pub list_slots-n-requires-clause-inside : goal.list_slots-n-requires-clause-inside
list_slots-n-requires-clause-inside g c =
    let a = c.args in
    let f = store_lengths _ _ a.table.now c.requires.ready.0.stands in
    let told = c.requires.told in
    let reach : cells_of (length a.memory.now) ≤ group_at c.div_ceil-groups.result = omega (arith, c.div_ceil-groups.ensures, c.cells_of.ensures) in (
      omega (arith, c.div_ceil-groups.ensures, c.cells_of.ensures, f.cells_high),
      ready_inside a.memory.now a.bodies.now a.table.now a.used.now c.requires.ready.0 (by_group a.seen.now a.bits.now) told.cells c.div_ceil-groups.result reach,
    )

pub list_slots-n-requires-clause-room : goal.list_slots-n-requires-clause-room
list_slots-n-requires-clause-room g c =
    let a = c.args in
    let ready = c.requires.ready.0 in
    let told = c.requires.told in
    let f = store_lengths _ _ a.table.now ready.stands in
    let few = ready_front a.memory.now a.bodies.now a.table.now a.used.now ready a.top told.ends in
    let number = ready_count a.memory.now a.bodies.now a.table.now a.used.now ready (by_group a.seen.now a.bits.now) told.cells in
    omega (arith, number, few, f.slots_high, told.ends.0, c.requires.sized.1, length-replicate {A = ℕ} g.row.SLOTS 0)

pub list_slots-n-requires-clause-once : goal.list_slots-n-requires-clause-once
list_slots-n-requires-clause-once g c =
    let a = c.args in
    let ready = c.requires.ready.0 in
    rw c.slots_of.ensures (ready_once a.memory.now a.bodies.now a.table.now a.used.now ready, ready.lives)

pub store_listed-requires-clause-listed : goal.store_listed-requires-clause-listed
store_listed-requires-clause-listed g c =
    let a = c.args in
    let ready = c.requires.ready.0 in
    let told = c.requires.told in
    let x = by_group a.seen.now a.bits.now in
    let few = ready_front a.memory.now a.bodies.now a.table.now a.used.now ready a.top told.ends in
    let number = c.list_slots-n.ensures.counted ∙ ready_count a.memory.now a.bodies.now a.table.now a.used.now ready x told.cells in
    let list = ready_order a.memory.now a.bodies.now a.table.now a.used.now ready x told.cells _ _ number (rw c.slots_of.ensures at c.list_slots-n.ensures.listed) in
    (list, omega (arith, number, few, c.requires.sized.1, c.list_slots-n.auto.places, length-replicate {A = ℕ} g.row.SLOTS 0))

pub store_listed-requires-clause-counted : goal.store_listed-requires-clause-counted
store_listed-requires-clause-counted g c =
    let a = c.args in
    c.list_slots-n.ensures.counted ∙ ready_count a.memory.now a.bodies.now a.table.now a.used.now c.requires.ready.0 (by_group a.seen.now a.bits.now) c.requires.told.cells

pub store_listed-requires-clause-outwards : goal.store_listed-requires-clause-outwards
unfolding zeros
store_listed-requires-clause-outwards g c =
    let a = c.args in
    let told = c.requires.told in record {
      kept = told.blocks.kept;
      marked = told.marked;
      number = told.number;
      room = λ k l. omega (arith, ready_room a.memory.now a.bodies.now a.table.now a.used.now c.requires.ready.0 a.given a.top told.number told.ends k l, c.requires.sized.4, length-replicate {A = ℕ} g.row.BITS 0);
    }

pub store_listed-requires-clause-room : goal.store_listed-requires-clause-room
store_listed-requires-clause-room g c =
    let a = c.args in
    let ready = c.requires.ready.0 in
    let told = c.requires.told in
    let x = by_group a.seen.now a.bits.now in
    let number = c.list_slots-n.ensures.counted ∙ ready_count a.memory.now a.bodies.now a.table.now a.used.now ready x told.cells in
    let list = ready_order a.memory.now a.bodies.now a.table.now a.used.now ready x told.cells _ _ number (rw c.slots_of.ensures at c.list_slots-n.ensures.listed) in
    let low = ready_low a.memory.now a.bodies.now a.table.now a.used.now ready _ _ list a.top told.ends in
    (λ r l. omega (arith, low r l, c.requires.sized.3), omega (arith, c.requires.sized.5), omega (arith, c.requires.sized.6))
