-- `advance::store_listed` meets its contract. Assumes nothing.
use Prim.Native.Nat.{ℕ}
use mathlib.Core.Path.{sym, ◌∙◌}
use native.Mathlib.Omega.{arith}
use lib.ListN.{length-replicate}
use Rattle.table.specs.Marks.{zeros}
use Rattle.changes.proofs.Staging.{stages_inside}
use Rattle.store.proofs.Checks.{store_lengths}
use Rattle.advance.proofs.Performing.{ready_few, ready_free, ready_cells, outwards_kept, ready_givable, ready_given, ready_performed}
use Rattle.advance.proofs.store_listed.Goals as goal

pub invariant_of-entries : goal.invariant_of-entries
invariant_of-entries g c =
    let q = c.slots_of-slots.ensures in
    let f = store_lengths _ _ c.args.table.now c.requires.ready.0.stands in
    record { few = omega (arith, q, f.slots_high); long = omega (arith, q, f.table_exact); ends = rw q c.requires.ends }

pub copy_listed-requires : goal.copy_listed-requires
copy_listed-requires g c =
    let a = c.args in
    let q = c.slots_of-slots.ensures in
    let f = store_lengths _ _ a.table.now c.requires.ready.0.stands in
    let few = ready_few a.memory.now a.bodies.now a.table.now a.used.now c.requires.ready.0 in
    let free = ready_free a.memory.now a.bodies.now a.table.now a.used.now c.requires.ready.0 in
    let number = c.requires.counted in
    let list = c.requires.listed.0 in
    let s = c.none-staged.result in (
      omega (arith, c.requires.room.1, c.requires.room.2),
      (
        rw q (omega (arith, few, number), c.requires.listed.1),
        (
          (f.bodies_high, c.requires.ready.1, omega (arith, free, number)),
          (
            rw q (list, ready_cells a.memory.now a.bodies.now a.table.now a.used.now c.requires.ready.0 a.n a.places.now list),
            (
              (λ r l. omega (arith, c.requires.room.0 r l, s.wide), omega (arith, s.wide, s.long, c.requires.room.1)),
              c.none-staged.ensures _,
            ),
          ),
        ),
      ),
    )

pub give_listed-requires : goal.give_listed-requires
unfolding zeros
give_listed-requires g c =
    let a = c.args in
    let q = c.slots_of-slots.ensures in
    let ready = c.requires.ready.0 in
    let number = c.requires.counted in
    let few = ready_few a.memory.now a.bodies.now a.table.now a.used.now ready in
    let s = c.copy_listed.new.staged in
    let out = outwards_kept a.memory.now a.bodies.now a.table.now a.used.now ready a.given a.seen.now _ _ (s.wide ∙ sym (length-replicate {A = ℕ} _ 0)) c.requires.outwards in (
      omega (arith, c.requires.room.1, c.requires.room.2),
      (
        rw q (omega (arith, few, number), c.requires.listed.1),
        rw q (ready_givable a.memory.now a.bodies.now a.table.now a.used.now ready a.n a.places.now c.requires.listed.0 number a.given a.seen.now _ _ out
            (omega (arith, s.wide, s.long, c.requires.room.1))),
      ),
    )

pub write_staged-steps-requires : goal.write_staged-steps-requires
unfolding zeros
write_staged-steps-requires g c =
    let a = c.args in
    let q = c.slots_of-slots.ensures in
    let ready = c.requires.ready.0 in
    let f = store_lengths _ _ a.table.now ready.stands in
    let out = outwards_kept a.memory.now a.bodies.now a.table.now a.used.now ready a.given a.seen.now _ _ (c.copy_listed.new.staged.wide ∙ sym (length-replicate {A = ℕ} _ 0)) c.requires.outwards in
    let stages = ready_given a.memory.now a.bodies.now a.table.now a.used.now ready a.n a.places.now c.requires.listed.0 c.requires.counted a.given a.seen.now _ _ _ _ out
    (rw q at c.give_listed.ensures) (rw q at c.copy_listed.ensures.staged) in
    record { small = (omega (arith, q, f.slots_high), rw q f.table_exact); inside = rw (q, c.lent.ensures.1) (stages_inside stages) }

pub returns : goal.returns
unfolding zeros
returns g c =
    let a = c.args in
    let q = c.slots_of-slots.ensures in
    let ready = c.requires.ready.0 in
    let out = outwards_kept a.memory.now a.bodies.now a.table.now a.used.now ready a.given a.seen.now _ _ (c.copy_listed.new.staged.wide ∙ sym (length-replicate {A = ℕ} _ 0)) c.requires.outwards in
    let stages = ready_given a.memory.now a.bodies.now a.table.now a.used.now ready a.n a.places.now c.requires.listed.0 c.requires.counted a.given a.seen.now _ _ _ _ out
    (rw q at c.give_listed.ensures) (rw q at c.copy_listed.ensures.staged) in
    let written = rw (q, c.saturating_sub-left.ensures, c.lent.ensures.0, c.lent.ensures.1) at c.write_staged-steps.ensures in
    ready_performed a.memory.now a.bodies.now a.table.now a.used.now ready a.n a.places.now c.requires.listed.0 a.budget _ _ _ _ _ _ _ c.requires.counted
    c.copy_listed.ensures.bytes stages c.none.ensures.stored written.made written.words c.answer_of.ensures
