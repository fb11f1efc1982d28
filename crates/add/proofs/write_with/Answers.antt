use Rattle.std.proofs.Common.{length, arith}
use Rattle.words.specs.Layout.{cells_of, bodies_of}
use Rattle.changes.proofs.Staging.{stages_inside, stages_words}
use Rattle.store.proofs.Checks.{store_lengths}
use Rattle.add.proofs.Taken.{same_able}
use Rattle.add.proofs.Storing.{words_same, stored_words, stored_steps}
use Rattle.add.proofs.write_with.Goals as goal

pub invariant_of-entries : goal.invariant_of-entries
invariant_of-entries g c =
    let f = store_lengths _ _ c.args.table.now c.requires.able.ready.store in
    record { few = omega (arith, c.slots_of-slots.ensures, f.slots_high); long = omega (arith, c.slots_of-slots.ensures, f.table_exact); ends = rw c.slots_of-slots.ensures c.requires.ends }

pub invariant_of-taking : goal.invariant_of-taking
invariant_of-taking g c =
    let a = c.args in
    record { slots = c.slots_of-slots.ensures; cells = c.requires.cells; able = λ bodies e. same_able a.memory.now a.bodies.now bodies a.table.now a.held.now a.used.now a.list.ranges.now e c.requires.able }

pub write_staged-requires : goal.write_staged-requires
write_staged-requires g c =
    let a = c.args in
    let f = store_lengths _ _ a.table.now c.requires.able.ready.store in
    let q = c.slots_of-slots.ensures in
    let st = c.raise_entries.ensures.of (cells_of (length a.memory.now)) (bodies_of (length a.bodies.now)) c.take_cells-bytes.ensures.staged in
    record { small = (omega (arith, q, f.slots_high), omega (arith, q, f.table_exact)); inside = rw (q, c.lent.ensures.1) (stages_inside st) }

pub returns-clause-steps : goal.returns-clause-steps
returns-clause-steps g c =
    let a = c.args in
    let st = c.raise_entries.ensures.of (cells_of (length a.memory.now)) (bodies_of (length a.bodies.now)) c.take_cells-bytes.ensures.staged in
    let j = rw (c.slots_of-slots.ensures, c.lent.ensures.0, c.lent.ensures.1, stages_words c.none.ensures.stored st, words_same a.memory.now a.bodies.now a.table.now a.held.now a.used.now a.list.ranges.now c.requires.able) at c.write_staged.ensures in
    stored_steps a.memory.now a.bodies.now a.table.now a.list.ranges.now _ c.take_cells-bytes.ensures.steps.0 _ _ _ j

pub returns-clause-words : goal.returns-clause-words
returns-clause-words g c =
    let a = c.args in
    let st = c.raise_entries.ensures.of (cells_of (length a.memory.now)) (bodies_of (length a.bodies.now)) c.take_cells-bytes.ensures.staged in
    let j = rw (c.slots_of-slots.ensures, c.lent.ensures.0, c.lent.ensures.1, stages_words c.none.ensures.stored st, words_same a.memory.now a.bodies.now a.table.now a.held.now a.used.now a.list.ranges.now c.requires.able) at c.write_staged.ensures in
    stored_words a.memory.now a.bodies.now a.table.now a.list.ranges.now _ c.take_cells-bytes.ensures.steps.0 _ _ _ j a.budget c.saturating_sub-left.ensures
