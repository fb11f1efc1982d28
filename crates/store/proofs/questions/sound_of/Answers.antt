-- `store::questions::sound_of` meets its contract. Assumes nothing.
use native.Mathlib.Omega.{arith}
use Rattle.store.proofs.Checks.{store_lengths}
use Rattle.store.proofs.Checked.{checked_once, checked_ends}
use Rattle.store.proofs.Raw.{live_within}
use Rattle.store.proofs.questions.sound_of.Goals as goal

pub invariant_of-result : goal.invariant_of-result
invariant_of-result c =
    let p = c.requires.passes in
    let e = c.slots_of-slots.ensures in
    let f = store_lengths p.memory p.bodies c.args.table.now p.yes in
    record { few = omega arith; long = omega (arith, e, f.table_exact); ends = rw e (checked_ends p.memory p.bodies c.args.table.now p.yes c.args.top c.requires.reached) }

pub invariant_of-result-2 : goal.invariant_of-result-2
invariant_of-result-2 c =
    let p = c.requires.passes in
    record { once = rw c.slots_of-slots.ensures (checked_once p.memory p.bodies c.args.table.now p.yes); domains = live_within p.memory p.bodies c.args.table.now p.yes }
