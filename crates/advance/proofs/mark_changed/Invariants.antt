-- The bits set are those of the entries passed that advance, none of them in block 0, and n counts these entries.
use mathlib.Core.Path.{◌≡◌}
use lib.ListN.{length, get_or}
use Rattle.words.specs.Scan.{count}
use Rattle.values.specs.Values.{entry_changed}
use Rattle.advance.specs.Notes.{by_group, TurnedBits}
use Rattle.advance.proofs.mark_changed.Given as goal

abbrev pub invariant-loop-i : goal.invariant-loop-i
invariant-loop-i g l =
    let e = l.fn.table.entries in
    (length l.bits ≡ length l.initial.bits) × TurnedBits e.slots e.words.now (entry_changed l.memory l.bodies e.slots e.words.now l.live) l.i (by_group l.seen l.bits) × (get_or l.bits 0 0 ≡ 0)
    × (l.n ≡ count l.i (entry_changed l.memory l.bodies e.slots e.words.now l.live))
