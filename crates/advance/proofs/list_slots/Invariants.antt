-- Of the entries passed, those that advance are listed.
use mathlib.Core.Path.{◌≡◌}
use lib.ListN.{length}
use Rattle.advance.specs.Notes.{has_bit, ListedSlots}
use Rattle.advance.proofs.list_slots.Given as goal

abbrev pub invariant-loop-i : goal.invariant-loop-i
invariant-loop-i l = (length l.places ≡ length l.initial.places) × ListedSlots l.fn.entries.slots l.fn.entries.words.now l.live (has_bit l.seen l.bits) l.i l.places
