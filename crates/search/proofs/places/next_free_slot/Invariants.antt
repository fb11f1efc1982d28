-- Every slot passed is in use.
use Rattle.search.specs.Free.{slot_free}
use Rattle.search.proofs.From.{Failing}
use Rattle.search.proofs.places.next_free_slot.Given as goal

abbrev pub invariant-loop-i : goal.invariant-loop-i
invariant-loop-i l = Failing (slot_free l.entries.slots l.entries.words.now) l.from l.i
