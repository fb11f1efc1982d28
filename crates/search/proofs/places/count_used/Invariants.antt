-- The two numbers count the entries passed that are in use, and the copies among them.
use Rattle.std.proofs.Common.{◌≡◌, not}
use Rattle.words.specs.Scan.{count}
use Rattle.search.specs.Free.{slot_free, is_copy}
use Rattle.search.proofs.places.count_used.Given as goal

abbrev pub invariant-loop-i : goal.invariant-loop-i
invariant-loop-i l = (l.used ≡ count l.i (λ k. not (slot_free l.fn.entries.slots l.fn.entries.words.now k))) × (l.copies ≡ count l.i (is_copy l.fn.entries.slots l.fn.entries.words.now))
