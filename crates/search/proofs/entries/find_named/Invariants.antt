-- No entry passed is named.
use Rattle.search.specs.Search.{Unnamed}
use Rattle.search.proofs.entries.find_named.Given as goal

abbrev pub invariant-loop-i : goal.invariant-loop-i
invariant-loop-i l = Unnamed l.entries.slots l.entries.words.now l.key.word l.from l.i
