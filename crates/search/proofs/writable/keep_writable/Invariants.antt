-- The read-only entries of this depth among those passed have taken it out (proofs/TakenOut.antt).
use Rattle.marks.specs.Blocks.{Kept}
use Rattle.search.proofs.TakenOut.{TakenOut}
use Rattle.search.proofs.writable.keep_writable.Given as goal

abbrev pub invariant-loop-i : goal.invariant-loop-i
invariant-loop-i l = TakenOut l.fn.entries.slots l.fn.entries.words.now l.depth l.initial.seen l.i l.seen × Kept l.seen
