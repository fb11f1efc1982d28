-- No depth passed holds the cell, and no entry passed is named by the key of this depth and the cell, from the start on and from the front on.
use Rattle.std.proofs.Common.{◌-◌}
use Rattle.search.specs.Search.{Unnamed}
use Rattle.search.proofs.Inwards.{Lacking}
use Rattle.search.proofs.holders.find_holder.Given as goal

abbrev pub invariant-loop-depth : goal.invariant-loop-depth
invariant-loop-depth l = Lacking l.entries.slots l.entries.words.now l.from l.cell (l.depth - l.from)

abbrev pub invariant-loop-i : goal.invariant-loop-i
invariant-loop-i l = Unnamed l.entries.slots l.entries.words.now l.key.word l.start l.i

abbrev pub invariant-loop-j : goal.invariant-loop-j
invariant-loop-j l = Unnamed l.entries.slots l.entries.words.now l.key.word 0 l.j
