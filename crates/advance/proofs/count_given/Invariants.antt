-- n counts the entries passed whose cells are given outwards.
use mathlib.Core.Path.{◌≡◌}
use Rattle.words.specs.Scan.{count}
use Rattle.table.specs.Entry.{word1}
use Rattle.advance.specs.Notes.{has_bit, gives_it}
use Rattle.advance.proofs.count_given.Given as goal

abbrev pub invariant-loop-i : goal.invariant-loop-i
invariant-loop-i l = l.n ≡ count l.i (λ k. gives_it l.seen l.live (has_bit l.seen l.bits) (word1 l.fn.entries.slots l.fn.entries.words.now k))
