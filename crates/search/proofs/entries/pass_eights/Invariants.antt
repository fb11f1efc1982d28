-- No entry passed is named.
use Rattle.std.proofs.Common.{◌+◌, ◌*◌}
use Rattle.search.specs.Search.{Unnamed}
use Rattle.search.proofs.entries.pass_eights.Given as goal

abbrev pub invariant-loop-k : goal.invariant-loop-k
invariant-loop-k l = Unnamed l.entries.slots l.entries.words.now l.key.word l.from (l.from + 8 * l.k)
