-- The source of the cell at this depth is that at the depth asked for.
use Rattle.std.proofs.Common.{◌≡◌}
use Rattle.search.specs.Search.{source_in}
use Rattle.search.proofs.holders.find_source.Given as goal

abbrev pub invariant-loop-d : goal.invariant-loop-d
invariant-loop-d l = source_in l.entries.slots l.entries.words.now l.depth l.cell ≡ source_in l.entries.slots l.entries.words.now l.d l.cell
