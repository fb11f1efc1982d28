-- `table::passes::parents_told` meets its contract. The loop's invariant: what is told of the entries asked. Assumes nothing.
use mathlib.Core.Path.{◌≡◌}
use Rattle.words.specs.Scan.{all}
use Rattle.table.specs.Entry.{word1}
use Rattle.table.specs.Marks.{parent_told}
use Rattle.table.proofs.passes.parents_told.Given as goal

abbrev pub invariant-loop-i : goal.invariant-loop-i
invariant-loop-i l = l.told ≡ all l.i (λ k. parent_told (word1 l.table.slots l.table.words.now k) l.seen)
