-- `delete::none_via` meets its contract. The loop's invariant: the answer so far is that of the entries passed; behind `top` none is
-- via parent. Assumes nothing.
use mathlib.Core.Bool.{not}
use mathlib.Core.Path.{◌≡◌}
use Rattle.words.specs.Scan.{all}
use Rattle.table.specs.Entry.{word1, child}
use Rattle.delete.specs.Parts.{via_word}
use Rattle.delete.proofs.none_via.Given as goal

abbrev pub invariant-loop-i : goal.invariant-loop-i
invariant-loop-i l = l.none ≡ all l.i (λ k. not (via_word (child l.cells.depth) l.cells.first l.cells.count (word1 l.entries.slots l.entries.words.now k)))
