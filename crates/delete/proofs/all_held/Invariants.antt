-- `delete::all_held` meets its contract. The loop's invariant: the answer so far is that of the marks passed. Assumes nothing.
use Prim.Native.Nat.{◌+◌}
use mathlib.Core.Path.{◌≡◌}
use Rattle.words.specs.Scan.{all}
use Rattle.marks.specs.Blocks.{mark_of}
use Rattle.table.specs.Marks.{has}
use Rattle.delete.proofs.all_held.Given as goal

abbrev pub invariant-loop-j : goal.invariant-loop-j
invariant-loop-j l = l.held ≡ all l.j (λ k. has l.cells.depth (mark_of l.seen (l.cells.first + k)))
