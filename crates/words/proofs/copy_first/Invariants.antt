-- `words::copy_first` meets its contract. The loop's invariant: the first `j` stores of the plan are made. Assumes nothing.
use Rattle.words.specs.Cells.{Copied}
use Rattle.words.proofs.copy_first.Given as goal

abbrev pub invariant-loop-j : goal.invariant-loop-j
invariant-loop-j l = Copied l.src l.initial.dst l.j l.dst
