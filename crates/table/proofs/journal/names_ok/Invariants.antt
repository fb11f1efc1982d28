-- `table::journal::names_ok` meets its contract. The loop's invariant: what is left to check are the pairs from the j-th on, above the last word named. Assumes nothing.
use Rattle.std.proofs.Common.{◌≡◌, drop}
use Rattle.words.specs.Journal.{names_ok, pairs}
use Rattle.table.proofs.journal.names_ok.Given as goal

abbrev pub invariant-loop-j : goal.invariant-loop-j
invariant-loop-j l = names_ok l.first 0 (pairs l.table l.first l.count) ≡ names_ok l.first l.last (drop l.j (pairs l.table l.first l.count))
