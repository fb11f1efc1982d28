-- `table::journal::put_pairs` meets its contract. The loop's invariant: the copy is the table with the first j pairs in place. Assumes nothing.
use Rattle.std.proofs.Common.{◌≡◌, ℕ, ◌<◌, get_or}
use Rattle.words.specs.Stores.{stores}
use Rattle.words.specs.Journal.{pairs}
use Rattle.table.proofs.journal.put_pairs.Given as goal

abbrev pub invariant-loop-j : goal.invariant-loop-j
invariant-loop-j l = (k : ℕ) → k < l.first → get_or l.copy k 0 ≡ get_or (stores (pairs l.table l.first l.j) l.table) k 0
