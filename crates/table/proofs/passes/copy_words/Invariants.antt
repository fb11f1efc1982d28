-- `table::passes::copy_words` meets its contract. The loop's invariant: the words passed are copied. Assumes nothing.
use Rattle.std.proofs.Common.{◌≡◌, ℕ, ◌<◌, get_or}
use Rattle.table.proofs.passes.copy_words.Given as goal

abbrev pub invariant-loop-i : goal.invariant-loop-i
invariant-loop-i l = (k : ℕ) → k < l.i → get_or l.copy k 0 ≡ get_or l.words k 0
