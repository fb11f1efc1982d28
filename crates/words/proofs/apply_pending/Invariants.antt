-- `words::apply_pending` meets its contract. The loop's invariant: `j` pairs are in place, in the plan's order. No pair names a word among the
-- pairs, so each is read as it was at the start. Assumes nothing.
use mathlib.Core.Path.{◌≡◌}
use lib.ListN.{take}
use Rattle.words.specs.Stores.{stores}
use Rattle.words.specs.Journal.{pairs}
use Rattle.words.proofs.apply_pending.Given as goal

abbrev pub invariant-loop-j : goal.invariant-loop-j
invariant-loop-j l = l.table ≡ stores (take l.j (pairs l.initial.table l.first l.p)) l.initial.table
