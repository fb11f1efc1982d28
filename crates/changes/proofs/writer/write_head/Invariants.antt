use mathlib.Core.Path.{◌≡◌}
use Rattle.std.specs.Prelude.{map}
use lib.ListN.{take}
use Rattle.words.specs.Stores.{stores}
use Rattle.words.specs.Journal.{pair_plans}
use Rattle.changes.specs.Head.{word_store}
use Rattle.changes.proofs.writer.write_head.Given as goal

abbrev pub invariant-loop-j : goal.invariant-loop-j
invariant-loop-j l = l.table ≡ stores (take l.budget (pair_plans l.at (map word_store (take l.j l.word-items)))) l.initial.table
