use Rattle.std.proofs.Common.{ℕ}
use Rattle.changes.specs.Staged.{Stages}
use Rattle.add.specs.Walking.{list_change}
use Rattle.add.specs.Took.{words_lent, slots_lent, ranges_lent}
use Rattle.add.proofs.taking.Taking.raise_entries.Given as goal

abbrev pub invariant-loop-i : goal.invariant-loop-i
invariant-loop-i g l =
    (m b : ℕ) → Stages (slots_lent l.self) (list_change m (slots_lent l.self) b (words_lent l.self) (ranges_lent l.self) 0) l.initial.staged.words l.initial.staged.changed
    → Stages (slots_lent l.self) (list_change m (slots_lent l.self) b (words_lent l.self) (ranges_lent l.self) l.i) l.staged.words l.staged.changed
