-- `store::questions::store_check` meets its contract: such a table is sound, and the marks are those that question 4 leaves. Assumes nothing.
use mathlib.Core.Path.{sym}
use Rattle.store.proofs.Checked.{passes}
use Rattle.store.proofs.Checks.{idle_facts}
use Rattle.store.proofs.questions.store_check.Goals as goal

pub sound_of-requires-clause-passes : goal.sound_of-requires-clause-passes
sound_of-requires-clause-passes c = passes _ _ _ c.in_ok-idle_check.ensures c.in_ok-table_marked.ensures.no

pub returns-clause-marks : goal.returns-clause-marks
returns-clause-marks c = c.in_ok-table_marked.ensures.marks (idle_facts _ _ _ (sym c.in_ok-idle_check.ensures)).1
