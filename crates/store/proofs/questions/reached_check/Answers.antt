-- `store::questions::reached_check` meets its contract: such a table is sound. Assumes nothing.
use Rattle.store.proofs.Checked.{passes}
use Rattle.store.proofs.questions.reached_check.Goals as goal

pub sound_of-requires-clause-passes : goal.sound_of-requires-clause-passes
sound_of-requires-clause-passes c = passes _ _ _ c.in_ok-idle_check.ensures c.in_ok-table_check.ensures
