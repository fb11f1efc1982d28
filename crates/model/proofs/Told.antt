-- The three answers told apart: what is done, what is stopped, and what is not refused. Assumes nothing.
use Rattle.model.specs.Answer.{Status, is_done, is_stopped, is_refused}

abbrev pub Finished : Status → Type 0
Finished is_done = Unit {0}
Finished is_stopped = ⊥
Finished is_refused = ⊥

abbrev pub Halted : Status → Type 0
Halted is_done = ⊥
Halted is_stopped = Unit {0}
Halted is_refused = ⊥

abbrev pub Answered : Status → Type 0
Answered is_done = Unit {0}
Answered is_stopped = Unit {0}
Answered is_refused = ⊥
