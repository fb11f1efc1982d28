-- `commit::ending::changed_word` meets its contract. Assumes nothing.
use mathlib.Core.Path.{◌∙◌}
use Rattle.commit.proofs.ending.changed_word.Goals as goal

pub move_out-requires : goal.move_out-requires
move_out-requires c = c.requires.0 c.if-out.true

pub returns-then-out : goal.returns-then-out
returns-then-out c = c.move_out.ensures ∙ rw c.if-out.true

pub raise-requires : goal.raise-requires
raise-requires c = c.requires.1 c.if-raised.true

pub returns-then-raised : goal.returns-then-raised
returns-then-raised c = c.raise.ensures ∙ rw (c.if-out.false, c.if-raised.true)
