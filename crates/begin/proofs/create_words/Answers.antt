use Rattle.store.specs.Calls.{create_words}
use Rattle.begin.proofs.create_words.Goals as goal

-- src/lib.rt:315:1
pub returns : goal.returns
unfolding create_words
returns c = rw (c.create_head-head.ensures, c.slots_of-slots.ensures) at c.write_head_words.ensures
