use Rattle.domain_store.proofs.Telling.{told}
use Rattle.domain_store.proofs.ds_add_ranges.Goals as goal

pub returns : goal.returns
returns c = told _ _ _ _ _ c.tell.ensures.number c.tell.ensures.steps c.add_ranges-answer.ensures.made
