use Rattle.domain_store.proofs.Telling.{told}
use Rattle.domain_store.proofs.ds_open.Goals as goal

-- src/lib.rt:84:1
pub returns : goal.returns
returns c = told _ _ _ _ _ c.tell.ensures.number c.tell.ensures.steps c.open-answer.ensures.made
