use Rattle.domain_store.proofs.Telling.{told}
use Rattle.domain_store.proofs.ds_delete.Goals as goal

-- src/lib.rt:150:1
pub returns : goal.returns
returns c = told _ _ _ _ _ c.tell.ensures.number c.tell.ensures.steps c.delete-answer.ensures.made
