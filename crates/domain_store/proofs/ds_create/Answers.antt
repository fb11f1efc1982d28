use Rattle.domain_store.proofs.Telling.{told, named}
use Rattle.domain_store.proofs.ds_create.Goals as goal

-- src/lib.rt:100:1
pub returns : goal.returns
returns c = record { told = told _ _ _ _ _ c.tell.ensures.number c.tell.ensures.steps c.create-answer.ensures.made; named = named _ _ _ _ c.handle_of.ensures c.create-answer.ensures.made }
