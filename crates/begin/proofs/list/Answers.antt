-- `begin::list` meets its contract. Assumes nothing.
use mathlib.Core.Path.{refl, sym}
use Rattle.store.proofs.Handles.{list_refused_lem, list_done}
use Rattle.store.proofs.Refused.{question_no, listing_refused}
use Rattle.begin.proofs.list.Goals as goal

pub returns-in_err-plain_check : goal.returns-in_err-plain_check
returns-in_err-plain_check c = rw (listing_refused _ _ c.from_residual.ensures.1) (list_refused_lem _ _ c.in_err-plain_check.ensures (question_no _))

pub returns : goal.returns
returns c = list_done _ _ _ (sym c.in_ok-plain_check.ensures) _ _ refl c.read_handles.ensures
