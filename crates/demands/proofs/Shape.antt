-- What holds of every call on every buffers by its plan: the lengths stay, and a refusal leaves everything as it is. Assumes nothing.
use Prim.Native.Nat.{ℕ}
use mathlib.Core.List.{List, [], ◌∷◌}
use mathlib.Core.Option.{none}
use mathlib.Core.Path.{◌≡◌, refl, sym, ap, subst, ◌∙◌}
use lib.Dec.{leb, eqb-suc-zero}
use lib.ListN.{length, take, length-set}
use Rattle.words.proofs.Plans.{length_stores}
use Rattle.words.proofs.Scan.{by_bool}
use Rattle.model.specs.Answer.{is_refused, refused, ended}
use Rattle.model.specs.History.{Request}
use Rattle.model.specs.Session.{Input, make, call, opening, write}
use Rattle.model.proofs.Told.{Answered}
use Rattle.store.specs.Outcome.{Buffers, Step, in_memory, in_bodies, in_table, step, steps, Outcome, outcome, Call, refuse, perform}
use Rattle.store.specs.Checks.{open_check, lent_of}
use Rattle.store.specs.State.{standing}
use Rattle.demands.specs.Session.{call_on, input_on}
use Rattle.demands.proofs.Calls.{facts}

-- buffers of the same lengths
pub record Alike (b c : Buffers) : Type 0 where
  pub memory : length c.memory ≡ length b.memory
  pub bodies : length c.bodies ≡ length b.bodies
  pub table : length c.table ≡ length b.table

pub alike_self : (b : Buffers) → Alike b b
alike_self b = record { memory = refl; bodies = refl; table = refl }

pub alike_then : (a b c : Buffers) → Alike a b → Alike b c → Alike a c
alike_then a b c f g = record { memory = g.memory ∙ f.memory; bodies = g.bodies ∙ f.bodies; table = g.table ∙ f.table }

step_alike : (s : Step) (b : Buffers) → Alike b (step s b)
step_alike (in_memory s) b = record { memory = length-set b.memory s.at s.val; bodies = refl; table = refl }
step_alike (in_bodies s) b = record { memory = refl; bodies = length-set b.bodies s.at s.val; table = refl }
step_alike (in_table s) b = record { memory = refl; bodies = refl; table = length-set b.table s.at s.val }

pub steps_alike : (ss : List Step) (b : Buffers) → Alike b (steps ss b)
steps_alike [] b = alike_self b
steps_alike (s ∷ ss) b = alike_then b (step s b) (steps ss (step s b)) (step_alike s b) (steps_alike ss (step s b))

pub outcome_alike : (c : Call) (k : ℕ) (b : Buffers) → Alike b (outcome c k b).buffers
unfolding outcome
outcome_alike (refuse n) k b = alike_self b
outcome_alike (perform plan h) k b = steps_alike (take k plan) b

pub call_alike : (c : Request) (k : ℕ) (b : Buffers) → Alike b (call_on c k b).buffers
call_alike c k b =
    let p = (facts c b).planned in
    subst (λ (o : Outcome). Alike b o.buffers) (sym (p.is k)) (outcome_alike p.call k b)

pub input_alike : (i : Input) (b : Buffers) → Alike b (input_on i b).buffers
input_alike (make k) b = outcome_alike _ k b
input_alike (call c k) b = call_alike c k b
input_alike (opening k) b = outcome_alike _ k b
input_alike (write ws) b = record { memory = length_stores ws b.memory; bodies = refl; table = refl }

-- ---- refused: every buffer as lent

pub ended_answers : (need h k : ℕ) → Answered (ended need h k).status
unfolding ended
ended_answers need h k = by_bool (leb need k) (λ t. rw t tt) (λ t. rw t tt)

pub refused_kept : (c : Call) (k : ℕ) (b : Buffers) → (outcome c k b).report.status ≡ is_refused → (outcome c k b).buffers ≡ b
unfolding outcome
refused_kept (refuse n) k b e = refl
refused_kept (perform plan h) k b e = absurd (subst Answered e (ended_answers (length plan) h k))

-- and the report is nothing but the number
pub refused_report : (c : Call) (k : ℕ) (b : Buffers) → (outcome c k b).report.status ≡ is_refused → (outcome c k b).report ≡ refused (outcome c k b).report.refusal
unfolding outcome
refused_report (refuse n) k b e = refl
refused_report (perform plan h) k b e = absurd (subst Answered e (ended_answers (length plan) h k))

-- of every call on a store
pub call_kept : (c : Request) (k : ℕ) (b : Buffers) → (call_on c k b).report.status ≡ is_refused → (call_on c k b).buffers ≡ b
call_kept c k b e =
    let p = (facts c b).planned in
    ap (λ (o : Outcome). o.buffers) (p.is k)
    ∙ refused_kept p.call k b (ap (λ (o : Outcome). o.report.status) (sym (p.is k)) ∙ e)

pub call_report : (c : Request) (k : ℕ) (b : Buffers) → (call_on c k b).report.status ≡ is_refused → (call_on c k b).report ≡ refused (call_on c k b).report.refusal
call_report c k b e =
    let p = (facts c b).planned in
    subst (λ (o : Outcome). o.report.status ≡ is_refused → o.report ≡ refused o.report.refusal) (sym (p.is k))
    (refused_report p.call k b) e

-- ---- the state that opening finds

pub standing_none : (b : Buffers) (n : ℕ) → open_check (lent_of b) ≡ ℕ.suc n → standing b ≡ none
unfolding standing
standing_none b n e = rw (e, eqb-suc-zero n)
