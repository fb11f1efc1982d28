-- A refusal has the number of one of the documents' questions. Assumes nothing.
use Prim.Native.Nat.{ℕ, zero, suc}
use mathlib.Core.Bool.{true}
use mathlib.Core.List.{List}
use mathlib.Core.Path.{◌≡◌, refl, sym, ap, subst}
use lib.Dec.{leb}
use Rattle.words.proofs.Scan.{by_bool}
use Rattle.model.specs.State.{State}
use Rattle.model.specs.Answer.{is_refused, Report, ended, View, steps_of}
use Rattle.model.specs.Calls.{Effect, refuse, change, viewed_with}
use Rattle.model.specs.History.{Request}
use Rattle.model.specs.Session.{Input, make, call, opening, write, effect_of, memory_at, view_of}
use Rattle.model.proofs.Told.{Answered}
use Rattle.store.specs.Outcome.{Buffers, Outcome}
use Rattle.store.specs.State.{state_of}
use Rattle.store.specs.Means.{or_refused, make_means, open_means, room_of}
use Rattle.store.proofs.Means.{visible_of, by_check, make_means_lem, open_means_lem}
use Rattle.demands.specs.Session.{call_on, input_on}
use Rattle.demands.specs.Demands.{asked, is_question}
use Rattle.demands.proofs.Questions.{Fine, make_fine, open_fine, store_fine, FineEffect}
use Rattle.demands.proofs.Calls.{facts}
use Rattle.demands.proofs.Seen.{call_means_lem, call_refusal}

-- ---- reports

-- a report that, if it is a refusal, has a question's number
abbrev Numbered : Report → Type 0
Numbered r = r.status ≡ is_refused → is_question r.refusal ≡ true

ended_numbered : (need h k : ℕ) → Numbered (ended need h k)
unfolding ended
ended_numbered need h k = by_bool (leb need k) (λ t. rw t (λ e. absurd (subst Answered e tt))) (λ t. rw t (λ e. absurd (subst Answered e tt)))

viewed_numbered : (e : Effect) (k : ℕ) (s : State) (m n : List ℕ) → FineEffect e → Numbered (viewed_with e k s m n).report
viewed_numbered (refuse q) k s m n f = λ e. f.number q refl
viewed_numbered (change x w h new) k s m n f = ended_numbered (steps_of x w) h k

-- a view by the number of its questions
by_number_lem : (q : ℕ) (b : Buffers) (v : View) → Fine q → Numbered v.report → Numbered (or_refused q b v).report
by_number_lem zero b v f g = g
by_number_lem (suc q) b v f g = λ e. f.number q refl

shown_numbered : (o : Outcome) (v : View) → visible_of o ≡ v → Numbered v.report → Numbered o.report
shown_numbered o v e f = subst Numbered (ap (λ (x : View). x.report) (sym e)) f

call_numbered : (c : Request) (k : ℕ) (b : Buffers) → Numbered (call_on c k b).report
call_numbered c k b =
    by_check (λ q. asked b ≡ q → Numbered (call_on c k b).report) (asked b)
    (λ n e _. subst Numbered (sym (call_refusal c k n b e)) (λ _. (store_fine b).number n e))
    (λ e _.
    shown_numbered (call_on c k b) (view_of (room_of b) c k (state_of b) b.memory) (call_means_lem c k b e)
    (viewed_numbered (effect_of (room_of b) b.memory c (state_of b)) k (state_of b) b.memory (memory_at k c (state_of b) b.memory)
    (facts c b).fine))
    refl

make_numbered : (k : ℕ) (b : Buffers) → Numbered (make_means k b).report
unfolding make_means
make_numbered k b = by_number_lem _ b _ (make_fine b) (ended_numbered _ 0 k)

open_numbered : (k : ℕ) (b : Buffers) → Numbered (open_means k b).report
unfolding open_means
open_numbered k b = by_number_lem _ b _ (open_fine b) (ended_numbered _ 0 k)

pub input_numbered : (i : Input) (b : Buffers) → (input_on i b).report.status ≡ is_refused → is_question (input_on i b).report.refusal ≡ true
input_numbered (make k) b = shown_numbered _ (make_means k b) (make_means_lem k b) (make_numbered k b)
input_numbered (call c k) b = call_numbered c k b
input_numbered (opening k) b = shown_numbered _ (open_means k b) (open_means_lem k b) (open_numbered k b)
input_numbered (write ws) b = λ e. absurd (subst Answered e tt)
