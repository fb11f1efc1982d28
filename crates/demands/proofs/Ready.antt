-- A call that is done leaves nothing pending, and questions 1 to 4 are answered yes after it; and whatever a call leaves can be opened.
-- Assumes nothing.
use Prim.Native.Nat.{ℕ, zero, suc, ◌+◌, ◌*◌}
use mathlib.Core.Bool.{Bool, true, false, not, true≢false, false≢true}
use mathlib.Core.List.{List, [], ◌∷◌}
use mathlib.Core.Path.{◌≡◌, refl, sym, ap, subst, ◌∙◌}
use borrow.Author.Tests.{le-ltb, eq-eqb, leb-true, le-leb}
use lib.Dec.{leb, ltb}
use lib.ListN.{length}
use Rattle.words.specs.Layout.{cells_of}
use Rattle.words.specs.Journal.{pending}
use Rattle.words.proofs.Scan.{and_split}
use Rattle.words.proofs.Plans.{length_stores}
use Rattle.model.specs.State.{State}
use Rattle.model.specs.Answer.{Status, is_done, is_stopped, is_refused, Report, View, steps_of}
use Rattle.model.specs.Calls.{Effect, refuse, change, fresh, make_steps, open_steps, viewed_with}
use Rattle.model.specs.History.{Request}
use Rattle.model.specs.Session.{Input, make, call, opening, write, effect_of, memory_at}
use Rattle.model.proofs.Told.{Finished}
use Rattle.store.specs.Outcome.{Buffers, outcome}
use Rattle.store.specs.Checks.{open_check, store_check, lent}
use Rattle.store.specs.State.{state_of, slots}
use Rattle.store.specs.Calls.{make_call, open_call}
use Rattle.store.specs.Means.{room_of}
use Rattle.store.proofs.Checks.{open_shape, open_table, store_opens}
use Rattle.store.proofs.Means.{by_check}
use Rattle.store.proofs.Standing.{standing_opens}
use Rattle.store.proofs.Pending.{after_pending, left_pending, make_pending, open_pending_after}
use Rattle.store.proofs.Reopened.{done_enough}
use Rattle.demands.specs.Session.{call_on, input_on, buffers_after, was_stopped}
use Rattle.demands.specs.Demands.{asked, opens, is_call, made_from, MakeDone, is_cut_make, no_cut_make}
use Rattle.demands.proofs.Shape.{refused_kept, call_kept}
use Rattle.demands.proofs.Calls.{facts}
use Rattle.demands.proofs.Seen.{call_means_lem, call_refusal, call_passed}
use Rattle.demands.proofs.Steps.{viewed_stands, open_seen, open_refusal, still_opens, unstepped, none_left}
use Rattle.demands.proofs.Theorem.{make_passed, make_enough, make_stands}

-- ---- nothing pending

done_left : (e : Effect) (k : ℕ) (s : State) (m n : List ℕ) → (viewed_with e k s m n).report.status ≡ is_done → after_pending e k ≡ 0
done_left (refuse q) k s m n d = refl
done_left (change x w h new) k s m n d =
    let late : ltb k (steps_of x w) ≡ false = le-ltb k (steps_of x w) (done_enough (steps_of x w) h k d) in
    none_left w (ltb (x + 2 * w) k) (ltb k (steps_of x w)) late

call_clears : (c : Request) (k : ℕ) (b : Buffers) → (call_on c k b).report.status ≡ is_done → left_pending (call_on c k b) ≡ 0
call_clears c k b d =
    let good : asked b ≡ 0 = call_passed c k b (λ r. subst Finished (sym d ∙ r) tt) in
    (facts c b).pends k good
    ∙ done_left (effect_of (room_of b) b.memory c (state_of b)) k (state_of b) b.memory (memory_at k c (state_of b) b.memory)
    (ap (λ (v : View). v.report.status) (sym (call_means_lem c k b good)) ∙ d)

-- an opening that is not refused passed its questions
pub open_passed : (k : ℕ) (b : Buffers) → ((outcome (open_call b) k b).report.status ≡ is_refused → ⊥) → opens b ≡ 0
open_passed k b f =
    by_check (λ q. opens b ≡ q → opens b ≡ 0) (opens b)
    (λ n e _. absurd (f (ap (λ (r : Report). r.status) (open_refusal k n b e))))
    (λ e _. e)
    refl

open_clears : (k : ℕ) (b : Buffers) → (outcome (open_call b) k b).report.status ≡ is_done → left_pending (outcome (open_call b) k b) ≡ 0
open_clears k b d =
    let yes : opens b ≡ 0 = open_passed k b (λ r. subst Finished (sym d ∙ r) tt) in
    let enough : leb (open_steps (pending b.table)) k ≡ true =
    le-leb _ k (done_enough (open_steps (pending b.table)) 0 k (ap (λ (v : View). v.report.status) (sym (open_seen k b yes)) ∙ d)) in
    open_pending_after k b yes ∙ rw enough

pub done_clears : (i : Input) (b : Buffers) → is_call i ≡ true → (input_on i b).report.status ≡ is_done → pending (input_on i b).buffers.table ≡ 0
done_clears (make k) b c d = make_pending k b (make_passed k b d) (leb-true (make_steps (slots b)) k (make_enough k b d))
done_clears (call c k) b _ d = call_clears c k b d
done_clears (opening k) b c d = open_clears k b d
done_clears (write ws) b c d = absurd (false≢true c)

-- ---- what can be opened

pub call_opens : (c : Request) (k : ℕ) (b : Buffers) → opens b ≡ 0 → opens (call_on c k b).buffers ≡ 0
call_opens c k b o =
    by_check (λ q. asked b ≡ q → opens (call_on c k b).buffers ≡ 0) (asked b)
    (λ n e _.
    let same = call_kept c k b (ap (λ (x : Report). x.status) (call_refusal c k n b e)) in
    subst (λ (x : Buffers). opens x ≡ 0) (sym same) o)
    (λ e _.
    let v = viewed_stands (effect_of (room_of b) b.memory c (state_of b)) k (state_of b) b.memory (memory_at k c (state_of b) b.memory) in
    standing_opens (call_on c k b).buffers v.0 (ap (λ (v : View). v.state) (call_means_lem c k b e) ∙ v.1))
    refl

-- a make that is done leaves what opens, one that made no store what there was
make_opens : (k : ℕ) (b : Buffers) → opens b ≡ 0 → is_cut_make (make k) (outcome (make_call b) k b).report.status ≡ false → opens (made_from b k) ≡ 0
make_opens zero b o f = rw (unstepped (make_call b) b) o
make_opens (suc k) b o f = by-status (outcome (make_call b) (suc k) b).report.status refl f
  where
    by-status : (r : Status) → (outcome (make_call b) (suc k) b).report.status ≡ r → was_stopped r ≡ false → opens (made_from b (suc k)) ≡ 0
    by-status is_done e f = standing_opens (made_from b (suc k)) fresh (make_stands (suc k) b e)
    by-status is_stopped e f = absurd (true≢false f)
    by-status is_refused e f = rw (refused_kept (make_call b) (suc k) b e) o

list_opens : (l : List Input) (b : Buffers) → no_cut_make l b ≡ true → opens b ≡ 0 → opens (buffers_after l b) ≡ 0
list_opens [] b n o = o
list_opens (i ∷ is) b n o =
    let s = and_split (not (is_cut_make i (input_on i b).report.status)) (no_cut_make is (input_on i b).buffers) n in
    list_opens is (input_on i b).buffers s.1 (input-opens i b o (not-cut (is_cut_make i (input_on i b).report.status) s.0))
  where
    not-cut : (x : Bool) → not x ≡ true → x ≡ false
    not-cut true e = absurd (false≢true e)
    not-cut false e = refl

    input-opens : (i : Input) (b : Buffers) → opens b ≡ 0 → is_cut_make i (input_on i b).report.status ≡ false → opens (input_on i b).buffers ≡ 0
    input-opens (make k) b o f = make_opens k b o f
    input-opens (call c k) b o f = call_opens c k b o
    input-opens (opening k) b o f = still_opens (cells_of (length b.memory)) k b o
    input-opens (write ws) b o f = rw (length_stores ws b.memory) o

pub reached : (b : Buffers) (k : ℕ) (l : List Input) → MakeDone b k → no_cut_make l (made_from b k) ≡ true → opens (buffers_after l (made_from b k)) ≡ 0
reached b k l e n = list_opens l (made_from b k) n (standing_opens (made_from b k) fresh (make_stands k b e))

-- ---- questions 1 to 4

pub ready : (memory bodies : ℕ) (t : List ℕ) → open_check (lent memory bodies t) ≡ 0 → pending t ≡ 0 → store_check (lent memory bodies t) ≡ 0
unfolding store_check
ready memory bodies t o idle = rw (open_shape memory bodies t o, eq-eqb (pending t) 0 idle, open_table memory bodies t o)

done_opens : (i : Input) (b : Buffers) → is_call i ≡ true → (input_on i b).report.status ≡ is_done → opens (input_on i b).buffers ≡ 0
done_opens (make k) b c d = standing_opens (made_from b k) fresh (make_stands k b d)
done_opens (call c k) b _ d =
    call_opens c k b (store_opens (length b.memory) (length b.bodies) b.table (call_passed c k b (λ r. subst Finished (sym d ∙ r) tt)))
done_opens (opening k) b c d = still_opens (cells_of (length b.memory)) k b (open_passed k b (λ r. subst Finished (sym d ∙ r) tt))
done_opens (write ws) b c d = absurd (false≢true c)

pub done_ready : (i : Input) (b : Buffers) → is_call i ≡ true → (input_on i b).report.status ≡ is_done → asked (input_on i b).buffers ≡ 0
done_ready i b c d =
    let after : Buffers = (input_on i b).buffers in
    ready (length after.memory) (length after.bodies) after.table (done_opens i b c d) (done_clears i b c d)
