-- Demand 3 over lent buffers: every session over buffers is a session over what they stand for, so every mismatch count in it is 0; and the laws
-- against an empty count. Assumes nothing.
use Prim.Native.Nat.{ℕ, suc}
use mathlib.Core.Bool.{Bool, true, false, not, ◌||◌}
use mathlib.Core.List.{List, [], ◌∷◌, ◌++◌, append_assoc, append-nil}
use mathlib.Core.Option.{Option, some}
use mathlib.Core.Path.{◌≡◌, refl, sym, ap, subst, ◌∙◌}
use native.Mathlib.Omega.{arith}
use borrow.Author.Tests.{leb-true, le-leb}
use lib.Dec.{leb, leb-zero, eqb-suc-zero}
use lib.ListN.{length}
use Rattle.words.specs.Layout.{cells_of}
use Rattle.words.specs.Journal.{pending}
use Rattle.words.proofs.Scan.{by_bool, and_split}
use Rattle.model.specs.State.{State}
use Rattle.model.specs.Answer.{Status, is_done, is_stopped, is_refused, Report, done, refused, ended, View, steps_of}
use Rattle.model.specs.Calls.{Effect, refuse, change, fresh, make_steps, make_view, viewed_with}
use Rattle.model.specs.Holdings.{named}
use Rattle.model.specs.History.{restore, Event, called, opened, Observation, observed, Tracked, History, begun, observe, tracked_at, mismatches, count_event, counts, history_after}
use Rattle.model.specs.Session.{Input, make, call, opening, shown, effect_of, memory_at, Due, nothing_due, drop_due, finish_due, world, Move, Session, end, next, after_make, Agrees, at_opening}
use Rattle.model.proofs.Demand as abstract
use Rattle.model.proofs.Told.{Finished, Halted}
use Rattle.store.specs.Outcome.{Buffers, Outcome, outcome}
use Rattle.store.specs.Checks.{make_check}
use Rattle.store.specs.State.{state_of, standing, slots}
use Rattle.store.specs.Calls.{make_call, open_call, after_openings, opening_after}
use Rattle.store.specs.Means.{make_means, room_of}
use Rattle.store.proofs.Means.{visible_of, by_check, make_means_lem, store_standing}
use Rattle.store.proofs.Standing.{is_standing}
use Rattle.store.proofs.Pending.{make_pending}
use Rattle.store.proofs.Reopened.{done_enough}
use Rattle.demands.specs.Session.{call_on, input_on, session, buffers_after, was_stopped, is_opening, opening_rule}
use Rattle.demands.specs.Demands.{lengths_right, asked, opens, made_from, MakeDone, Demand3, history_of, history_now, openings, AllStopped, counts_of, CountsOne, Counted}
use Rattle.demands.proofs.Shape.{input_alike, refused_kept}
use Rattle.demands.proofs.Steps.{Fits, Pends, Moves, world_of, open_seen, open_refusal, not_due, input_moves}
use Rattle.demands.proofs.Seen.{call_means_lem, call_passed}

-- ---- from make

-- only a make that passed question 1 and had the budget for all its steps is done
pub make_passed : (k : ℕ) (b : Buffers) → MakeDone b k → lengths_right b ≡ true
unfolding make_means make_check
make_passed k b e =
    by_bool (lengths_right b) (λ t. t)
    (λ t.
    let r : (make_means k b).report.status ≡ is_refused = rw t in
    absurd (subst Finished (sym e ∙ ap (λ (v : View). v.report.status) (make_means_lem k b) ∙ r) tt))

make_view_lem : (k : ℕ) (b : Buffers) → MakeDone b k → visible_of (outcome (make_call b) k b) ≡ make_view (slots b) k (standing b) b.memory
unfolding make_means make_check
make_view_lem k b e = make_means_lem k b ∙ rw (make_passed k b e)

pub make_enough : (k : ℕ) (b : Buffers) → MakeDone b k → leb (make_steps (slots b)) k ≡ true
make_enough k b e = le-leb _ k (done_enough (make_steps (slots b)) 0 k (ap (λ (v : View). v.report.status) (sym (make_view_lem k b e)) ∙ e))

pub make_stands : (k : ℕ) (b : Buffers) → MakeDone b k → standing (made_from b k) ≡ some fresh
make_stands k b e = ap (λ (v : View). v.state) (make_view_lem k b e) ∙ rw (make_enough k b e)

abbrev cells_in : Buffers → ℕ
cells_in b = cells_of (length b.memory)

make_fits : (k : ℕ) (b : Buffers) → MakeDone b k → Fits (cells_in b) (made_from b k) nothing_due
make_fits k b e =
    let a = input_alike (make k) b in
    record {
      lengths = rw (a.memory, a.bodies, a.table) (make_passed k b e);
      size = ap cells_of a.memory;
      pends = λ s q. make_pending k b (make_passed k b e) (leb-true (make_steps (slots b)) k (make_enough k b e));
    }

-- ---- reports

viewed_done : (e : Effect) (k : ℕ) (s : State) (m n : List ℕ) → (viewed_with e k s m n).report.status ≡ is_done
    → (x : ℕ) × ((h : ℕ) × ((viewed_with e k s m n).report ≡ done x h))
unfolding ended
viewed_done (refuse q) k s m n e = absurd (subst Finished (sym e) tt)
viewed_done (change b w h new) k s m n e =
    by_bool (leb (steps_of b w) k) (λ t. rw t (steps_of b w, (h, refl))) (λ t. let r = rw t at e in absurd (subst Finished (sym r) tt))

-- with nothing pending an opening is never stopped, and takes no step
pub idle_opening : (k : ℕ) (b : Buffers) → ((s : State) → standing b ≡ some s → pending b.table ≡ 0)
    → (((outcome (open_call b) k b).report.status ≡ is_stopped → ⊥) × ((outcome (open_call b) k b).report.steps ≡ 0))
unfolding ended
idle_opening k b f = by_check (λ q. opens b ≡ q → Goal) (opens b) (λ n e _. no_store n e) (λ e _. store e) refl
  where
    Goal : Type 0
    Goal = ((outcome (open_call b) k b).report.status ≡ is_stopped → ⊥) × ((outcome (open_call b) k b).report.steps ≡ 0)

    by-report : (r : Report) → (outcome (open_call b) k b).report ≡ r → (r.status ≡ is_stopped → ⊥) → r.steps ≡ 0 → Goal
    by-report r e g z = (λ h. g (ap (λ (x : Report). x.status) (sym e) ∙ h), ap (λ (x : Report). x.steps) e ∙ z)

    no_store : (n : ℕ) → opens b ≡ suc n → Goal
    no_store n e = by-report (refused (suc n)) (open_refusal k n b e) (λ h. subst Halted (sym h) tt) refl

    store : opens b ≡ 0 → Goal
    store e =
        let idle : pending b.table ≡ 0 = f (state_of b) (is_standing b e) in
        let r : (outcome (open_call b) k b).report ≡ done 0 0 = ap (λ (v : View). v.report) (open_seen k b e) ∙ rw (idle, leb-zero k) in
        by-report (done 0 0) r (λ h. subst Halted (sym h) tt) refl

-- ---- the history over the end of a session

history_then : (l rest : List Input) (b : Buffers) (n : History) → history_after n (session (l ++ rest) b) ≡ history_after (history_after n (session l b)) (session rest (buffers_after l b))
history_then [] rest b n = refl
history_then (i ∷ is) rest b n =
    history_then is rest (input_on i b).buffers (observe (observed (shown i (input_on i b).report) (input_on i b).buffers.memory) n)

-- and the counts
counts_then : (l rest : List Input) (b : Buffers) (n : History)
    → counts n (session (l ++ rest) b) ≡ counts n (session l b) ++ counts (history_after n (session l b)) (session rest (buffers_after l b))
counts_then [] rest b n = refl
counts_then (i ∷ is) rest b n =
    let o : Observation = observed (shown i (input_on i b).report) (input_on i b).buffers.memory in
    ap (λ (cs : List ℕ). count_event o.event o.memory n ++ cs) (counts_then is rest (input_on i b).buffers (observe o n))
    ∙ sym (append_assoc (count_event o.event o.memory n) (counts (observe o n) (session is (input_on i b).buffers))
    (counts (history_after n (session (i ∷ is) b)) (session rest (buffers_after (i ∷ is) b))))

buffers_then : (l rest : List Input) (b : Buffers) → buffers_after (l ++ rest) b ≡ buffers_after rest (buffers_after l b)
buffers_then [] rest b = refl
buffers_then (i ∷ is) rest b = buffers_then is rest (input_on i b).buffers

openings_after : (ks : List ℕ) (b : Buffers) → buffers_after (openings ks) b ≡ after_openings ks b
openings_after [] b = refl
openings_after (k ∷ ks) b = openings_after ks (outcome (open_call b) k b).buffers

openings_then : (ks : List ℕ) (i : ℕ) → openings (ks ++ i ∷ []) ≡ openings ks ++ opening i ∷ []
openings_then [] i = refl
openings_then (k ∷ ks) i = ap (λ (l : List Input). opening k ∷ l) (openings_then ks i)

-- an opening leaves memory as it is
open_memory : (k : ℕ) (b : Buffers) → (outcome (open_call b) k b).buffers.memory ≡ b.memory
open_memory k b =
    by_check (λ q. opens b ≡ q → (outcome (open_call b) k b).buffers.memory ≡ b.memory) (opens b)
    (λ n e _. ap (λ (x : Buffers). x.memory) (refused_kept (open_call b) k b (ap (λ (r : Report). r.status) (open_refusal k n b e))))
    (λ e _. ap (λ (v : View). v.memory) (open_seen k b e))
    refl

openings_memory : (ks : List ℕ) (b : Buffers) → (buffers_after (openings ks) b).memory ≡ b.memory
openings_memory [] b = refl
openings_memory (k ∷ ks) b = openings_memory ks (outcome (open_call b) k b).buffers ∙ open_memory k b

-- stopped openings add none
stopped_counts : (ks : List ℕ) (b : Buffers) (n : History) → AllStopped ks b → counts n (session (openings ks) b) ≡ []
stopped_counts [] b n a = refl
stopped_counts (k ∷ ks) b n a =
    let o : Outcome = outcome (open_call b) k b in
    ap (λ (t : Status). count_event (opened k t o.report.steps) o.buffers.memory n ++ counts (observe (observed (opened k t o.report.steps) o.buffers.memory) n) (session (openings ks) o.buffers)) a.0
    ∙ stopped_counts ks o.buffers n a.1

-- and leave the history as it is
stopped_openings : (ks : List ℕ) (b : Buffers) (n : History) → AllStopped ks b → history_after n (session (openings ks) b) ≡ n
stopped_openings [] b n a = refl
stopped_openings (k ∷ ks) b n a =
    let o : Outcome = outcome (open_call b) k b in
    ap (λ (t : Status). history_after (observe (observed (opened k t o.report.steps) o.buffers.memory) n) (session (openings ks) o.buffers)) a.0
    ∙ stopped_openings ks o.buffers n a.1

-- ---- a session over buffers, before some more inputs, is one over what they stand for

pub record Simulates (cells : ℕ) (l rest : List Input) (b : Buffers) (d : Due) : Type 0 where
  pub due : Due
  pub stopped : Bool
  pub abstract : Session cells (world_of b d) (session l b) (world_of (buffers_after l b) due)
  pub fits : Fits cells (buffers_after l b) due
  pub free : stopped ≡ false → due ≡ nothing_due
  pub after : opening_rule stopped rest (buffers_after l b) ≡ true

pub simulates : (cells : ℕ) (l rest : List Input) (b : Buffers) (d : Due) (due : Bool) → Fits cells b d → (due ≡ false → d ≡ nothing_due)
    → opening_rule due (l ++ rest) b ≡ true → Simulates cells l rest b d
simulates cells [] rest b d due f z r = record { due = d; stopped = due; abstract = end; fits = f; free = z; after = r }
simulates cells (i ∷ is) rest b d due f z r =
    let s = and_split (not due || is_opening i) (opening_rule (was_stopped (input_on i b).report.status) (is ++ rest) (input_on i b).buffers) r in
    let m : Moves cells i b d = input_moves cells i b d due f z s.0 in
    let t = simulates cells is rest (input_on i b).buffers m.due (was_stopped (input_on i b).report.status) m.fits m.free s.1 in
    record { due = t.due; stopped = t.stopped; abstract = next m.move t.abstract; fits = t.fits; free = t.free; after = t.after }

module _ (b : Buffers) (k : ℕ) (l rest : List Input) (e : MakeDone b k) (rule : opening_rule false (l ++ rest) (made_from b k) ≡ true) where
  pub run : Simulates (cells_in b) l rest (made_from b k) nothing_due
  run = simulates (cells_in b) l rest (made_from b k) nothing_due false (make_fits k b e) (λ _. refl) rule

  pub from_make : Session (cells_in b) (after_make (made_from b k).memory) (session l (made_from b k)) (world_of (buffers_after l (made_from b k)) run.due)
  from_make =
      subst (λ (o : Option State). Session (cells_in b) (world o (made_from b k).memory nothing_due) (session l (made_from b k)) (world_of (buffers_after l (made_from b k)) run.due))
      (make_stands k b e) run.abstract

whole : (l : List Input) (due : Bool) (b : Buffers) → opening_rule due l b ≡ true → opening_rule due (l ++ []) b ≡ true
whole [] due b r = refl
whole (i ∷ is) due b r =
    let s = and_split (not due || is_opening i) (opening_rule (was_stopped (input_on i b).report.status) is (input_on i b).buffers) r in
    rw s.0 (whole is (was_stopped (input_on i b).report.status) (input_on i b).buffers s.1)

-- ---- the theorem

pub demand_3 : Demand3
demand_3 b k l e rule =
    abstract.demand_3 (cells_in b) (made_from b k).memory (session l (made_from b k)) _ (from_make b k l [] e (whole l false (made_from b k) rule))

-- ---- the history agrees with the state that the buffers stand for

pub history_agrees : (b : Buffers) (k : ℕ) (l : List Input) (s : State) → MakeDone b k → opening_rule false l (made_from b k) ≡ true
    → standing (buffers_after l (made_from b k)) ≡ some s → Agrees s (history_now (buffers_after l (made_from b k)) (history_of (made_from b k) l))
history_agrees b k l s e rule there =
    let r = whole l false (made_from b k) rule in
    go (run b k l [] e r).due (run b k l [] e r).fits.pends
    (abstract.history_agrees (cells_in b) (made_from b k).memory (session l (made_from b k)) s last.memory (run b k l [] e r).due
    (subst (λ (o : Option State). Session (cells_in b) (after_make (made_from b k).memory) (session l (made_from b k)) (world o last.memory (run b k l [] e r).due)) there (from_make b k l [] e r)))
  where
    last : Buffers
    last = buffers_after l (made_from b k)

    n : History
    n = history_of (made_from b k) l

    go : (d : Due) → Pends d last → Agrees s (at_opening d last.memory n) → Agrees s (history_now last n)
    go nothing_due p a = rw (p s there) a
    go drop_due p a = rw (p s there) (record { same_next = a.same_next; same_domains = a.same_domains })
    go finish_due p a = rw (p.1.1, eqb-suc-zero p.1.0) a

-- ---- every completed restore of a domain not excluded adds exactly one count

-- the history has the domain that handle h names, and an event adds exactly the count of its mismatches, unless it is excluded
abbrev EventCounts : (h : ℕ) → (before : Buffers) → History → Event → (memory : List ℕ) → History → Type 0
EventCounts h b n e memory now =
    (q : Tracked) × (tracked_at (named h (state_of b)) n.domains ≡ some q) × (q.excluded ≡ false → count_event e memory now ≡ mismatches memory q ∷ [])

module _ (b : Buffers) (k : ℕ) (l : List Input) (h j : ℕ) (e : MakeDone b k) (rule : opening_rule false (l ++ call (restore h) j ∷ []) (made_from b k) ≡ true) where
  abbrev last : Buffers
  last = buffers_after l (made_from b k)

  abbrev before : Simulates (cells_in b) l (call (restore h) j ∷ []) (made_from b k) nothing_due
  before = run b k l (call (restore h) j ∷ []) e rule

  none_due : before.due ≡ nothing_due
  none_due = before.free (not_due before.stopped (and_split (not before.stopped || false) true before.after).0)

  here : Session (cells_in b) (after_make (made_from b k).memory) (session l (made_from b k)) (world_of (buffers_after l (made_from b k)) nothing_due)
  here =
      subst (λ (d : Due). Session (cells_in b) (after_make (made_from b k).memory) (session l (made_from b k)) (world_of (buffers_after l (made_from b k)) d)) none_due
      (from_make b k l (call (restore h) j ∷ []) e rule)

  moves : Moves (cells_in b) (call (restore h) j) (buffers_after l (made_from b k)) nothing_due
  moves =
      input_moves (cells_in b) (call (restore h) j) (buffers_after l (made_from b k)) nothing_due false
      (subst (λ (d : Due). Fits (cells_in b) (buffers_after l (made_from b k)) d) none_due before.fits) (λ _. refl) refl

  stands : asked (buffers_after l (made_from b k)) ≡ 0 → standing (buffers_after l (made_from b k)) ≡ some (state_of (buffers_after l (made_from b k)))
  stands z = store_standing (buffers_after l (made_from b k)).memory (buffers_after l (made_from b k)).bodies (buffers_after l (made_from b k)).table z

  event_done : (call_on (restore h) j (buffers_after l (made_from b k))).report.status ≡ is_done
      → EventCounts h (buffers_after l (made_from b k)) (history_of (made_from b k) l) (called (restore h) j is_done)
      (call_on (restore h) j (buffers_after l (made_from b k))).buffers.memory (history_of (made_from b k) l)
  event_done d =
      let z = call_passed (restore h) j last (λ r. subst Finished (sym d ∙ r) tt) in
      let seen_is = call_means_lem (restore h) j last z in
      let v = viewed_done (effect_of (room_of last) last.memory (restore h) (state_of last)) j (state_of last) last.memory (memory_at j (restore h) (state_of last) last.memory)
      (ap (λ (v : View). v.report.status) (sym seen_is) ∙ d) in
      let r : (call_on (restore h) j last).report ≡ done v.0 v.1.0 = ap (λ (v : View). v.report) seen_is ∙ v.1.1 in
      abstract.restore_counted (cells_in b) (made_from b k).memory (session l (made_from b k)) (state_of last) last.memory h j v.0 v.1.0
      (world_of (call_on (restore h) j last).buffers moves.due)
      (subst (λ (o : Option State). Session (cells_in b) (after_make (made_from b k).memory) (session l (made_from b k)) (world o last.memory nothing_due)) (stands z) here)
      (subst (λ (o : Option State). Move (cells_in b) (world o last.memory nothing_due) (call (restore h) j) (done v.0 v.1.0) (world_of (call_on (restore h) j last).buffers moves.due)) (stands z)
      (subst (λ (x : Report). Move (cells_in b) (world_of last nothing_due) (call (restore h) j) x (world_of (call_on (restore h) j last).buffers moves.due)) r moves.move))

  pub done_counts : (call_on (restore h) j (buffers_after l (made_from b k))).report.status ≡ is_done → CountsOne h (made_from b k) l (call (restore h) j ∷ [])
  done_counts d =
      let c = event_done d in
      let o : Outcome = call_on (restore h) j last in
      let n : History = history_of (made_from b k) l in (
        c.0,
        c.1,
        λ g.
            let one : count_event (called (restore h) j o.report.status) o.buffers.memory n ≡ mismatches o.buffers.memory c.0 ∷ [] =
            ap (λ (t : Status). count_event (called (restore h) j t) o.buffers.memory n) d ∙ c.2 g in
            counts_then l (call (restore h) j ∷ []) (made_from b k) begun
            ∙ ap (λ (cs : List ℕ). counts_of (made_from b k) l ++ cs) (append-nil (count_event (called (restore h) j o.report.status) o.buffers.memory n) ∙ one)
            ∙ ap (λ (x : Buffers). counts_of (made_from b k) l ++ mismatches x.memory c.0 ∷ []) (sym (buffers_then l (call (restore h) j ∷ []) (made_from b k))),
      )

  -- stopped: what it leaves has nothing pending, and then no opening takes a step; or an opening is to finish it
  event_late : (ks : List ℕ) (i x : ℕ) → (call_on (restore h) j (buffers_after l (made_from b k))).report.status ≡ is_stopped
      → AllStopped ks (call_on (restore h) j (buffers_after l (made_from b k))).buffers
      → (outcome (open_call (buffers_after (openings ks) (call_on (restore h) j (buffers_after l (made_from b k))).buffers)) i (buffers_after (openings ks) (call_on (restore h) j (buffers_after l (made_from b k))).buffers)).report ≡ done (suc x) 0
      → EventCounts h (buffers_after l (made_from b k)) (history_of (made_from b k) l) (opened i is_done (suc x))
      (call_on (restore h) j (buffers_after l (made_from b k))).buffers.memory (history_of (made_from b k) (l ++ call (restore h) j ∷ openings ks))
  event_late ks i x d stops took = by_due moves.due moves.fits.pends moves.move
    where
      left : Buffers
      left = (call_on (restore h) j (buffers_after l (made_from b k))).buffers

      n : History
      n = history_of (made_from b k) l

      Goal : Type 0
      Goal =
          EventCounts h (buffers_after l (made_from b k)) (history_of (made_from b k) l) (opened i is_done (suc x))
          (call_on (restore h) j (buffers_after l (made_from b k))).buffers.memory (history_of (made_from b k) (l ++ call (restore h) j ∷ openings ks))

      z : asked (buffers_after l (made_from b k)) ≡ 0
      z = call_passed (restore h) j (buffers_after l (made_from b k)) (λ r. subst Halted (sym d ∙ r) tt)

      -- nothing pending: the first opening is done with no step
      idle : (ks : List ℕ) → ((s : State) → standing left ≡ some s → pending left.table ≡ 0) → AllStopped ks left
          → (outcome (open_call (buffers_after (openings ks) left)) i (buffers_after (openings ks) left)).report ≡ done (suc x) 0 → ⊥
      idle [] f a t = let s : suc x ≡ 0 = ap (λ (r : Report). r.steps) (sym t) ∙ (idle_opening i left f).1 in omega arith
      idle (y ∷ ys) f a t = (idle_opening y left f).0 a.0

      -- the history at the last opening
      history_is : history_of (made_from b k) (l ++ call (restore h) j ∷ openings ks) ≡ observe (observed (called (restore h) j is_stopped) left.memory) n
      history_is =
          history_then l (call (restore h) j ∷ openings ks) (made_from b k) begun
          ∙ stopped_openings ks left (observe (observed (called (restore h) j (call_on (restore h) j (buffers_after l (made_from b k))).report.status) left.memory) n) stops
          ∙ ap (λ (t : Status). observe (observed (called (restore h) j t) left.memory) n) d

      by_due : (due : Due) → Pends due left → Move (cells_in b) (world_of (buffers_after l (made_from b k)) nothing_due) (call (restore h) j) (call_on (restore h) j (buffers_after l (made_from b k))).report (world_of left due) → Goal
      by_due nothing_due p m = absurd (idle ks p stops took)
      by_due drop_due p m = absurd (idle ks p stops took)
      by_due finish_due p m =
          let c =
          abstract.restore_counted_late (cells_in b) (made_from b k).memory (session l (made_from b k)) (state_of last) last.memory left.memory h j i x
          (call_on (restore h) j (buffers_after l (made_from b k))).report (standing left)
          (subst (λ (o : Option State). Session (cells_in b) (after_make (made_from b k).memory) (session l (made_from b k)) (world o last.memory nothing_due)) (stands z) here)
          (subst (λ (o : Option State). Move (cells_in b) (world o last.memory nothing_due) (call (restore h) j) (call_on (restore h) j (buffers_after l (made_from b k))).report (world_of left finish_due)) (stands z) m) in
          (c.0, c.1, λ g. ap (λ (t : History). count_event (opened i is_done (suc x)) left.memory t) history_is ∙ c.2 g)

  -- the stopped restore adds no count, nor does a stopped opening; the opening that is done adds one, of the memory that it leaves
  pub late_counts : (ks : List ℕ) (i x : ℕ) → (call_on (restore h) j (buffers_after l (made_from b k))).report.status ≡ is_stopped
      → AllStopped ks (call_on (restore h) j (buffers_after l (made_from b k))).buffers
      → (opening_after ks i (call_on (restore h) j (buffers_after l (made_from b k))).buffers).report ≡ done (suc x) 0
      → CountsOne h (made_from b k) l (call (restore h) j ∷ openings (ks ++ i ∷ []))
  late_counts ks i x d stops took =
      let c = event_late ks i x d stops took_last in (c.0, c.1, λ g. longer c.0 (c.2 g))
    where
      made : Buffers
      made = made_from b k

      left : Buffers
      left = (call_on (restore h) j (buffers_after l (made_from b k))).buffers

      more : List Input
      more = openings ks ++ opening i ∷ []

      n : History
      n = history_of (made_from b k) l

      -- the history after the stopped restore, and before the last opening
      n₁ : Status → History
      n₁ t = observe (observed (called (restore h) j t) left.memory) n

      now : History
      now = history_of (made_from b k) (l ++ call (restore h) j ∷ openings ks)

      before_last : Buffers
      before_last = buffers_after (openings ks) left

      took_last : (outcome (open_call before_last) i before_last).report ≡ done (suc x) 0
      took_last = subst (λ (u : Buffers). (outcome (open_call u) i u).report ≡ done (suc x) 0) (sym (openings_after ks left)) took

      end_memory : (buffers_after (l ++ call (restore h) j ∷ openings (ks ++ i ∷ [])) (made_from b k)).memory ≡ left.memory
      end_memory =
          ap (λ (x : Buffers). x.memory) (buffers_then l (call (restore h) j ∷ openings (ks ++ i ∷ [])) (made_from b k))
          ∙ openings_memory (ks ++ i ∷ []) left

      last_event : (q : Tracked) → count_event (opened i is_done (suc x)) left.memory now ≡ mismatches left.memory q ∷ []
          → counts now (session (opening i ∷ []) before_last) ≡ mismatches left.memory q ∷ []
      last_event q one =
          let o : Outcome = outcome (open_call before_last) i before_last in
          append-nil (count_event (opened i o.report.status o.report.steps) o.buffers.memory now)
          ∙ ap (λ (r : Report). count_event (opened i r.status r.steps) o.buffers.memory now) took_last
          ∙ ap (λ (m : List ℕ). count_event (opened i is_done (suc x)) m now) (open_memory i before_last ∙ openings_memory ks left)
          ∙ one

      longer : (q : Tracked) → count_event (opened i is_done (suc x)) left.memory now ≡ mismatches left.memory q ∷ []
          → counts_of (made_from b k) (l ++ call (restore h) j ∷ openings (ks ++ i ∷ []))
          ≡ counts_of (made_from b k) l ++ mismatches (buffers_after (l ++ call (restore h) j ∷ openings (ks ++ i ∷ [])) (made_from b k)).memory q ∷ []
      longer q one =
          let status : Status = (call_on (restore h) j (buffers_after l (made_from b k))).report.status in
          let split : counts (n₁ status) (session more left) ≡ counts now (session (opening i ∷ []) before_last) =
          counts_then (openings ks) (opening i ∷ []) left (n₁ status)
          ∙ ap (λ (cs : List ℕ). cs ++ counts (history_after (n₁ status) (session (openings ks) left)) (session (opening i ∷ []) before_last)) (stopped_counts ks left (n₁ status) stops)
          ∙ ap (λ (m : History). counts m (session (opening i ∷ []) before_last)) (sym (history_then l (call (restore h) j ∷ openings ks) (made_from b k) begun)) in
          let none : count_event (called (restore h) j status) left.memory n ≡ [] = ap (λ (t : Status). count_event (called (restore h) j t) left.memory n) d in
          ap (λ (ks : List Input). counts_of (made_from b k) (l ++ call (restore h) j ∷ ks)) (openings_then ks i)
          ∙ counts_then l (call (restore h) j ∷ more) (made_from b k) begun
          ∙ ap (λ (cs : List ℕ). counts_of (made_from b k) l ++ (cs ++ counts (n₁ status) (session more left))) none
          ∙ ap (λ (cs : List ℕ). counts_of (made_from b k) l ++ cs) (split ∙ last_event q one)
          ∙ ap (λ (m : List ℕ). counts_of (made_from b k) l ++ mismatches m q ∷ []) (sym end_memory)

pub counted : Counted
counted = record {
  agrees = history_agrees;
  done_counts = λ b k l h j e rule d. done_counts b k l h j e rule d;
  late_counts = λ b k l h j ks i x e rule d stops took. late_counts b k l h j e rule ks i x d stops took;
}
