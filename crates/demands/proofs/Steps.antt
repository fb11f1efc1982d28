-- Each input of a session over buffers is a move of the session over what the buffers stand for: the state that opening finds, memory, and which
-- opening is due. Assumes nothing.
use Prim.Native.Nat.{ℕ, zero, suc, ◌+◌, ◌*◌, ◌<◌}
use mathlib.Core.Bool.{Bool, true, false, cond, not, ◌&&◌, ◌||◌, true≢false, false≢true}
use mathlib.Core.List.{List}
use mathlib.Core.Option.{Option, none, some}
use mathlib.Core.Path.{◌≡◌, refl, sym, ap, subst, ◌∙◌}
use native.Mathlib.Omega.{arith}
use borrow.Author.Tests.{ltb-true, lt-ltb, le-ltb, leb-true, leb-false}
use lib.Dec.{leb, ltb, leb-zero, eqb-suc-zero}
use lib.ListN.{length}
use Rattle.words.specs.Layout.{cells_of}
use Rattle.words.specs.Stores.{Store, stores}
use Rattle.words.specs.Journal.{pending}
use Rattle.words.proofs.Plans.{length_stores}
use Rattle.words.proofs.Scan.{by_bool}
use Rattle.table.specs.Checks.{lengths_ok}
use Rattle.table.proofs.Checks.{lengths_facts}
use Rattle.model.specs.State.{State}
use Rattle.model.specs.Answer.{Report, refused, ended, View, steps_of}
use Rattle.model.specs.Calls.{Effect, refuse, change, make_steps, make_view, open_steps, open_view, viewed_with}
use Rattle.model.specs.History.{Request}
use Rattle.model.specs.Session.{Input, make, call, opening, write, Due, nothing_due, drop_due, finish_due, World, world, effect_of, memory_at, view_of, Move, call_refused, open_refused, written_to}
use Rattle.model.proofs.Views.{due_after, view_moves, make_moves, open_idle_moves, open_drop_moves, open_finish_moves}
use Rattle.store.specs.Outcome.{Buffers, buffers, Outcome, outcome, Call, refuse as refusing, perform}
use Rattle.store.specs.Checks.{make_check, lent_of}
use Rattle.store.specs.State.{state_of, standing, slots}
use Rattle.store.specs.Calls.{make_call, open_call}
use Rattle.store.specs.Means.{make_means, open_means, room_of}
use Rattle.store.proofs.Means.{visible_of, by_check, make_means_lem, open_means_lem, store_standing}
use Rattle.store.proofs.Standing.{is_standing, standing_opens, None}
use Rattle.store.proofs.Pending.{after_pending, make_pending, open_pending_after}
use Rattle.demands.specs.Session.{call_on, input_on, was_stopped, is_opening}
use Rattle.demands.specs.Demands.{asked, opens}
use Rattle.demands.proofs.Shape.{Alike, call_alike, input_alike, refused_kept, call_kept, standing_none}
use Rattle.demands.proofs.Calls.{facts}
use Rattle.demands.proofs.Seen.{call_means_lem, call_refusal}
use Rattle.demands.proofs.Within.{store_within}

-- ---- buffers and the opening that is due

-- nothing is pending, save where an opening is to finish a stopped call
abbrev pub Pends : Due → Buffers → Type 0
Pends nothing_due b = (s : State) → standing b ≡ some s → pending b.table ≡ 0
Pends drop_due b = (s : State) → standing b ≡ some s → pending b.table ≡ 0
Pends finish_due b = (opens b ≡ 0) × ((p : ℕ) × (pending b.table ≡ suc p))

pub record Fits (cells : ℕ) (b : Buffers) (d : Due) : Type 0 where
  pub lengths : lengths_ok (length b.memory) (length b.bodies) (length b.table) ≡ true
  pub size : cells_of (length b.memory) ≡ cells
  pub pends : Pends d b

abbrev pub world_of : Buffers → Due → World
world_of b d = world (standing b) b.memory d

-- what is asked of one input: a move to what its buffers stand for, and an opening due only where it was stopped
pub record Moves (cells : ℕ) (i : Input) (b : Buffers) (d : Due) : Type 0 where
  pub due : Due
  pub move : Move cells (world_of b d) i (input_on i b).report (world_of (input_on i b).buffers due)
  pub fits : Fits cells (input_on i b).buffers due
  pub free : was_stopped (input_on i b).report.status ≡ false → due ≡ nothing_due

recast : {cells : ℕ} {w w' v v' : World} {i : Input} {r r' : Report} → w ≡ w' → r ≡ r' → v ≡ v' → Move cells w i r v → Move cells w' i r' v'
recast {cells = cells} {w = w} {v' = v'} {i = i} {r = r} {r' = r'} p q e x =
    subst (λ (a : World). Move cells a i r' v') p (subst (λ (a : Report). Move cells w i a v') q (subst (λ (a : World). Move cells w i r a) e x))

-- lengths stay
kept : {cells : ℕ} {b c : Buffers} {d e : Due} → Fits cells b d → Alike b c → Pends e c → Fits cells c e
kept {b = b} {c = c} f a p = record {
  lengths = rw (a.memory, a.bodies, a.table) f.lengths;
  size = ap cells_of a.memory ∙ f.size;
  pends = p;
}

-- ---- a call

-- nothing is left where the call is not stopped
pub none_left : (w : ℕ) (early late : Bool) → late ≡ false → cond (early && late) w 0 ≡ 0
none_left w true late z = rw z
none_left w false late z = refl

due_pends : (e : Effect) (k : ℕ) (b : Buffers) → pending b.table ≡ after_pending e k → opens b ≡ 0 → Pends (due_after e k) b
due_pends (refuse n) k b p o = λ s q. p
due_pends (change x w h new) k b p o =
    by_bool (leb (steps_of x w) k)
    (λ t.
    let late : ltb k (steps_of x w) ≡ false = le-ltb k (steps_of x w) (leb-true (steps_of x w) k t) in
    rw t (λ s q. p ∙ none_left w (ltb (x + 2 * w) k) (ltb k (steps_of x w)) late))
    (λ t.
    by_bool (ltb (x + 2 * w) k)
    (λ u.
    let early : ltb k (steps_of x w) ≡ true = lt-ltb k (steps_of x w) (leb-false (steps_of x w) k t) in
    rw (t, u) (o, some_left w (p ∙ rw (u, early)) (leb-false (steps_of x w) k t) (ltb-true (x + 2 * w) k u)))
    (λ u. rw (t, u) (λ s q. p ∙ rw u)))
  where
    some_left : (n : ℕ) → pending b.table ≡ n → k < steps_of x n → x + 2 * n < k → (j : ℕ) × (pending b.table ≡ suc j)
    some_left zero e l m = absurd (omega arith)
    some_left (suc j) e l m = (j, e)

pub viewed_stands : (e : Effect) (k : ℕ) (s : State) (m n : List ℕ) → (u : State) × ((viewed_with e k s m n).state ≡ some u)
viewed_stands (refuse q) k s m n = (s, refl)
viewed_stands (change b w h new) k s m n = (cond (ltb (b + 2 * w) k) new s, refl)

viewed_free : (e : Effect) (k : ℕ) (s : State) (m n : List ℕ) → was_stopped (viewed_with e k s m n).report.status ≡ false → due_after e k ≡ nothing_due
unfolding ended
viewed_free (refuse q) k s m n f = refl
viewed_free (change b w h new) k s m n f =
    by_bool (leb (steps_of b w) k)
    (λ t. rw t)
    (λ t. let g = rw t at f in absurd (true≢false g))

exact : {cells : ℕ} {b : Buffers} {d : Due} → Fits cells b d → length b.memory ≡ 64 * cells_of (length b.memory)
exact {b = b} f = (lengths_facts (length b.memory) (length b.bodies) (length b.table) f.lengths).memory_exact

call_moves : (cells : ℕ) (c : Request) (k : ℕ) (b : Buffers) → Fits cells b nothing_due → Moves cells (call c k) b nothing_due
call_moves cells c k b f = by_check (λ q. asked b ≡ q → Moves cells (call c k) b nothing_due) (asked b) (λ n e _. refused-at n e) (λ e _. made e) refl
  where
    o : Outcome
    o = call_on c k b

    refused-at : (n : ℕ) → asked b ≡ suc n → Moves cells (call c k) b nothing_due
    refused-at n e =
        let r : (call_on c k b).report ≡ refused (suc n) = call_refusal c k n b e in
        let same : (call_on c k b).buffers ≡ b = call_kept c k b (ap (λ (x : Report). x.status) r) in
        record {
          due = nothing_due;
          move = recast refl (sym r) (ap (λ (x : Buffers). world_of x nothing_due) (sym same)) call_refused;
          fits = subst (λ (x : Buffers). Fits cells x nothing_due) (sym same) f;
          free = λ _. refl;
        }

    made : asked b ≡ 0 → Moves cells (call c k) b nothing_due
    made e =
        let s : State = state_of b in
        let m : List ℕ = b.memory in
        let seen_is : visible_of (call_on c k b) ≡ view_of (room_of b) c k (state_of b) b.memory = call_means_lem c k b e in
        let d : Due = due_after (effect_of (room_of b) b.memory c (state_of b)) k in
        let start : standing b ≡ some (state_of b) = store_standing b.memory b.bodies b.table e in
        let stands = viewed_stands (effect_of (room_of b) b.memory c (state_of b)) k (state_of b) b.memory (memory_at k c (state_of b) b.memory) in
        let after : standing (call_on c k b).buffers ≡ some stands.0 = ap (λ (v : View). v.state) seen_is ∙ stands.1 in
        let moves : Move (cells_of (length b.memory)) (world (some (state_of b)) b.memory nothing_due) (call c k) (view_of (room_of b) c k (state_of b) b.memory).report
        (world (view_of (room_of b) c k (state_of b) b.memory).state (view_of (room_of b) c k (state_of b) b.memory).memory (due_after (effect_of (room_of b) b.memory c (state_of b)) k)) =
        view_moves k (room_of b) c (state_of b) b.memory (exact f) (store_within b.memory b.bodies b.table e) in
        record {
          due = d;
          move = subst (λ (n : ℕ). Move n (world_of b nothing_due) (call c k) (call_on c k b).report (world_of (call_on c k b).buffers (due_after (effect_of (room_of b) b.memory c (state_of b)) k))) f.size
              (recast (ap (λ (x : Option State). world x b.memory nothing_due) (sym start)) (ap (λ (v : View). v.report) (sym seen_is))
              (ap (λ (v : View). world v.state v.memory (due_after (effect_of (room_of b) b.memory c (state_of b)) k)) (sym seen_is)) moves);
          fits = kept f (call_alike c k b)
              (due_pends (effect_of (room_of b) b.memory c (state_of b)) k (call_on c k b).buffers ((facts c b).pends k e) (standing_opens (call_on c k b).buffers stands.0 after));
          free = λ w. viewed_free (effect_of (room_of b) b.memory c (state_of b)) k (state_of b) b.memory (memory_at k c (state_of b) b.memory)
              (ap (λ (v : View). was_stopped v.report.status) (sym seen_is) ∙ w);
        }

-- ---- make

make_yes : {cells : ℕ} {b : Buffers} {d : Due} → Fits cells b d → make_check (lent_of b) ≡ 0
unfolding make_check
make_yes f = rw f.lengths

make_seen : (k : ℕ) (b : Buffers) → make_check (lent_of b) ≡ 0
    → visible_of (outcome (make_call b) k b) ≡ make_view (slots b) k (standing b) b.memory
unfolding make_means
make_seen k b e = make_means_lem k b ∙ rw e

-- with no step made everything is as it was
pub unstepped : (c : Call) (b : Buffers) → (outcome c 0 b).buffers ≡ b
unfolding outcome
unstepped (refusing n) b = refl
unstepped (perform plan h) b = refl

make_pends : (cells k : ℕ) (b : Buffers) → Fits cells b nothing_due → Pends (cond (leb (make_steps (slots b)) k) nothing_due drop_due) (outcome (make_call b) k b).buffers
make_pends cells k b f =
    by_bool (leb (make_steps (slots b)) k)
    (λ t. rw t (λ s e. make_pending k b f.lengths (leb-true (make_steps (slots b)) k t)))
    (λ t. rw t (λ s e. torn k t s e))
  where
    torn : (k : ℕ) → leb (make_steps (slots b)) k ≡ false → (s : State) → standing (outcome (make_call b) k b).buffers ≡ some s
        → pending (outcome (make_call b) k b).buffers.table ≡ 0
    torn zero t s e = rw (unstepped (make_call b) b) (f.pends s (ap standing (sym (unstepped (make_call b) b)) ∙ e))
    torn (suc k) t s e =
        let seen_is = make_seen (suc k) b (make_yes f) in
        let gone : standing (outcome (make_call b) (suc k) b).buffers ≡ none = ap (λ (v : View). v.state) seen_is ∙ rw (t, eqb-suc-zero k) in
        absurd (subst None (sym gone ∙ e) tt)

make_free : (n k : ℕ) → was_stopped (ended n 0 k).status ≡ false → cond {A = Due} (leb n k) nothing_due drop_due ≡ nothing_due
unfolding ended
make_free n k f = by_bool (leb n k) (λ t. rw t) (λ t. let g = rw t at f in absurd (true≢false g))

make_input : (cells k : ℕ) (b : Buffers) → Fits cells b nothing_due → Moves cells (make k) b nothing_due
make_input cells k b f =
    let seen_is : visible_of (outcome (make_call b) k b) ≡ make_view (slots b) k (standing b) b.memory = make_seen k b (make_yes f) in
    record {
      due = cond (leb (make_steps (slots b)) k) nothing_due drop_due;
      move = recast refl (ap (λ (v : View). v.report) (sym seen_is))
          (ap (λ (v : View). world v.state v.memory (cond (leb (make_steps (slots b)) k) nothing_due drop_due)) (sym seen_is)) (make_moves cells (slots b) k (standing b) b.memory);
      fits = kept f (input_alike (make k) b) (make_pends cells k b f);
      free = λ w. make_free (make_steps (slots b)) k (ap (λ (v : View). was_stopped v.report.status) (sym seen_is) ∙ w);
    }

-- ---- open

pub open_seen : (k : ℕ) (b : Buffers) → opens b ≡ 0 → visible_of (outcome (open_call b) k b) ≡ open_view (pending b.table) k (state_of b) b.memory
unfolding open_means
open_seen k b e = open_means_lem k b ∙ rw e

pub open_refusal : (k n : ℕ) (b : Buffers) → opens b ≡ suc n → (outcome (open_call b) k b).report ≡ refused (suc n)
unfolding open_means
open_refusal k n b e = ap (λ (v : View). v.report) (open_means_lem k b) ∙ rw e

open_free : (p k : ℕ) → was_stopped (ended (open_steps p) 0 k).status ≡ false → cond {A = Due} (leb (open_steps p) k) nothing_due finish_due ≡ nothing_due
unfolding ended
open_free p k f = by_bool (leb (open_steps p) k) (λ t. rw t) (λ t. let g = rw t at f in absurd (true≢false g))

module _ (cells k : ℕ) (b : Buffers) (yes : opens b ≡ 0) where
  seen_is : visible_of (outcome (open_call b) k b) ≡ open_view (pending b.table) k (state_of b) b.memory
  seen_is = open_seen k b yes

  stands : standing b ≡ some (state_of b)
  stands = is_standing b yes

  pub still_opens : opens (outcome (open_call b) k b).buffers ≡ 0
  still_opens = standing_opens (outcome (open_call b) k b).buffers (state_of b) (ap (λ (v : View). v.state) seen_is)

  -- with nothing pending
  open_idle : (d : Due) → Fits cells b d → pending b.table ≡ 0
      → Move cells (world (some (state_of b)) b.memory d) (opening k) (open_view 0 k (state_of b) b.memory).report (world (some (state_of b)) b.memory nothing_due)
      → Moves cells (opening k) b d
  open_idle d f idle move =
      let same : visible_of (outcome (open_call b) k b) ≡ open_view 0 k (state_of b) b.memory = seen_is ∙ ap (λ (p : ℕ). open_view p k (state_of b) b.memory) idle in
      let left : pending (outcome (open_call b) k b).buffers.table ≡ 0 = open_pending_after k b yes ∙ rw (idle, leb-zero k) in
      record {
        due = nothing_due;
        move = recast (ap (λ (o : Option State). world o b.memory d) (sym stands)) (ap (λ (v : View). v.report) (sym same))
            (ap (λ (v : View). world v.state v.memory nothing_due) (sym same)) move;
        fits = kept f (input_alike (opening k) b) (λ s e. left);
        free = λ w. refl;
      }

  open_finish : (p : ℕ) → Fits cells b finish_due → pending b.table ≡ suc p → Moves cells (opening k) b finish_due
  open_finish p f waits =
      let d : Due = cond (leb (open_steps (suc p)) k) nothing_due finish_due in
      let same : visible_of (outcome (open_call b) k b) ≡ open_view (suc p) k (state_of b) b.memory = seen_is ∙ ap (λ (q : ℕ). open_view q k (state_of b) b.memory) waits in
      let left : pending (outcome (open_call b) k b).buffers.table ≡ cond (leb (open_steps (suc p)) k) 0 (suc p) = open_pending_after k b yes ∙ rw waits in
      record {
        due = d;
        move = recast (ap (λ (o : Option State). world o b.memory finish_due) (sym stands)) (ap (λ (v : View). v.report) (sym same))
            (ap (λ (v : View). world v.state v.memory (cond (leb (open_steps (suc p)) k) nothing_due finish_due)) (sym same)) (open_finish_moves cells p k (state_of b) b.memory);
        fits = kept f (input_alike (opening k) b)
            (by_bool (leb (open_steps (suc p)) k) (λ t. rw t (λ s e. left ∙ rw t)) (λ t. rw t (still_opens, (p, left ∙ rw t))));
        free = λ w. open_free (suc p) k (ap (λ (v : View). was_stopped v.report.status) (sym same) ∙ w);
      }

-- where there is no store it is refused, whatever was due
open_nothing : (cells k n : ℕ) (b : Buffers) (d : Due) → Fits cells b d → opens b ≡ suc n → Moves cells (opening k) b d
open_nothing cells k n b d f e =
    let r : (outcome (open_call b) k b).report ≡ refused (suc n) = open_refusal k n b e in
    let same : (outcome (open_call b) k b).buffers ≡ b = refused_kept (open_call b) k b (ap (λ (x : Report). x.status) r) in
    let gone : standing b ≡ none = standing_none b n e in
    let after : Fits cells b nothing_due = record { lengths = f.lengths; size = f.size; pends = λ s q. absurd (subst None (sym gone ∙ q) tt) } in
    record {
      due = nothing_due;
      move = recast (ap (λ (o : Option State). world o b.memory d) (sym gone)) (sym r)
          (ap (λ (o : Option State). world o b.memory nothing_due) (sym gone) ∙ ap (λ (x : Buffers). world_of x nothing_due) (sym same)) open_refused;
      fits = subst (λ (x : Buffers). Fits cells x nothing_due) (sym same) after;
      free = λ w. refl;
    }

open_input : (cells k : ℕ) (b : Buffers) (d : Due) → Fits cells b d → Moves cells (opening k) b d
open_input cells k b d f =
    by_check (λ q. opens b ≡ q → Moves cells (opening k) b d) (opens b) (λ n e _. open_nothing cells k n b d f e) (λ e _. found d f e) refl
  where
    found : (d : Due) → Fits cells b d → opens b ≡ 0 → Moves cells (opening k) b d
    found nothing_due f e = open_idle cells k b e nothing_due f (f.pends (state_of b) (is_standing b e)) (open_idle_moves cells k (state_of b) b.memory)
    found drop_due f e = open_idle cells k b e drop_due f (f.pends (state_of b) (is_standing b e)) (open_drop_moves cells k (state_of b) b.memory)
    found finish_due f e = open_finish cells k b e f.pends.1.0 f f.pends.1.1

-- ---- a program write

pub written_standing : (b : Buffers) (ws : List Store) → standing (buffers (stores ws b.memory) b.bodies b.table) ≡ standing b
unfolding standing state_of
written_standing b ws = rw (length_stores ws b.memory)

write_input : (cells : ℕ) (ws : List Store) (b : Buffers) → Fits cells b nothing_due → Moves cells (write ws) b nothing_due
write_input cells ws b f = record {
  due = nothing_due;
  move = recast refl refl (ap (λ (o : Option State). world o (stores ws b.memory) nothing_due) (sym (written_standing b ws))) written_to;
  fits = kept f (input_alike (write ws) b) (λ s e. f.pends s (sym (written_standing b ws) ∙ e));
  free = λ w. refl;
}

-- ---- any input

pub not_due : (due : Bool) → (not due || false) ≡ true → due ≡ false
not_due true e = absurd (false≢true e)
not_due false e = refl

-- "What follows a stopped call, a stopped opening too, is an opening"
pub input_moves : (cells : ℕ) (i : Input) (b : Buffers) (d : Due) (due : Bool) → Fits cells b d → (due ≡ false → d ≡ nothing_due)
    → (not due || is_opening i) ≡ true → Moves cells i b d
input_moves cells (opening k) b d due f z r = open_input cells k b d f
input_moves cells (make k) b d due f z r =
    let n : d ≡ nothing_due = z (not_due due r) in
    subst (λ (x : Due). Moves cells (make k) b x) (sym n) (make_input cells k b (subst (λ (x : Due). Fits cells b x) n f))
input_moves cells (call c k) b d due f z r =
    let n : d ≡ nothing_due = z (not_due due r) in
    subst (λ (x : Due). Moves cells (call c k) b x) (sym n) (call_moves cells c k b (subst (λ (x : Due). Fits cells b x) n f))
input_moves cells (write ws) b d due f z r =
    let n : d ≡ nothing_due = z (not_due due r) in
    subst (λ (x : Due). Moves cells (write ws) b x) (sym n) (write_input cells ws b (subst (λ (x : Due). Fits cells b x) n f))
