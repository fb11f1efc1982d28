-- What is proved of each call on every buffers, in one list; the laws of every call go by it. Each crate proves its own call. Assumes nothing.
use Prim.Native.Nat.{ℕ, zero, suc, ◌+◌, ◌*◌}
use mathlib.Core.Bool.{Bool, true, false, cond, ◌&&◌}
use mathlib.Core.List.{List}
use mathlib.Core.Option.{Option, none, some}
use mathlib.Core.Path.{◌≡◌, refl, sym, ap, subst, ◌∙◌}
use lib.Dec.{ltb, leb-zero}
use lib.ListN.{length}
use Rattle.words.specs.Layout.{cells_of}
use Rattle.words.proofs.Scan.{by_bool}
use Rattle.model.specs.State.{State}
use Rattle.model.specs.Answer.{Report, ended, View, view, or_else, steps_of}
use Rattle.model.specs.Calls.{Effect, refuse, change, or_refuse, create_checks, listed, viewed_with}
use Rattle.model.specs.Holdings.{named, held_rule, is_live, add_checks, delete_checks, advance_checks, commit_checks}
use Rattle.model.specs.Restore.{Looked, look_checks, looked_by, restore_checks, outermost, restored_cell}
use Rattle.model.specs.History.{create, add, delete, advance, commit, Reading, list, look, Request, changes, restore, reads}
use Rattle.model.specs.Session.{read_checks, effect_of}
use Rattle.model.proofs.Views.{viewed_plain}
use Rattle.store.specs.Outcome.{Buffers}
use Rattle.store.specs.State.{state_of}
use Rattle.store.specs.Means.{visible, call_means, list_means, room_of, or_refused, or_list_refused}
use Rattle.store.proofs.Means.{visible_of, by_check, store_standing}
use Rattle.store.proofs.Created.{create_means_lem, create_pending}
use Rattle.store.proofs.Checks.{store_idle}
use Rattle.store.proofs.Pending.{after_pending, left_pending}
use Rattle.add.proofs.Added.{add_means_lem, add_pending}
use Rattle.delete.proofs.Deleted.{delete_means_lem, delete_pending}
use Rattle.advance.proofs.Advanced.{advance_means_lem, advance_pending}
use Rattle.commit.proofs.Committed.{commit_means_lem, commit_pending}
use Rattle.restore.specs.Restore.{restore_means}
use Rattle.restore.proofs.Restored.{restore_means_lem}
use Rattle.restore.proofs.Cuts.{restore_pending}
use Rattle.look.specs.Look.{look_place, place_report, look_means, or_look_refused}
use Rattle.look.proofs.Placing.{look_means_lem}
use Rattle.demands.specs.Session.{call_on, read_report}
use Rattle.demands.specs.Demands.{asked, handle_of, call_view}
use Rattle.demands.proofs.Planned.{Planned, create_planned, add_planned, delete_planned, advance_planned, commit_planned, restore_planned, read_answer, read_planned}
use Rattle.demands.proofs.Questions.{Fine, fine_none, FineEffect, fine_refuse, create_fine, add_fine, delete_fine, advance_fine, commit_fine, restore_fine, look_fine}

pub record Facts (c : Request) (b : Buffers) : Type 0 where
  -- what is to be visible of it is what it means
  pub shows : (k : ℕ) → visible_of (call_on c k b) ≡ call_view c k b
  -- the pairs that it leaves pending
  pub pends : (k : ℕ) → asked b ≡ 0 → left_pending (call_on c k b) ≡ after_pending (effect_of (room_of b) b.memory c (state_of b)) k
  -- its stores
  pub planned : Planned (λ k. call_on c k b) b
  -- its questions: their numbers, and that a dead handle is refused
  pub fine : FineEffect (effect_of (room_of b) b.memory c (state_of b))
  pub dead : (h : ℕ) → handle_of c ≡ some h → is_live h (state_of b) ≡ false → effect_of (room_of b) b.memory c (state_of b) ≡ refuse 5

-- ---- changing calls

-- a call that changes no memory, by its meaning
plain : (f : State → Effect) (k : ℕ) (b : Buffers)
    → call_means f k b ≡ or_refused (asked b) b (viewed_with (f (state_of b)) k (state_of b) b.memory b.memory)
unfolding call_means
plain f k b = ap (λ (v : View). or_refused (asked b) b v) (sym (viewed_plain (f (state_of b)) k (state_of b) b.memory))

-- ---- calls that only read

-- done with no step, or refused
idle_view : (q k : ℕ) (s : State) (m : List ℕ) → view (read_answer q) (some s) m ≡ viewed_with (or_refuse q (change 0 0 0 s)) k s m m
unfolding ended
idle_view zero k s m = rw (leb-zero k) (by_bool (ltb 0 k) (λ t. rw t) (λ t. rw t))
idle_view (suc n) k s m = refl

idle_pending : (q k : ℕ) (s : State) → after_pending (or_refuse q (change 0 0 0 s)) k ≡ 0
idle_pending zero k s = zero-either (ltb (0 + 2 * 0) k && ltb k (steps_of 0 0))
  where
    zero-either : (c : Bool) → cond {A = ℕ} c 0 0 ≡ 0
    zero-either true = refl
    zero-either false = refl
idle_pending (suc n) k s = refl

-- by its report: questions 1 to 4 are put to the buffers, its own to the state
read_facts : (r : Reading) (b : Buffers) → read_report r b ≡ read_answer (or_else (asked b) (read_checks (cells_of (length b.memory)) r (state_of b)))
    → Fine (read_checks (cells_of (length b.memory)) r (state_of b))
    → ((h : ℕ) → handle_of (reads r) ≡ some h → is_live h (state_of b) ≡ false
    → or_refuse (read_checks (cells_of (length b.memory)) r (state_of b)) (change 0 0 0 (state_of b)) ≡ refuse 5)
    → Facts (reads r) b
read_facts r b e fine dead = record {
  shows = λ k. ap (λ (x : Report). visible x b) e ∙ shown k;
  pends = λ k good. store_idle (length b.memory) (length b.bodies) b.table good ∙ sym (idle_pending own k (state_of b));
  planned = read_planned (read_report r b) (or_else (asked b) own) b e;
  fine = fine_refuse own 0 0 0 (state_of b) fine;
  dead = dead;
}
  where
    own : ℕ
    own = read_checks (cells_of (length b.memory)) r (state_of b)

    shown : (k : ℕ) → visible (read_answer (or_else (asked b) own)) b ≡ or_refused (asked b) b (viewed_with (or_refuse own (change 0 0 0 (state_of b))) k (state_of b) b.memory b.memory)
    shown k =
        by_check (λ q. asked b ≡ q → visible (read_answer (or_else q own)) b ≡ or_refused q b (viewed_with (or_refuse own (change 0 0 0 (state_of b))) k (state_of b) b.memory b.memory))
        (asked b)
        (λ n e _. refl)
        (λ e _.
        ap (λ (o : Option State). view (read_answer own) o b.memory) (store_standing b.memory b.bodies b.table e)
        ∙ idle_view own k (state_of b) b.memory)
        refl

list_report : (b : Buffers) → (list_means b).report ≡ read_answer (or_else (asked b) 0)
unfolding list_means
list_report b = go (asked b)
  where
    go : (q : ℕ) → (or_list_refused q (listed (state_of b))).report ≡ read_answer (or_else q 0)
    go zero = refl
    go (suc n) = refl

look_report : (h c : ℕ) (b : Buffers) → place_report (look_place h c b) ≡ read_answer (or_else (asked b) (look_checks (cells_of (length b.memory)) h c (state_of b)))
unfolding look_means
look_report h c b = ap (λ (l : Looked). l.report) (look_means_lem h c b) ∙ go (asked b) (look_checks (cells_of (length b.memory)) h c (state_of b))
    (held_rule (outermost (named h (state_of b)) c (state_of b))) (restored_cell (named h (state_of b)) (state_of b) b.memory c)
  where
    go : (q own : ℕ) (r : Option ℕ) (p : List ℕ) → (or_look_refused q (looked_by own r p)).report ≡ read_answer (or_else q own)
    go zero zero r p = refl
    go zero (suc n) r p = refl
    go (suc n) own r p = refl

-- ---- a dead handle

abbrev None : Option ℕ → Type 0
None none = Unit {0}
None (some h) = ⊥

abbrev some_handle : ℕ → Option ℕ → ℕ
some_handle n none = n
some_handle n (some h) = h

not_live : (a h : ℕ) (s : State) → some a ≡ some h → is_live h s ≡ false → is_live a s ≡ false
not_live a h s e d = subst (λ (x : ℕ). is_live x s ≡ false) (sym (ap (some_handle 0) e)) d

-- ---- the list

pub facts : (c : Request) (b : Buffers) → Facts c b
unfolding restore_means
facts (changes create) b = record {
  shows = λ k. create_means_lem k b ∙ plain _ k b;
  pends = λ k good. create_pending k b good;
  planned = create_planned b;
  fine = fine_refuse (create_checks (state_of b)) _ _ _ _ (create_fine (room_of b) b.memory (state_of b));
  dead = λ h e d. absurd (subst None e tt);
}
facts (changes (add h rs)) b = record {
  shows = λ k. add_means_lem h rs k b ∙ plain _ k b;
  pends = λ k good. add_pending h rs k b good;
  planned = add_planned b h rs;
  fine = fine_refuse (add_checks (room_of b) b.memory h rs (state_of b)) _ _ _ _ (add_fine (room_of b) b.memory (state_of b) h rs);
  dead = λ a e d. rw (not_live h a (state_of b) e d);
}
facts (changes (delete h first n)) b = record {
  shows = λ k. delete_means_lem h first n k b ∙ plain _ k b;
  pends = λ k good. delete_pending h first n k b good;
  planned = delete_planned b h first n;
  fine = fine_refuse (delete_checks (cells_of (length b.memory)) h first n (state_of b)) _ _ _ _ (delete_fine (room_of b) b.memory (state_of b) _ h first n);
  dead = λ a e d. rw (not_live h a (state_of b) e d);
}
facts (changes (advance h)) b = record {
  shows = λ k. advance_means_lem h k b ∙ plain _ k b;
  pends = λ k good. advance_pending h k b good;
  planned = advance_planned b h;
  fine = fine_refuse (advance_checks (room_of b) b.memory h (state_of b)) _ _ _ _ (advance_fine (room_of b) b.memory (state_of b) h);
  dead = λ a e d. rw (not_live h a (state_of b) e d);
}
facts (changes (commit h)) b = record {
  shows = λ k. commit_means_lem h k b ∙ plain _ k b;
  pends = λ k good. commit_pending h k b good;
  planned = commit_planned b h;
  fine = fine_refuse (commit_checks h (state_of b)) _ _ _ _ (commit_fine (room_of b) b.memory (state_of b) h);
  dead = λ a e d. rw (not_live h a (state_of b) e d);
}
facts (restore h) b = record {
  shows = λ k. restore_means_lem h k b;
  pends = λ k good. restore_pending h k b good;
  planned = restore_planned b h;
  fine = fine_refuse (restore_checks h (state_of b)) _ _ _ _ (restore_fine (room_of b) b.memory (state_of b) h);
  dead = λ a e d. rw (not_live h a (state_of b) e d);
}
facts (reads list) b = read_facts list b (list_report b) fine_none (λ h e d. absurd (subst None e tt))
facts (reads (look h c)) b =
    read_facts (look h c) b (look_report h c b) (look_fine (room_of b) b.memory (state_of b) _ h c) (λ a e d. rw (not_live h a (state_of b) e d))
