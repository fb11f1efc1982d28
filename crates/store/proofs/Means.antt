-- The outcome of each call, as the plan of its stores gives it, is what the call means. Assumes nothing.
use Prim.Native.Nat.{ℕ, zero, suc, ◌+◌, ◌<◌}
use mathlib.Core.Bool.{true, false}
use mathlib.Core.List.{List, [], map}
use mathlib.Core.Option.{some}
use mathlib.Core.Path.{◌≡◌, refl, sym, ap, subst, ◌∙◌}
use native.Mathlib.Omega.{arith}
use borrow.Author.Tests.{eq-eqb, ne_eqb, le-leb, lt-leb}
use lib.ListN.{length, take}
use lib.Seq.{get_or-take, take-nil}
use Rattle.words.specs.Layout.{live_at, next_at, pairs_at, slots_of, cells_of, bodies_of, table_words}
use Rattle.words.specs.Stores.{Store, stores}
use Rattle.words.specs.Journal.{pending, effective, open_plan, apply_plan}
use Rattle.words.proofs.Scan.{by_bool, by_le}
use Rattle.words.proofs.Pairs.{open_idle, open_pending, length_apply_plan}
use Rattle.words.proofs.Journal.{effective_idle}
use Rattle.table.specs.Entry.{live, next_handle}
use Rattle.table.specs.Checks.{lengths_ok}
use Rattle.table.proofs.Rule.{Rule}
use Rattle.table.proofs.Checks.{lengths_facts}
use Rattle.model.specs.State.{State}
use Rattle.model.specs.Answer.{Report, refused, done, ended, view}
use Rattle.model.specs.Calls.{make_steps, make_state, open_steps}
use Rattle.store.specs.Outcome.{Buffers, buffers, in_table, outcome, leaves, perform, unless}
use Rattle.store.specs.Checks.{make_check, open_check, store_check, lent, lent_of}
use Rattle.store.specs.State.{state_in, state_of, standing}
use Rattle.store.specs.Calls.{make_plan, make_call, open_call}
pub use Rattle.store.specs.Means.{visible_of}
use Rattle.store.specs.Means.{or_refused, make_means, open_means}
use Rattle.store.proofs.Checks.{shape_lengths, open_shape, store_shape, store_idle, store_table, store_opens, table_rule}
use Rattle.store.proofs.Domains.{domains_count}
use Rattle.store.proofs.Outcome.{table_after, performed, refuses, ended_done}
use Rattle.store.proofs.Cuts.{stands_open, opening, opening_length, opening_effective, opening_opens}
use Rattle.store.proofs.Making.{make_length, make_none, make_fresh}

-- by whether the questions say no
pub by_check : (C : ℕ → Type 0) (q : ℕ) → ((n : ℕ) → q ≡ suc n → C (suc n)) → (q ≡ 0 → C 0) → C q
by_check C zero f g = g refl
by_check C (suc n) f g = f n refl

pub long : (memory bodies : ℕ) (t : List ℕ) → lengths_ok memory bodies (length t) ≡ true → length t ≡ table_words (slots_of (length t))
long memory bodies t h = (lengths_facts memory bodies (length t) h).table_exact

-- ---- make

module _ (memory bodies t : List ℕ) (k : ℕ) (yes : lengths_ok (length memory) (length bodies) (length t) ≡ true) where
  abbrev plan : List Store
  plan = make_plan (cells_of (length memory)) (slots_of (length t)) (bodies_of (length bodies))

  make_standing : standing (buffers memory bodies (stores (take k plan) t)) ≡ make_state (slots_of (length t)) k (standing (buffers memory bodies t))
  unfolding standing
  make_standing =
      let w = long (length memory) (length bodies) t yes in
      by_le (pairs_at (slots_of (length t)) + 1) k
      (λ l. make_fresh memory bodies t yes w k l ∙ rw (le-leb (pairs_at (slots_of (length t)) + 1) k l))
      (λ l.
      by_le k 0
      (λ z.
      let q : k ≡ 0 = omega arith in
      rw (lt-leb (pairs_at (slots_of (length t)) + 1) k l, q))
      (λ z. rw (lt-leb (pairs_at (slots_of (length t)) + 1) k l, ne_eqb k 0 (λ q. omega arith), make_none memory bodies t yes w k z l)))

  make_seen : visible_of (outcome (perform (map in_table plan) 0) k (buffers memory bodies t))
      ≡ view (ended (make_steps (slots_of (length t))) 0 k) (make_state (slots_of (length t)) k (standing (buffers memory bodies t))) memory
  make_seen =
      ap visible_of (table_after plan 0 k memory bodies t)
      ∙ rw (make_length (cells_of (length memory)) (slots_of (length t)) (bodies_of (length bodies)) t (long (length memory) (length bodies) t yes), make_standing)

pub make_means_lem : (k : ℕ) (b : Buffers) → visible_of (outcome (make_call b) k b) ≡ make_means k b
unfolding make_call make_means make_check outcome
make_means_lem k b =
    by_bool (lengths_ok (length b.memory) (length b.bodies) (length b.table))
    (λ y. rw y (make_seen b.memory b.bodies b.table k y))
    (λ n. rw n)

-- ---- open

pub open_length : (first : ℕ) (t : List ℕ) → length (open_plan first t) ≡ open_steps (pending t)
open_length first t =
    by_le (pending t) 0
    (λ l. let z : pending t ≡ 0 = omega arith in rw (open_idle first t z, eq-eqb (pending t) 0 z))
    (λ l. rw (open_pending first (pending t) t refl l, ne_eqb (pending t) 0 (λ z. omega arith), length_apply_plan t first (pending t)))

open_standing : (memory bodies t : List ℕ) (k : ℕ) → open_check (lent (length memory) (length bodies) t) ≡ 0
    → standing (buffers memory bodies (stores (take k (open_plan (pairs_at (slots_of (length t))) t)) t)) ≡ some (state_of (buffers memory bodies t))
unfolding state_of
open_standing memory bodies t k h =
    let w = long (length memory) (length bodies) t (shape_lengths (length memory) (length bodies) t (open_shape (length memory) (length bodies) t h)) in
    stands_open memory bodies (opening (length memory) (length bodies) t w h k) (opening_opens (length memory) (length bodies) t w h k)
    ∙ rw (opening_length (length memory) (length bodies) t w h k, opening_effective (length memory) (length bodies) t w h k)

pub open_means_lem : (k : ℕ) (b : Buffers) → visible_of (outcome (open_call b) k b) ≡ open_means k b
unfolding open_call open_means outcome
open_means_lem k b =
    by_check (λ q. visible_of (outcome (unless q (perform (map in_table (open_plan (pairs_at (slots_of (length b.table))) b.table)) 0)) k b)
    ≡ or_refused q b (view (ended (open_steps (pending b.table)) 0 k) (some (state_of b)) b.memory))
    (open_check (lent_of b))
    (λ n e. refl)
    (λ e.
    ap visible_of (table_after (open_plan (pairs_at (slots_of (length b.table))) b.table) 0 k b.memory b.bodies b.table)
    ∙ rw (open_length (pairs_at (slots_of (length b.table))) b.table, open_standing b.memory b.bodies b.table k e))

-- ---- a table that passes questions 1 to 4

state_next : (e : ℕ) (t bodies : List ℕ) → (state_in e t bodies).next ≡ next_handle t
unfolding state_in
state_next e t bodies = refl

module _ (memory bodies t : List ℕ) (yes : store_check (lent (length memory) (length bodies) t) ≡ 0) where
  shape_yes : lengths_ok (length memory) (length bodies) (length t) ≡ true
  shape_yes = shape_lengths (length memory) (length bodies) t (store_shape (length memory) (length bodies) t yes)

  pub t_long : length t ≡ table_words (slots_of (length t))
  t_long = long (length memory) (length bodies) t shape_yes

  abbrev first : ℕ
  first = pairs_at (slots_of (length t))

  pub store_effective : effective (pairs_at (slots_of (length t))) t ≡ take (pairs_at (slots_of (length t))) t
  store_effective = effective_idle first t (store_idle (length memory) (length bodies) t yes)

  pub store_rule : Rule (cells_of (length memory)) (slots_of (length t)) (bodies_of (length bodies)) (take (pairs_at (slots_of (length t))) t)
  store_rule = subst (λ (l : List ℕ). Rule (cells_of (length memory)) (slots_of (length t)) (bodies_of (length bodies)) l) store_effective
      (table_rule (length memory) (length bodies) t (store_table (length memory) (length bodies) t yes))

  -- the state of a table with nothing pending is that of its own words
  pub store_state : state_of (buffers memory bodies t) ≡ state_in (slots_of (length t)) (take (pairs_at (slots_of (length t))) t) bodies
  unfolding state_of
  store_state = ap (λ (l : List ℕ). state_in (slots_of (length t)) l bodies) store_effective

  pub store_standing : standing (buffers memory bodies t) ≡ some (state_of (buffers memory bodies t))
  unfolding state_of
  store_standing = stands_open memory bodies t (store_opens (length memory) (length bodies) t yes)

  pub live_count : length (state_of (buffers memory bodies t)).domains ≡ live t
  live_count =
      ap (λ (s : State). length s.domains) store_state
      ∙ domains_count (slots_of (length t)) (take first t) bodies
      ∙ get_or-take first t live_at 0 (omega arith)

  pub next_is : (state_of (buffers memory bodies t)).next ≡ next_handle t
  next_is = ap (λ (s : State). s.next) store_state ∙ state_next (slots_of (length t)) (take first t) bodies ∙ get_or-take first t next_at 0 (omega arith)

-- ---- what the code of each call cites: from what its parts did to its outcome

module _ (m b t : List ℕ) (k : ℕ) where
  pub make_refused : lengths_ok (length m) (length b) (length t) ≡ false → leaves (refused 1) (buffers m b t) ≡ outcome (make_call (buffers m b t)) k (buffers m b t)
  unfolding make_call make_check outcome
  make_refused no1 = rw no1

  pub make_performed : (cells slots bodies : ℕ) (t' : List ℕ) (r : Report) → lengths_ok (length m) (length b) (length t) ≡ true
      → cells ≡ cells_of (length m) → slots ≡ slots_of (length t) → bodies ≡ bodies_of (length b)
      → t' ≡ stores (take k (make_plan cells slots bodies)) t → r ≡ ended (pairs_at slots + 1) 0 k
      → leaves r (buffers m b t') ≡ outcome (make_call (buffers m b t)) k (buffers m b t)
  unfolding make_call make_check
  make_performed cells slots bodies t' r yes1 p q s w e =
      let w' : t' ≡ stores (take k (make_plan (cells_of (length m)) (slots_of (length t)) (bodies_of (length b)))) t = w ∙ rw (p, q, s) in
      let e' : r ≡ ended (pairs_at (slots_of (length t)) + 1) 0 k = e ∙ rw q in
      rw yes1
      (performed (make_plan (cells_of (length m)) (slots_of (length t)) (bodies_of (length b))) 0 (pairs_at (slots_of (length t)) + 1) k m b t t' r
      (make_length (cells_of (length m)) (slots_of (length t)) (bodies_of (length b)) t (long (length m) (length b) t yes1)) w' e')

  pub open_refused : (q : ℕ) → q ≡ open_check (lent (length m) (length b) t) → (q ≡ 0 → ⊥) → leaves (refused q) (buffers m b t) ≡ outcome (open_call (buffers m b t)) k (buffers m b t)
  unfolding open_call
  open_refused q e h = refuses q (open_check (lent (length m) (length b) t)) _ k (buffers m b t) e h

  pub open_none : open_check (lent (length m) (length b) t) ≡ 0 → pending t ≡ 0 → leaves (done 0 0) (buffers m b t) ≡ outcome (open_call (buffers m b t)) k (buffers m b t)
  unfolding open_call
  open_none yes4 idle =
      rw (yes4, open_idle (pairs_at (slots_of (length t))) t idle)
      (performed [] 0 0 k m b t t (done 0 0) refl (rw (take-nil {A = Store} k)) (sym (ended_done 0 0 k (omega arith))))

  pub open_performed : (p first : ℕ) (t' : List ℕ) (r : Report) → open_check (lent (length m) (length b) t) ≡ 0 → p ≡ pending t → (p ≡ 0 → ⊥)
      → first ≡ pairs_at (slots_of (length t)) → t' ≡ stores (take k (apply_plan t first p)) t → r ≡ ended (p + 1) 0 k
      → leaves r (buffers m b t') ≡ outcome (open_call (buffers m b t)) k (buffers m b t)
  unfolding open_call
  open_performed p first t' r yes4 e n f w q =
      let pos : 0 < p = omega arith in
      let same : open_plan (pairs_at (slots_of (length t))) t ≡ apply_plan t first p = open_pending (pairs_at (slots_of (length t))) p t (sym e) pos ∙ rw f in
      rw (yes4, same) (performed (apply_plan t first p) 0 (p + 1) k m b t t' r (length_apply_plan t first p) w q)
