-- Create, from its stores to what it means and to what opening finds after every cut of it. Assumes nothing.
use Prim.Native.Nat.{ℕ, suc, ◌<◌}
use mathlib.Core.Bool.{true}
use mathlib.Core.List.{List, []}
use mathlib.Core.Option.{Option}
use mathlib.Core.Path.{◌≡◌, refl, sym, ap, subst, ◌∙◌}
use native.Mathlib.Omega.{arith}
use borrow.Author.Tests.{ltb-true}
use lib.Dec.{ltb}
use lib.ListN.{length, take}
use Rattle.words.specs.Layout.{pairs_at, slots_of, cells_of, bodies_of, max_live}
use Rattle.words.specs.Stores.{stores}
use Rattle.words.specs.Journal.{pending, names_ok, journal}
use Rattle.table.specs.Entry.{live, next_handle}
use Rattle.table.proofs.Rule.{Rule}
use Rattle.model.specs.State.{State}
use Rattle.model.specs.Answer.{Report, refused, ended, ask, or_else, view}
use Rattle.model.specs.Calls.{viewed, change, or_refuse, created, create_effect}
use Rattle.store.specs.Outcome.{Buffers, buffers, change_plan, outcome, leaves, perform, unless}
use Rattle.store.specs.Checks.{store_check, create_check, lent, lent_of}
use Rattle.store.specs.State.{state_in, state_of}
use Rattle.store.specs.Calls.{create_words, create_call}
use Rattle.store.specs.Means.{or_refused, call_means, create_means}
use Rattle.store.proofs.Checks.{ask_yes, or_else_go}
use Rattle.store.proofs.Outcome.{refuses}
use Rattle.store.proofs.Means.{visible_of, by_check, store_standing, live_count, next_is}
use Rattle.store.proofs.Raw.{raw_rule, raw_state, raw_next, raw_after, raw_long}
use Rattle.store.proofs.Creating.{create_rule, create_state, create_names}
use Rattle.store.proofs.Changes.{words_performed, change_seen}
use Rattle.store.proofs.Pending.{pending_after, after_pending, performed_pending, call_pending}

pub create_words_lem : (t : List ℕ) → length (create_words t) ≡ 3
unfolding create_words
create_words_lem t = refl

module _ (memory bodies t : List ℕ) (yes : store_check (lent (length memory) (length bodies) t) ≡ 0) (few : live t < max_live) where
  abbrev first : ℕ
  first = pairs_at (slots_of (length t))

  new_names : names_ok (pairs_at (slots_of (length t))) 0 (create_words t) ≡ true
  unfolding create_words
  new_names = create_names first (live t) (next_handle t) few (omega arith)

  whole_rule : Rule (cells_of (length memory)) (slots_of (length t)) (bodies_of (length bodies)) (stores (create_words t) t)
  unfolding create_words
  whole_rule = create_rule (cells_of (length memory)) (slots_of (length t)) (bodies_of (length bodies)) t (raw_rule memory bodies t yes) (raw_long memory bodies t yes) few

  -- the new table is right
  pub new_rule : Rule (cells_of (length memory)) (slots_of (length t)) (bodies_of (length bodies)) (stores (create_words t) (take (pairs_at (slots_of (length t))) t))
  new_rule = raw_next memory bodies t yes (create_words t) new_names whole_rule

  -- and stands for the state with one domain more
  pub new_state : state_in (slots_of (length t)) (stores (create_words t) (take (pairs_at (slots_of (length t))) t)) bodies ≡ created (state_of (buffers memory bodies t))
  unfolding create_words
  new_state =
      raw_after memory bodies t yes (create_words t) new_names whole_rule bodies
      ∙ create_state (cells_of (length memory)) (slots_of (length t)) (bodies_of (length bodies)) t (raw_rule memory bodies t yes) (raw_long memory bodies t yes) few bodies
      ∙ ap created (sym (raw_state memory bodies t yes))

  create_seen : (k : ℕ) → visible_of (outcome (perform (change_plan first [] (create_words t)) (next_handle t)) k (buffers memory bodies t))
      ≡ viewed (change 0 3 (next_handle t) (created (state_of (buffers memory bodies t)))) k (state_of (buffers memory bodies t)) memory
  unfolding create_words
  create_seen k = change_seen memory bodies t yes [] (create_words t) tt (omega arith) new_names new_rule (next_handle t) (created (state_of (buffers memory bodies t))) new_state k

  left : (k : ℕ) → pending (outcome (perform (change_plan first [] (create_words t)) (next_handle t)) k (buffers memory bodies t)).buffers.table ≡ pending_after 0 3 k
  unfolding create_words
  left k = performed_pending memory bodies t yes [] (create_words t) (omega arith) new_names (next_handle t) k

-- questions 9 and 10, of words and of a state
abbrev asked : ℕ → ℕ → ℕ
asked n h = ask (ltb n max_live) 9 (ask (ltb h 4_294_967_295) 10 0)

abbrev goal : (words-say state-says k : ℕ) → Buffers → Type 0
goal q r k b =
    visible_of (outcome (unless q (perform (change_plan (pairs_at (slots_of (length b.table))) [] (create_words b.table)) (next_handle b.table))) k b)
    ≡ viewed (or_refuse r (change 0 3 (state_of b).next (created (state_of b)))) k (state_of b) b.memory

pub create_means_lem : (k : ℕ) (b : Buffers) → visible_of (outcome (create_call b) k b) ≡ create_means k b
unfolding create_call call_means create_check outcome
create_means_lem k b =
    by_check (λ q. visible_of (outcome (unless (or_else q (asked (live b.table) (next_handle b.table)))
    (perform (change_plan (pairs_at (slots_of (length b.table))) [] (create_words b.table)) (next_handle b.table))) k b)
    ≡ or_refused q b (viewed (create_effect (state_of b)) k (state_of b) b.memory))
    (store_check (lent_of b))
    (λ n e. refl)
    (λ yes.
    let count = live_count b.memory b.bodies b.table yes in
    let next = next_is b.memory b.bodies b.table yes in
    let stands = store_standing b.memory b.bodies b.table yes in
    let same : asked (live b.table) (next_handle b.table) ≡ asked (length (state_of b).domains) (state_of b).next = λ i. asked (sym count i) (sym next i) in
    subst (λ (r : ℕ). goal (asked (live b.table) (next_handle b.table)) r k b) same
    (by_check (λ q. goal q q k b) (asked (live b.table) (next_handle b.table))
    (λ n e. ap (λ (s : Option State). view (refused (suc n)) s b.memory) stands)
    (λ e.
    let few = ask_yes (ltb (live b.table) max_live) 9 (ask (ltb (next_handle b.table) 4_294_967_295) 10 0) (omega arith) e in
    create_seen b.memory b.bodies b.table yes (ltb-true _ _ few) k
    ∙ ap (λ (h : ℕ). viewed (change 0 3 h (created (state_of b))) k (state_of b) b.memory) (sym next))))

-- ---- the pairs that it leaves pending, at every budget

pub create_pending : (k : ℕ) (b : Buffers) → store_check (lent_of b) ≡ 0
    → pending (outcome (create_call b) k b).buffers.table ≡ after_pending (create_effect (state_of b)) k
unfolding create_call create_check
create_pending k b good =
    let count = live_count b.memory b.bodies b.table good in
    let next = next_is b.memory b.bodies b.table good in
    let same : asked (live b.table) (next_handle b.table) ≡ asked (length (state_of b).domains) (state_of b).next = λ i. asked (sym count i) (sym next i) in
    call_pending k b good _ _ _ _ (or_else_go _ _ good ∙ same)
    (λ q.
    let few = ask_yes (ltb (live b.table) max_live) 9 (ask (ltb (next_handle b.table) 4_294_967_295) 10 0) (omega arith) (sym (or_else_go _ _ good) ∙ q) in
    left b.memory b.bodies b.table good (ltb-true _ _ few) k)

-- ---- what the code cites

module _ (m b t : List ℕ) (k : ℕ) where
  pub create_refused : (q : ℕ) → q ≡ create_check (lent (length m) (length b) t) → (q ≡ 0 → ⊥) → leaves (refused q) (buffers m b t) ≡ outcome (create_call (buffers m b t)) k (buffers m b t)
  unfolding create_call
  create_refused q e h = refuses q (create_check (lent (length m) (length b) t)) _ k (buffers m b t) e h

  pub create_performed : (need h : ℕ) (t' : List ℕ) (r : Report) → create_check (lent (length m) (length b) t) ≡ 0 → h ≡ next_handle t
      → need ≡ length (journal (pairs_at (slots_of (length t))) (create_words t)) → t' ≡ stores (take k (journal (pairs_at (slots_of (length t))) (create_words t))) t → r ≡ ended need h k
      → leaves r (buffers m b t') ≡ outcome (create_call (buffers m b t)) k (buffers m b t)
  unfolding create_call
  create_performed need h t' r yes10 p n w q = rw yes10 (words_performed (next_handle t) k (create_words t) m b t refl refl n w (q ∙ rw p))
