-- Commit, from its stores to what it means and to what opening finds after every cut of it. Assumes nothing.
use Prim.Native.Nat.{ℕ, suc, ◌+◌, ◌-◌, ◌*◌, ◌≤◌}
use mathlib.Core.Bool.{true}
use mathlib.Core.List.{List, []}
use mathlib.Core.Option.{Option}
use mathlib.Core.Path.{◌≡◌, refl, sym, ap, subst, ◌∙◌}
use native.Mathlib.Omega.{arith}
use Rattle.std.specs.Prelude.{Result, IsErrAnd}
use borrow.Author.Tests.{ltb-true, lt-ltb}
use lib.Dec.{ltb, eqb}
use lib.ListN.{length, take, length-append}
use Rattle.words.specs.Layout.{live_at, handle_at, pairs_at, table_words, max_pairs, slots_of, cells_of, bodies_of, max_live, max_cells, max_slots}
use Rattle.words.specs.Scan.{count}
use Rattle.words.specs.Stores.{stores}
use Rattle.words.specs.Journal.{pending, names_ok, name_ok, journal}
use Rattle.words.proofs.Scan.{count_le}
use Rattle.words.proofs.Names.{name_live, name_from}
use Rattle.table.specs.Entry.{live}
use Rattle.table.specs.Changes.{is_changed, entry_changes}
use Rattle.marks.specs.Blocks.{cells_in, Kept}
use Rattle.table.specs.Marks.{EndsAt, Reached}
use Rattle.marks.proofs.Blocks.{kept_cells, cells_same}
use Rattle.table.proofs.Rule.{Rule}
use Rattle.table.proofs.Entries.{changes_count, changes_names}
use Rattle.search.specs.Domain.{depth_named}
use Rattle.search.proofs.Domain.{depth_small}
use Rattle.model.specs.State.{State}
use Rattle.model.specs.Answer.{Report, refused, ended, ask, or_else, view, steps_of}
use Rattle.model.specs.Calls.{viewed, change, or_refuse}
use Rattle.model.specs.Holdings.{inner_cells, raised_cells, commit, commit_checks, commit_effect}
use Rattle.store.specs.declared.answers.Ended.{Ended}
use Rattle.store.specs.declared.answers.Refusal.{Refusal}
use Rattle.store.specs.Answer.{question, report}
use Rattle.store.specs.Outcome.{Buffers, buffers, change_plan, outcome, leaves, perform, unless}
use Rattle.store.specs.Checks.{store_check, lent, lent_of}
use Rattle.store.specs.State.{state_in, state_of}
use Rattle.store.specs.Means.{visible, or_refused, call_means}
use Rattle.store.proofs.Checks.{ask_yes, or_else_both, or_else_go, store_lengths}
use Rattle.store.proofs.Outcome.{refuses}
use Rattle.store.proofs.Refused.{question_no, answer_refused}
use Rattle.store.proofs.Means.{visible_of, by_check, store_standing, live_count}
use Rattle.store.proofs.Bounds.{change_bound}
use Rattle.store.proofs.Raw.{live_within, raw_rule, raw_state, raw_named, raw_next, raw_after, raw_long}
use Rattle.store.proofs.Changes.{words_performed, change_seen}
use Rattle.store.proofs.Pending.{pending_after, after_pending, performed_pending, call_pending}
use Rattle.commit.specs.Commit.{commit_check, commit_change, commit_words, commit_call, commit_means}
use Rattle.commit.specs.Parts.{head_words, ending_words}
use Rattle.commit.proofs.Merging.{commit_rule, commit_state_is}
use Rattle.commit.proofs.Counting.{changes_are}

-- ---- the words

-- two of the head, and two for each entry that changes
pub words_count : (t : List ℕ) → length (commit_words t) ≡ 2 + 2 * count (slots_of (length t)) (λ i. is_changed (commit_change (slots_of (length t)) t (live t) i))
unfolding commit_words
words_count t =
    length-append (head_words (live t)) (entry_changes (slots_of (length t)) (commit_change (slots_of (length t)) t (live t)))
    ∙ rw (changes_count (slots_of (length t)) (commit_change (slots_of (length t)) t (live t)))

pub words_few : (t : List ℕ) → length (commit_words t) ≤ 2 + 2 * slots_of (length t)
words_few t =
    let l = count_le (slots_of (length t)) (λ i. is_changed (commit_change (slots_of (length t)) t (live t) i)) in
    omega (arith, words_count t)

-- pairs may name them
pub words_names : (t : List ℕ) → 1 ≤ live t → live t ≤ max_live → names_ok (pairs_at (slots_of (length t))) 0 (commit_words t) ≡ true
unfolding commit_words names_ok
words_names t low high =
    let first : ℕ = pairs_at (slots_of (length t)) in
    let second : name_ok (pairs_at (slots_of (length t))) (handle_at (live t - 1)) ≡ true = name_from (pairs_at (slots_of (length t))) (handle_at (live t - 1)) (omega arith) (omega arith) in
    changes_names (slots_of (length t)) (commit_change (slots_of (length t)) t (live t)) (head_words (live t))
    (rw (name_live (pairs_at (slots_of (length t))), second, lt-ltb live_at (handle_at (live t - 1)) (omega arith)))
    (omega arith, (omega arith, tt))

-- ---- a table that passes questions 1 to 4, with a live domain

module _ (memory bodies t : List ℕ) (yes : store_check (lent (length memory) (length bodies) t) ≡ 0) where
  abbrev e : ℕ
  e = slots_of (length t)

  -- questions 5 and 6 are the model's
  pub same_checks : (h : ℕ) → ask (ltb 0 (depth_named t h)) 5 (ask (eqb (depth_named t h) (live t)) 6 0) ≡ commit_checks h (state_of (buffers memory bodies t))
  same_checks h = rw (raw_named memory bodies t yes h, live_count memory bodies t yes)

  module _ (some-live : 1 ≤ live t) where
    names : names_ok (pairs_at (slots_of (length t))) 0 (commit_words t) ≡ true
    names = words_names t some-live (live_within (length memory) (length bodies) t yes)

    whole_rule : Rule (cells_of (length memory)) (slots_of (length t)) (bodies_of (length bodies)) (stores (commit_words t) t)
    unfolding commit_words
    whole_rule = commit_rule (cells_of (length memory)) e (bodies_of (length bodies)) t (raw_rule memory bodies t yes) (raw_long memory bodies t yes) some-live

    -- the new table is right
    pub new_rule : Rule (cells_of (length memory)) (slots_of (length t)) (bodies_of (length bodies)) (stores (commit_words t) (take (pairs_at (slots_of (length t))) t))
    new_rule = raw_next memory bodies t yes (commit_words t) names whole_rule

    -- and stands for the state without the innermost domain
    pub new_state : state_in (slots_of (length t)) (stores (commit_words t) (take (pairs_at (slots_of (length t))) t)) bodies ≡ commit (state_of (buffers memory bodies t))
    unfolding commit_words
    new_state =
        raw_after memory bodies t yes (commit_words t) names whole_rule bodies
        ∙ commit_state_is (cells_of (length memory)) e (bodies_of (length bodies)) t (raw_rule memory bodies t yes) (raw_long memory bodies t yes) some-live bodies
        ∙ ap commit (sym (raw_state memory bodies t yes))

    -- as many words as the model says
    pub new_count : length (commit_words t)
        ≡ 2 + 2 * (inner_cells (cells_of (length memory)) (state_of (buffers memory bodies t)) + raised_cells (cells_of (length memory)) (state_of (buffers memory bodies t)))
    new_count =
        words_count t ∙ rw (changes_are (cells_of (length memory)) e (bodies_of (length bodies)) t (raw_rule memory bodies t yes) some-live bodies, raw_state memory bodies t yes)

    -- at most 70E + 32 steps
    pub commit_bound :
        steps_of 0 (2 + 2 * (inner_cells (cells_of (length memory)) (state_of (buffers memory bodies t)) + raised_cells (cells_of (length memory)) (state_of (buffers memory bodies t))))
        ≤ 70 * slots_of (length t) + 32
    commit_bound = rw (← new_count) (change_bound 0 (length (commit_words t)) e (omega arith) (omega (arith, words_few t)))

    room : length (commit_words t) ≤ max_pairs (slots_of (length t))
    room = omega (arith, words_few t)

    commit_seen : (k : ℕ) → visible_of (outcome (perform (change_plan (pairs_at (slots_of (length t))) [] (commit_words t)) 0) k (buffers memory bodies t))
        ≡ viewed (change 0 (2 + 2 * (inner_cells (cells_of (length memory)) (state_of (buffers memory bodies t)) + raised_cells (cells_of (length memory)) (state_of (buffers memory bodies t)))) 0
        (commit (state_of (buffers memory bodies t)))) k (state_of (buffers memory bodies t)) memory
    commit_seen k =
        change_seen memory bodies t yes [] (commit_words t) tt room names new_rule 0 (commit (state_of (buffers memory bodies t))) new_state k
        ∙ ap (λ (p : ℕ). viewed (change 0 p 0 (commit (state_of (buffers memory bodies t)))) k (state_of (buffers memory bodies t)) memory) new_count

    left : (k : ℕ) → pending (outcome (perform (change_plan (pairs_at (slots_of (length t))) [] (commit_words t)) 0) k (buffers memory bodies t)).buffers.table
        ≡ pending_after 0 (2 + 2 * (inner_cells (cells_of (length memory)) (state_of (buffers memory bodies t)) + raised_cells (cells_of (length memory)) (state_of (buffers memory bodies t)))) k
    left k = performed_pending memory bodies t yes [] (commit_words t) room names 0 k ∙ ap (λ (p : ℕ). pending_after 0 p k) new_count

-- ---- the call

-- questions 5 and 6, of words
abbrev asked : List ℕ → ℕ → ℕ
asked t h = ask (ltb 0 (depth_named t h)) 5 (ask (eqb (depth_named t h) (live t)) 6 0)

-- answered by yes, there is a live domain
asked_live : (t : List ℕ) (h : ℕ) → asked t h ≡ 0 → 1 ≤ live t
asked_live t h q =
    let s = ltb-true 0 (depth_named t h) (ask_yes (ltb 0 (depth_named t h)) 5 (ask (eqb (depth_named t h) (live t)) 6 0) (omega arith) q) in
    omega (arith, depth_small t h)

abbrev goal : (words-say state-says k : ℕ) → Buffers → Type 0
goal q r k b =
    visible_of (outcome (unless q (perform (change_plan (pairs_at (slots_of (length b.table))) [] (commit_words b.table)) 0)) k b)
    ≡ viewed (or_refuse r (change 0 (2 + 2 * (inner_cells (cells_of (length b.memory)) (state_of b) + raised_cells (cells_of (length b.memory)) (state_of b))) 0 (commit (state_of b)))) k (state_of b) b.memory

pub commit_means_lem : (h k : ℕ) (b : Buffers) → visible_of (outcome (commit_call h b) k b) ≡ commit_means h k b
unfolding commit_call call_means commit_check outcome
commit_means_lem h k b =
    by_check (λ q. visible_of (outcome (unless (or_else q (asked b.table h)) (perform (change_plan (pairs_at (slots_of (length b.table))) [] (commit_words b.table)) 0)) k b)
    ≡ or_refused q b (viewed (commit_effect (cells_of (length b.memory)) h (state_of b)) k (state_of b) b.memory))
    (store_check (lent_of b))
    (λ n e. refl)
    (λ yes.
    let stands = store_standing b.memory b.bodies b.table yes in
    subst (λ (r : ℕ). goal (asked b.table h) r k b) (same_checks b.memory b.bodies b.table yes h)
    (by_check (λ q. goal q q k b) (asked b.table h)
    (λ n e. ap (λ (s : Option State). view (refused (suc n)) s b.memory) stands)
    (λ e. commit_seen b.memory b.bodies b.table yes (asked_live b.table h e) k)))

-- what a call makes shows what it means
pub commit_shows : (h k : ℕ) (b after : Buffers) (r : Report) → leaves r after ≡ outcome (commit_call h b) k b → visible r after ≡ commit_means h k b
commit_shows h k b after r e = ap visible_of e ∙ commit_means_lem h k b

-- ---- the pairs that it leaves pending, at every budget

pub commit_pending : (h k : ℕ) (b : Buffers) → store_check (lent_of b) ≡ 0
    → pending (outcome (commit_call h b) k b).buffers.table ≡ after_pending (commit_effect (cells_of (length b.memory)) h (state_of b)) k
unfolding commit_call commit_check
commit_pending h k b good =
    call_pending k b good _ _ _ _ (or_else_go _ _ good ∙ same_checks b.memory b.bodies b.table good h)
    (λ q. left b.memory b.bodies b.table good (asked_live b.table h (sym (or_else_go _ _ good) ∙ q)) k)

-- ---- what the code cites

-- every cell has a mark that can be read, also once some are changed
pub marks_ready : (seen after : List ℕ) → Kept seen → length after ≡ length seen → max_cells ≤ cells_in after
marks_ready seen after kept same = omega (arith, kept_cells seen kept, cells_same after seen same)

-- what passed questions tell
pub record Ready (t : List ℕ) : Type 0 where
  pub small : slots_of (length t) ≤ max_slots
  pub long : length t ≡ table_words (slots_of (length t))
  pub low : 1 ≤ live t
  pub high : live t ≤ max_live
  pub ends : (top : ℕ) → Reached t top → EndsAt (slots_of (length t)) t top

module _ (memory bodies : ℕ) (t : List ℕ) (h : ℕ) (passed : commit_check (lent memory bodies t) h ≡ 0) where
  pub commit_store : store_check (lent memory bodies t) ≡ 0
  unfolding commit_check
  commit_store = (or_else_both (store_check (lent memory bodies t)) (asked t h) passed).0

  pub commit_live : 1 ≤ live t
  unfolding commit_check
  commit_live = asked_live t h (or_else_both (store_check (lent memory bodies t)) (asked t h) passed).1

  pub commit_ready : Ready t
  commit_ready =
      let f = store_lengths memory bodies t commit_store in
      record {
        small = f.slots_high;
        long = f.table_exact;
        low = commit_live;
        high = live_within memory bodies t commit_store;
        ends = λ top reach. (reach f.slots_low f.slots_high).0;
      }

module _ (m b t : List ℕ) (h k : ℕ) where
  -- a refusal that a `?` hands on
  pub commit_refused : (r : Result Ended Refusal) (why : Refusal) → IsErrAnd r (λ w. w ≡ why) → question why ≡ commit_check (lent (length m) (length b) t) h
      → leaves (report r) (buffers m b t) ≡ outcome (commit_call h (buffers m b t)) k (buffers m b t)
  unfolding commit_call
  commit_refused r why back q = answer_refused r why back (refuses (question why) (commit_check (lent (length m) (length b) t) h) _ k (buffers m b t) q (question_no why))

  pub commit_performed : {e need : ℕ} {t' : List ℕ} {r : Report} → commit_check (lent (length m) (length b) t) h ≡ 0 → e ≡ slots_of (length t)
      → need ≡ length (journal (pairs_at e) (ending_words e t (live t))) → t' ≡ stores (take k (journal (pairs_at e) (ending_words e t (live t)))) t
      → r ≡ ended need 0 k
      → leaves r (buffers m b t') ≡ outcome (commit_call h (buffers m b t)) k (buffers m b t)
  unfolding commit_call commit_words
  commit_performed passed slots need made told =
      let same = ap (λ (x : ℕ). ending_words x t (live t)) slots in
      rw passed (words_performed 0 k (commit_words t) m b t slots same need made told)
