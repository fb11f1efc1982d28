-- Restore, from its stores to what it means at every budget. Assumes nothing.
use Prim.Native.Nat.{ℕ, suc, ◌+◌, ◌-◌, ◌*◌, ◌≤◌}
use mathlib.Core.Bool.{true, cond}
use mathlib.Core.List.{List, []}
use mathlib.Core.Option.{Option, some}
use mathlib.Core.Path.{◌≡◌, refl, sym, ap, subst, ◌∙◌}
use native.Mathlib.Omega.{arith}
use borrow.Author.Tests.{eqb-true, eqb-false, ltb-true, lt-ltb, le-ltb}
use lib.Dec.{ltb, eqb}
use lib.ListN.{length, take}
use lib.Seq.{take-nil}
use Rattle.words.specs.Layout.{cell_at, cells_of, bodies_of, slots_of, pairs_at, max_pairs, max_live}
use Rattle.words.specs.Stores.{Store, stores}
use Rattle.words.specs.Journal.{names_ok, journal}
use Rattle.words.proofs.Scan.{by_bool, by_le}
use Rattle.words.proofs.Plans.{length_stores}
use Rattle.table.specs.Entry.{live}
use Rattle.table.proofs.Rule.{Rule}
use Rattle.search.specs.Domain.{depth_named}
use Rattle.search.proofs.Domain.{depth_small}
use Rattle.model.specs.State.{State}
use Rattle.model.specs.Answer.{Report, refused, ask, or_else, view}
use Rattle.model.specs.Calls.{change, or_refuse, viewed_with}
use Rattle.model.specs.Holdings.{named}
use Rattle.model.specs.Restore.{restored, cells_put_back, memory_after_steps, restore_view}
use Rattle.model.specs.Restore as model
use Rattle.store.specs.Outcome.{Buffers, buffers, outcome, perform, unless, Makes}
use Rattle.store.specs.Checks.{store_check, lent, lent_of}
use Rattle.store.specs.State.{state_in, state_of, standing}
use Rattle.store.specs.Means.{or_refused, Shows}
use Rattle.store.proofs.Checks.{ask_yes, store_lengths}
use Rattle.store.proofs.Means.{visible_of, by_check, store_standing}
use Rattle.store.proofs.Changes.{change_standing}
use Rattle.store.proofs.Raw.{raw_rule, raw_state, raw_named, raw_next, raw_after, raw_long}
use Rattle.restore.specs.Restore.{restore_check, restore_bytes, restore_words, restore_plan, restore_call, restore_means}
use Rattle.restore.proofs.Plan.{restore_length, restore_steps}
use Rattle.restore.proofs.Ending.{end_rule, end_state, none_ended}
use Rattle.restore.proofs.Counting.{words_none, words_some, words_names, words_few, words_count, bytes_count}
use Rattle.restore.proofs.Bytes.{memory_after_lem}

-- of memory, the state that opening finds reads the length alone
pub standing_memory : (m m' b t : List ℕ) → length m ≡ length m' → standing (buffers m b t) ≡ standing (buffers m' b t)
unfolding standing state_of
standing_memory m m' b t q = rw q

-- ---- a table that passes questions 1 to 4, and a live domain of depth d

module _ (memory bodies t : List ℕ) (yes : store_check (lent (length memory) (length bodies) t) ≡ 0) (d : ℕ) (low : 1 ≤ d) (high : d ≤ live t) where
  abbrev m : ℕ
  m = cells_of (length memory)

  abbrev e : ℕ
  e = slots_of (length t)

  abbrev b : ℕ
  b = bodies_of (length bodies)

  abbrev first : ℕ
  first = pairs_at (slots_of (length t))

  abbrev bytes : List Store
  bytes = restore_bytes (cells_of (length memory)) d bodies t

  abbrev ws : List Store
  ws = restore_words d t

  ok : Rule m e b t
  ok = raw_rule memory bodies t yes

  few : live t ≤ max_live
  few = ok.live

  pub whole_cells : length memory ≡ cell_at (cells_of (length memory))
  whole_cells = (store_lengths (length memory) (length bodies) t yes).memory_exact

  -- ---- the words

  pub names : names_ok (pairs_at (slots_of (length t))) 0 (restore_words d t) ≡ true
  names = words_names t d few

  pub room : length (restore_words d t) ≤ max_pairs (slots_of (length t))
  room = omega (arith, words_few t d low few)

  whole_rule : Rule m e b (stores ws t)
  whole_rule =
      by_bool (eqb (live t) d)
      (λ z. rw (words_none t d (eqb-true (live t) d z)) ok)
      (λ z. rw (words_some t d (eqb-false (live t) d z)) (end_rule m e b t ok (raw_long memory bodies t yes) d low high))

  whole_state : state_in e (stores ws t) bodies ≡ restored d (state_in e t bodies)
  whole_state =
      by_bool (eqb (live t) d)
      (λ z. rw (words_none t d (eqb-true (live t) d z)) (none_ended e t bodies d (eqb-true (live t) d z)))
      (λ z. rw (words_some t d (eqb-false (live t) d z)) (end_state m e b t ok (raw_long memory bodies t yes) d low high bodies))

  -- the new table is right
  pub new_rule : Rule (cells_of (length memory)) (slots_of (length t)) (bodies_of (length bodies)) (stores (restore_words d t) (take (pairs_at (slots_of (length t))) t))
  new_rule = raw_next memory bodies t yes ws names whole_rule

  -- and stands for the state without the domains inside
  pub new_state : state_in (slots_of (length t)) (stores (restore_words d t) (take (pairs_at (slots_of (length t))) t)) bodies ≡ restored d (state_of (buffers memory bodies t))
  new_state = raw_after memory bodies t yes ws names whole_rule bodies ∙ whole_state ∙ ap (restored d) (sym (raw_state memory bodies t yes))

  -- ---- as many bytes and words as the model says, and its memory

  pub new_words : length (restore_words d t) ≡ model.restore_words (cells_of (length memory)) d (state_of (buffers memory bodies t))
  new_words = words_count t d m b bodies ok high ∙ ap (model.restore_words m d) (sym (raw_state memory bodies t yes))

  pub new_bytes : length (restore_bytes (cells_of (length memory)) d bodies t) ≡ 64 * cells_put_back (cells_of (length memory)) d (state_of (buffers memory bodies t))
  new_bytes = bytes_count t d m bodies low ∙ ap (λ (s : State). 64 * cells_put_back m d s) (sym (raw_state memory bodies t yes))

  pub new_memory : (k : ℕ) → stores (take k (restore_bytes (cells_of (length memory)) d bodies t)) memory ≡ memory_after_steps k d (state_of (buffers memory bodies t)) memory
  new_memory k = memory_after_lem t bodies d low memory m k whole_cells ∙ ap (λ (s : State). memory_after_steps k d s memory) (sym (raw_state memory bodies t yes))

  -- ---- the state that opening finds at every budget

  after_bytes : (j : ℕ) → standing (buffers memory bodies (stores (take j (journal first ws)) t))
      ≡ some (cond (ltb (2 * length ws) j) (restored d (state_of (buffers memory bodies t))) (state_of (buffers memory bodies t)))
  after_bytes j =
      let z : j - 0 ≡ j = omega arith in
      let y : 0 + 2 * length ws ≡ 2 * length ws = omega arith in
      let nil : take {A = Store} j [] ≡ [] = take-nil j in
      rw (z, y, nil) at (change_standing memory bodies t yes [] ws tt room names new_rule 0 (restored d (state_of (buffers memory bodies t))) new_state j)

  later : (a p k : ℕ) → ltb p (k - a) ≡ ltb (a + p) k
  later a p k =
      by_le k (a + p)
      (λ l. le-ltb p (k - a) (omega arith) ∙ sym (le-ltb (a + p) k l))
      (λ l. lt-ltb p (k - a) (omega arith) ∙ sym (lt-ltb (a + p) k l))

  pub restore_standing : (k : ℕ)
      → standing (buffers (stores (take k (restore_bytes (cells_of (length memory)) d bodies t)) memory) bodies
      (stores (take (k - length (restore_bytes (cells_of (length memory)) d bodies t)) (journal (pairs_at (slots_of (length t))) (restore_words d t))) t))
      ≡ some (cond (ltb (length (restore_bytes (cells_of (length memory)) d bodies t) + 2 * length (restore_words d t)) k)
      (restored d (state_of (buffers memory bodies t))) (state_of (buffers memory bodies t)))
  restore_standing k =
      standing_memory (stores (take k bytes) memory) memory bodies (stores (take (k - length bytes) (journal first ws)) t) (length_stores (take k bytes) memory)
      ∙ after_bytes (k - length bytes)
      ∙ rw (later (length bytes) (2 * length ws) k)

  restore_seen : (k : ℕ) → visible_of (outcome (perform (restore_plan first bytes ws) 0) k (buffers memory bodies t))
      ≡ viewed_with (change (64 * cells_put_back m d (state_of (buffers memory bodies t))) (model.restore_words m d (state_of (buffers memory bodies t))) 0 (restored d (state_of (buffers memory bodies t))))
      k (state_of (buffers memory bodies t)) memory (memory_after_steps k d (state_of (buffers memory bodies t)) memory)
  unfolding outcome
  restore_seen k =
      rw (restore_steps first k bytes ws memory bodies t, restore_length first bytes ws, restore_standing k, new_memory k, new_bytes, new_words)

-- ---- the call

-- question 5, of words
abbrev pub asked : List ℕ → ℕ → ℕ
asked t h = ask (ltb 0 (depth_named t h)) 5 0

-- answered by yes, there is a domain of that depth
pub asked_low : (t : List ℕ) (h : ℕ) → asked t h ≡ 0 → 1 ≤ depth_named t h
asked_low t h q = ltb-true 0 (depth_named t h) (ask_yes (ltb 0 (depth_named t h)) 5 0 (omega arith) q)

abbrev goal : (h words-say state-says k : ℕ) → Buffers → Type 0
goal h q r k b =
    visible_of (outcome (unless q (perform (restore_plan (pairs_at (slots_of (length b.table)))
    (restore_bytes (cells_of (length b.memory)) (depth_named b.table h) b.bodies b.table) (restore_words (depth_named b.table h) b.table)) 0)) k b)
    ≡ viewed_with (or_refuse r (change (64 * cells_put_back (cells_of (length b.memory)) (named h (state_of b)) (state_of b))
    (model.restore_words (cells_of (length b.memory)) (named h (state_of b)) (state_of b)) 0 (restored (named h (state_of b)) (state_of b))))
    k (state_of b) b.memory (memory_after_steps k (named h (state_of b)) (state_of b) b.memory)

pub restore_means_lem : (h k : ℕ) (b : Buffers) → visible_of (outcome (restore_call h b) k b) ≡ restore_means h k b
unfolding restore_call restore_means restore_check outcome
restore_means_lem h k b =
    by_check (λ q. visible_of (outcome (unless (or_else q (asked b.table h)) (perform (restore_plan (pairs_at (slots_of (length b.table)))
    (restore_bytes (cells_of (length b.memory)) (depth_named b.table h) b.bodies b.table) (restore_words (depth_named b.table h) b.table)) 0)) k b)
    ≡ or_refused q b (restore_view (cells_of (length b.memory)) h k (state_of b) b.memory))
    (store_check (lent_of b))
    (λ n e. refl)
    (λ yes.
    let stands = store_standing b.memory b.bodies b.table yes in
    let name = raw_named b.memory b.bodies b.table yes h in
    subst (λ (r : ℕ). goal h (asked b.table h) r k b) (ap (λ (x : ℕ). ask (ltb 0 x) 5 0) (sym name))
    (by_check (λ q. goal h q q k b) (asked b.table h)
    (λ n e. ap (λ (s : Option State). view (refused (suc n)) s b.memory) stands)
    (λ e.
    subst (λ (d : ℕ). visible_of (outcome (perform (restore_plan (pairs_at (slots_of (length b.table)))
    (restore_bytes (cells_of (length b.memory)) (depth_named b.table h) b.bodies b.table) (restore_words (depth_named b.table h) b.table)) 0) k b)
    ≡ viewed_with (change (64 * cells_put_back (cells_of (length b.memory)) d (state_of b)) (model.restore_words (cells_of (length b.memory)) d (state_of b)) 0 (restored d (state_of b)))
    k (state_of b) b.memory (memory_after_steps k d (state_of b) b.memory)) (sym name)
    (restore_seen b.memory b.bodies b.table yes (depth_named b.table h) (asked_low b.table h e) (depth_small b.table h) k))))

-- what the call makes shows what it means
pub restore_shown : (h k : ℕ) (before : Buffers) {r : Report} {after : Buffers} → Makes (restore_call h) k before r after → Shows (restore_means h) k before r after
restore_shown h k before {r} {after} made = ap visible_of made ∙ restore_means_lem h k before
