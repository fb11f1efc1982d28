-- Advance, from its stores to what it means and to what opening finds after every cut of it. The laws on stores hold for any choice of
-- different free slots and bodies; the call takes the lowest ones. Assumes nothing.
use Prim.Native.Nat.{ℕ, suc, ◌+◌, ◌-◌, ◌*◌, ◌≤◌, ◌<◌}
use mathlib.Core.Bool.{Bool, true, false, cond, not, ◌&&◌}
use mathlib.Core.List.{List, map}
use mathlib.Core.Option.{Option}
use mathlib.Core.Path.{◌≡◌, refl, sym, ap, subst, ◌∙◌}
use native.Mathlib.Omega.{arith}
use borrow.Author.Tests.{eqb-true, eqb-false, ne_eqb, ltb-true, leb-true, le-leb, lt-leb}
use lib.Dec.{leb, ltb, eqb}
use lib.ListN.{length, take, length-append, length-map}
use Rattle.words.specs.Layout.{cells_of, bodies_of, slots_of, pairs_at}
use Rattle.words.specs.Scan.{count}
use Rattle.words.specs.Stores.{Store, stores}
use Rattle.words.specs.Cells.{cell_bytes}
use Rattle.words.specs.Journal.{pending, names_ok, journal}
use Rattle.words.proofs.Scan.{by_bool, by_le, count_ext, count_both}
use Rattle.words.proofs.Plans.{Each}
use Rattle.words.proofs.Copies.{copies_length, copies_stored}
use Rattle.table.specs.Entry.{live, word1, writable_of, parent, find_in, holds_in, writes_in}
use Rattle.table.proofs.Rule.{Rule}
use Rattle.table.proofs.Entries.{changes_few, entries_names}
use Rattle.search.specs.Domain.{depth_named}
use Rattle.search.specs.Free.{used_slots, copies}
use Rattle.search.proofs.Domain.{depth_small}
use Rattle.values.specs.Values.{unchanged}
use Rattle.model.specs.State.{State}
use Rattle.model.specs.Answer.{Report, refused, ended, ask, or_else, view, steps_of, View}
use Rattle.model.specs.Calls.{viewed, change, or_refuse}
use Rattle.model.specs.Holdings.{named, holding_at, is_held, live_entries, copies_in_use, held_changed, is_given, advance, changed_cells, given_cells, advance_checks, advance_effect}
use Rattle.store.specs.Outcome.{Buffers, buffers, in_bodies, in_table, change_plan, outcome, leaves, Call, perform, unless}
use Rattle.store.specs.Checks.{store_check, lent, lent_of}
use Rattle.store.specs.State.{held_in, state_in, state_of}
use Rattle.store.specs.Means.{visible_of, or_refused, call_means, room_of, left_pending, pending_after, after_pending, Reopens}
use Rattle.store.proofs.Checks.{ask_yes, ask_stop, ask_rest, or_else_both, or_else_go, store_lengths}
use Rattle.store.proofs.Outcome.{refuses}
use Rattle.store.proofs.Domains.{state_named, inner_holding_lem, outer_holding_lem, domains_count, held_holds}
use Rattle.store.proofs.InUse.{entries_in_use, copies_in_use_lem}
use Rattle.store.proofs.Means.{by_check, store_standing}
use Rattle.store.proofs.Changes.{Spares, spared, front_spares, copies_spare, change_length, change_performed, change_seen}
use Rattle.store.proofs.Pending.{performed_pending, call_pending}
use Rattle.store.proofs.Reopened.{changes_shaped, shape_reopens, unless_reopens}
use Rattle.store.proofs.Standing.{standing_opens}
use Rattle.store.proofs.Bounds.{change_bound}
use Rattle.advance.specs.Choice.{Choice, advance_with, MayTake}
use Rattle.advance.specs.Advance.{advances, gives, gives_with, advance_check, slot_for, body_for, change_with, bytes_with, words_with, advance_words, advance_bytes, advance_call, advance_means}
use Rattle.store.proofs.Raw.{raw_rule, raw_long, raw_state, raw_next, raw_after}
use Rattle.advance.specs.Notes.{performed}
use Rattle.advance.proofs.Turning.{advances_cell, words_count, takes_below, takes_own, turned_rule, turned_state}
use Rattle.advance.proofs.Choosing.{chosen, slots_chosen}
use Rattle.advance.proofs.Noting.{cells_check, advances_own}

-- what is held changed where the cell does: of words and of a holding
held_changed_lem : (e : ℕ) (t memory bodies : List ℕ) (d c : ℕ) → held_changed (cell_bytes memory c) (held_in e t bodies d c) ≡ (writes_in e t d c && not (unchanged memory bodies e t d c))
unfolding held_in
held_changed_lem e t memory bodies d c =
    by_bool (holds_in e t d c)
    (λ z. rw z (by_bool (eqb (writable_of (word1 e t (find_in e t d c))) 1) (λ y. rw y) (λ y. rw y)))
    (λ z. rw z)

-- ---- for any choice of slots and bodies

module _ (memory bodies t : List ℕ) (yes : store_check (lent (length memory) (length bodies) t) ≡ 0) (low : 1 ≤ live t) (slot body : ℕ → ℕ)
    (choice : Choice (buffers memory bodies t) slot body) where
  abbrev m : ℕ
  m = cells_of (length memory)

  abbrev b : ℕ
  b = bodies_of (length bodies)

  abbrev e : ℕ
  e = slots_of (length t)

  -- the cells that advance
  abbrev f : ℕ → Bool
  f = advances (buffers memory bodies t)

  -- how many they are, and how many of them are given outwards
  abbrev many : ℕ
  many = count (cells_of (length memory)) (advances (buffers memory bodies t))

  abbrev out : ℕ
  out = count (cells_of (length memory)) (gives (buffers memory bodies t))

  -- the stores of the call that takes these places
  abbrev bytes : List Store
  bytes = bytes_with (buffers memory bodies t) body

  abbrev words : List Store
  words = words_with (buffers memory bodies t) slot body

  ok : Rule m e b t
  ok = raw_rule memory bodies t yes

  -- the bytes spare the bodies in use
  spares : Each (Spares e t) bytes
  spares = copies_spare e t memory f (λ c. c) body m choice.bodies.was_free

  pub with_spares : Each (Spares (slots_of (length t)) (take (pairs_at (slots_of (length t))) t)) bytes
  with_spares = front_spares e t bytes spares

  pub with_bytes : length bytes ≡ 64 * count (cells_of (length memory)) (advances (buffers memory bodies t))
  with_bytes = copies_length memory f (λ c. c) body m

  pub with_words_lem : length words ≡ 2 * (count (cells_of (length memory)) (advances (buffers memory bodies t)) + count (cells_of (length memory)) (gives (buffers memory bodies t)))
  with_words_lem = words_count m e b t ok f (advances_own (buffers memory bodies t)) slot choice.slots low body

  with_few : length words ≤ 2 * e
  with_few = changes_few e (change_with m e t f slot body)

  pub with_names : names_ok (pairs_at (slots_of (length t))) 0 words ≡ true
  with_names = entries_names e (change_with m e t f slot body)

  -- the new table is right
  pub with_rule : Rule (cells_of (length memory)) (slots_of (length t)) (bodies_of (length bodies)) (stores words (take (pairs_at (slots_of (length t))) t))
  with_rule = raw_next memory bodies t yes words with_names (turned_rule m e b t ok (raw_long memory bodies t yes) low f (advances_own (buffers memory bodies t)) slot body choice.slots choice.bodies)

  -- and stands for the model's state
  pub with_state : state_in (slots_of (length t)) (stores words (take (pairs_at (slots_of (length t))) t)) (stores bytes bodies) ≡ advance memory (state_of (buffers memory bodies t))
  with_state =
      let sized = store_lengths (length memory) (length bodies) t yes in
      raw_after memory bodies t yes words with_names (turned_rule m e b t ok (raw_long memory bodies t yes) low f (advances_own (buffers memory bodies t)) slot body choice.slots choice.bodies) (stores bytes bodies)
      ∙ turned_state m e b t ok (raw_long memory bodies t yes) low f (advances_own (buffers memory bodies t)) slot body choice.slots choice.bodies memory bodies (stores bytes bodies)
      (spared e t bytes bodies spares)
      (λ c goes.
      let small : c < m = advances_cell m e b t ok f (advances_own (buffers memory bodies t)) c goes in
      let fits : body c < b = takes_below m e b t ok f (advances_own (buffers memory bodies t)) body choice.bodies c goes in
      copies_stored memory f (λ c. c) body m c bodies small goes (omega arith) (omega arith)
      (λ k l other q. takes_own m e b t ok f (advances_own (buffers memory bodies t)) body choice.bodies c k goes other q))
      (λ c. sym (held_changed_lem e t memory bodies (live t) c))
      ∙ ap (advance memory) (sym (raw_state memory bodies t yes))

  pub with_seen : (k : ℕ) → visible_of (outcome (perform (change_plan (pairs_at (slots_of (length t))) bytes words) 0) k (buffers memory bodies t))
      ≡ viewed (change (64 * many) (2 * (many + out)) 0 (advance memory (state_of (buffers memory bodies t)))) k (state_of (buffers memory bodies t)) memory
  with_seen k =
      change_seen memory bodies t yes bytes words with_spares (omega (arith, with_few)) with_names with_rule 0 (advance memory (state_of (buffers memory bodies t))) with_state k
      ∙ (λ i. viewed (change (with_bytes i) (with_words_lem i) 0 (advance memory (state_of (buffers memory bodies t)))) k (state_of (buffers memory bodies t)) memory)

  -- as many pairs are left pending as its effect says
  pub with_pending : (k : ℕ) → pending (outcome (perform (change_plan (pairs_at (slots_of (length t))) bytes words) 0) k (buffers memory bodies t)).buffers.table
      ≡ pending_after (64 * many) (2 * (many + out)) k
  with_pending k =
      performed_pending memory bodies t yes bytes words (omega (arith, with_few)) with_names 0 k
      ∙ (λ i. pending_after (with_bytes i) (with_words_lem i) k)

  -- ---- cuts

  pub with_reopens : Reopens (perform (change_plan (pairs_at (slots_of (length t))) (bytes_with (buffers memory bodies t) body) (words_with (buffers memory bodies t) slot body)) 0) (buffers memory bodies t)
  with_reopens =
      shape_reopens _ (buffers memory bodies t) (changes_shaped (buffers memory bodies t) bytes words 0) yes
      (λ k.
      standing_opens (outcome (perform (change_plan (pairs_at (slots_of (length t))) bytes words) 0) k (buffers memory bodies t)).buffers _
      (ap (λ (v : View). v.state) (with_seen k)))

  -- "every other call at most 70E + 32"
  pub with_bound : steps_of (length bytes) (length words) ≤ 70 * slots_of (length t) + 32
  with_bound =
      rw with_bytes (change_bound many (length words) e (omega (arith, with_words_lem, with_few)) (omega (arith, with_few)))

-- ---- the questions, of words and of a state

-- questions 5, 6, 16 and 17
abbrev pub asked : Buffers → ℕ → ℕ
asked b h = ask (ltb 0 (depth_named b.table h)) 5 (ask (eqb (depth_named b.table h) (live b.table)) 6 (cells_check b))

pub check_is : (b : Buffers) (h : ℕ) → advance_check b h ≡ or_else (store_check (lent_of b)) (asked b h)
unfolding advance_check
check_is b h = refl

module _ (e : ℕ) (t memory bodies : List ℕ) (low : 1 ≤ live t) where
  abbrev s : State
  s = state_in e t bodies

  changed_same : (c : ℕ) → held_changed (cell_bytes memory c) (holding_at s.domains (length s.domains) c) ≡ (writes_in e t (live t) c && not (unchanged memory bodies e t (live t) c))
  changed_same c = ap (held_changed (cell_bytes memory c)) (inner_holding_lem e t bodies c low) ∙ held_changed_lem e t memory bodies (live t) c

  cells_same : (m : ℕ) → changed_cells m memory s ≡ count m (λ c. writes_in e t (live t) c && not (unchanged memory bodies e t (live t) c))
  cells_same m =
      count_ext m (λ c. held_changed (cell_bytes memory c) (holding_at s.domains (length s.domains) c)) (λ c. writes_in e t (live t) c && not (unchanged memory bodies e t (live t) c))
      (λ c l. changed_same c)

  -- what is given outwards: the outermost domain has no parent
  outer_same : (c : ℕ) → (not (leb (length s.domains) 1) && is_given (cell_bytes memory c) (holding_at s.domains (length s.domains - 1) c) (holding_at s.domains (length s.domains) c))
      ≡ gives_with e t (λ c. writes_in e t (live t) c && not (unchanged memory bodies e t (live t) c)) c
  outer_same c =
      ap (λ (n : ℕ). not (leb n 1) && is_given (cell_bytes memory c) (holding_at s.domains (length s.domains - 1) c) (holding_at s.domains (length s.domains) c)) (domains_count e t bodies)
      ∙ by_le (live t) 1
      (λ z. rw (le-leb (live t) 1 z, lt-leb 2 (live t) (omega arith)) (sym (none (writes_in e t (live t) c && not (unchanged memory bodies e t (live t) c)))))
      (λ z.
      rw (lt-leb (live t) 1 z, le-leb 2 (live t) (omega arith))
      (λ i. changed_same c i && not ((ap is_held (outer_holding_lem e t bodies c z) ∙ held_holds e t bodies (parent (live t)) c) i)))
    where
      none : (x : Bool) → (x && false) ≡ false
      none true = refl
      none false = refl

  given_same : (m : ℕ) → given_cells m memory s ≡ count m (gives_with e t (λ c. writes_in e t (live t) c && not (unchanged memory bodies e t (live t) c)))
  given_same m = count_ext m (λ c. not (leb (length s.domains) 1) && is_given (cell_bytes memory c) (holding_at s.domains (length s.domains - 1) c) (holding_at s.domains (length s.domains) c)) _ (λ c l. outer_same c)

checks_raw : (memory bodies t : List ℕ) (h : ℕ) → Rule (cells_of (length memory)) (slots_of (length t)) (bodies_of (length bodies)) t
    → advance_checks (room_of (buffers memory bodies t)) memory h (state_in (slots_of (length t)) t bodies) ≡ asked (buffers memory bodies t) h
checks_raw memory bodies t h ok =
    let e : ℕ = slots_of (length t) in
    let name : named h (state_in e t bodies) ≡ depth_named t h = state_named e t bodies h in
    by_bool (ltb 0 (depth_named t h))
    (λ z.
    let small = depth_small t h in
    let some-depth = ltb-true 0 (depth_named t h) z in
    let low : 1 ≤ live t = omega arith in
    let entries : live_entries (cells_of (length memory)) (state_in e t bodies) ≡ used_slots e t = entries_in_use (cells_of (length memory)) e (bodies_of (length bodies)) t ok bodies in
    let in_use : copies_in_use (cells_of (length memory)) (state_in e t bodies) ≡ copies e t = copies_in_use_lem (cells_of (length memory)) e (bodies_of (length bodies)) t ok bodies in
    (λ i. ask (ltb 0 (name i)) 5 (ask (eqb (name i) (domains_count e t bodies i)) 6
    (ask (leb (entries i + given_same e t memory bodies low (cells_of (length memory)) i) e) 16
    (ask (leb (in_use i + cells_same e t memory bodies low (cells_of (length memory)) i) (bodies_of (length bodies))) 17 0)))))
    (λ z.
    ask_stop _ 5 _ (ap (ltb 0) name ∙ z) ∙ sym (ask_stop _ 5 _ z))

-- ---- what passed questions tell

module _ (b : Buffers) (h : ℕ) (pass : advance_check b h ≡ 0) where
  abbrev t : List ℕ
  t = b.table

  both : (store_check (lent_of b) ≡ 0) × (asked b h ≡ 0)
  both = or_else_both (store_check (lent_of b)) (asked b h) (sym (check_is b h) ∙ pass)

  pub advance_store : store_check (lent_of b) ≡ 0
  advance_store = both.0

  rest6 : ask (eqb (depth_named t h) (live t)) 6 (cells_check b) ≡ 0
  rest6 = ask_rest (ltb 0 (depth_named t h)) 5 (ask (eqb (depth_named t h) (live t)) 6 (cells_check b)) (omega arith) both.1

  pub advance_low : 1 ≤ live b.table
  advance_low =
      let x = ltb-true 0 (depth_named t h) (ask_yes (ltb 0 (depth_named t h)) 5 (ask (eqb (depth_named t h) (live t)) 6 (cells_check b)) (omega arith) both.1) in
      let y = depth_small t h in
      omega arith

  rest16 : cells_check b ≡ 0
  rest16 = ask_rest (eqb (depth_named t h) (live t)) 6 (cells_check b) (omega arith) rest6

  pub advance_slots : used_slots (slots_of (length b.table)) b.table + count (cells_of (length b.memory)) (gives b) ≤ slots_of (length b.table)
  advance_slots =
      let e : ℕ = slots_of (length t) in
      let m : ℕ = cells_of (length b.memory) in
      leb-true _ _ (ask_yes (leb (used_slots e t + count m (gives b)) e) 16 _ (omega arith) rest16)

  pub advance_room : copies (slots_of (length b.table)) b.table + count (cells_of (length b.memory)) (advances b) ≤ bodies_of (length b.bodies)
  advance_room =
      let e : ℕ = slots_of (length t) in
      let m : ℕ = cells_of (length b.memory) in
      leb-true _ _ (ask_yes (leb (copies e t + count m (advances b)) (bodies_of (length b.bodies))) 17 0 (omega arith)
      (ask_rest (leb (used_slots e t + count m (gives b)) e) 16
      (ask (leb (copies e t + count m (advances b)) (bodies_of (length b.bodies))) 17 0) (omega arith) rest16))

-- ---- the call, which takes the lowest free places

-- what is given outwards advances
pub gives_few : (b : Buffers) → count (cells_of (length b.memory)) (gives b) ≤ count (cells_of (length b.memory)) (advances b)
gives_few b = count_both (cells_of (length b.memory)) (advances b) _

module _ (b : Buffers) (h : ℕ) (pass : advance_check b h ≡ 0) where
  pub lowest : Choice b (slot_for b) (body_for b)
  lowest = record {
    slots = slots_chosen (cells_of (length b.memory)) (slots_of (length b.table)) b.table (gives b) (advance_slots b h pass);
    bodies = chosen (cells_of (length b.memory)) (slots_of (length b.table)) (bodies_of (length b.bodies)) b.table
        (raw_rule b.memory b.bodies b.table (advance_store b h pass)) (advances b) (advance_room b h pass);
  }

  pub advance_bound : steps_of (length (advance_bytes b)) (length (advance_words b)) ≤ 70 * slots_of (length b.table) + 32
  unfolding advance_bytes advance_words
  advance_bound = with_bound b.memory b.bodies b.table (advance_store b h pass) (advance_low b h pass) (slot_for b) (body_for b) lowest

  -- it takes 70 steps for each cell that advances, 6 more for each that is given outwards, and 2 more, and none where none advances
  pub advance_step_count : (k : ℕ) → (outcome (advance_call h b) k b).report
      ≡ ended (cond (eqb (count (cells_of (length b.memory)) (advances b)) 0) 0
      (70 * count (cells_of (length b.memory)) (advances b) + 6 * count (cells_of (length b.memory)) (gives b) + 2)) 0 k
  unfolding advance_call advance_bytes advance_words outcome
  advance_step_count k =
      rw pass
      (ap (λ (n : ℕ). ended n 0 k)
      (change_length (pairs_at (slots_of (length b.table))) (advance_bytes b) (advance_words b) ∙ steps_all))
    where
      many : (n g : ℕ) → g ≤ n → steps_of (64 * n) (2 * (n + g)) ≡ cond (eqb n 0) 0 (70 * n + 6 * g + 2)
      many n g few =
          by_bool (eqb n 0)
          (λ z. let q = eqb-true n 0 z in let r : g ≡ 0 = omega (arith, few, q) in rw (z, q, r))
          (λ z. let ne = eqb-false n 0 z in rw (z, ne_eqb (2 * (n + g)) 0 (λ q. ne (omega (arith, q)))) (omega arith))

      steps_all : steps_of (length (advance_bytes b)) (length (advance_words b))
          ≡ cond (eqb (count (cells_of (length b.memory)) (advances b)) 0) 0
          (70 * count (cells_of (length b.memory)) (advances b) + 6 * count (cells_of (length b.memory)) (gives b) + 2)
      steps_all =
          (λ i. steps_of (with_bytes b.memory b.bodies b.table (advance_store b h pass) (advance_low b h pass) (slot_for b) (body_for b) lowest i)
          (with_words_lem b.memory b.bodies b.table (advance_store b h pass) (advance_low b h pass) (slot_for b) (body_for b) lowest i))
          ∙ many (count (cells_of (length b.memory)) (advances b)) (count (cells_of (length b.memory)) (gives b)) (gives_few b)

-- ---- what it means

-- the questions and the number of cells, of words and of a state
module _ (b : Buffers) (yes : store_check (lent_of b) ≡ 0) (h : ℕ) where
  same_checks : asked b h ≡ advance_checks (room_of b) b.memory h (state_of b)
  same_checks =
      sym (ap (advance_checks (room_of b) b.memory h) (raw_state b.memory b.bodies b.table yes)
      ∙ checks_raw b.memory b.bodies b.table h (raw_rule b.memory b.bodies b.table yes))

  same_cells : 1 ≤ live b.table → count (cells_of (length b.memory)) (advances b) ≡ changed_cells (cells_of (length b.memory)) b.memory (state_of b)
  same_cells low =
      sym (ap (changed_cells (cells_of (length b.memory)) b.memory) (raw_state b.memory b.bodies b.table yes)
      ∙ cells_same (slots_of (length b.table)) b.table b.memory b.bodies low (cells_of (length b.memory)))

  same_given : 1 ≤ live b.table → count (cells_of (length b.memory)) (gives b) ≡ given_cells (cells_of (length b.memory)) b.memory (state_of b)
  same_given low =
      sym (ap (given_cells (cells_of (length b.memory)) b.memory) (raw_state b.memory b.bodies b.table yes)
      ∙ given_same (slots_of (length b.table)) b.table b.memory b.bodies low (cells_of (length b.memory)))

-- ---- the call made with any choice of slots and bodies

module _ (h : ℕ) (b : Buffers) (slot body : ℕ → ℕ) (may : MayTake h b slot body) where
  abbrev plan_with : Call
  plan_with = perform (change_plan (pairs_at (slots_of (length b.table))) (bytes_with b body) (words_with b slot body)) 0

  abbrev cells : ℕ
  cells = changed_cells (cells_of (length b.memory)) b.memory (state_of b)

  abbrev sent : ℕ
  sent = given_cells (cells_of (length b.memory)) b.memory (state_of b)

  abbrev goal : (words-say state-says k : ℕ) → Type 0
  goal q r k =
      visible_of (outcome (unless q plan_with) k b)
      ≡ viewed (or_refuse r (change (64 * cells) (2 * (cells + sent)) 0 (advance b.memory (state_of b)))) k (state_of b) b.memory

  -- what is seen of it, at every budget, is what advance means
  pub advance_with_means : (k : ℕ) → visible_of (outcome (advance_with slot body h b) k b) ≡ advance_means h k b
  unfolding advance_with call_means advance_check outcome
  advance_with_means k =
      by_check (λ q. visible_of (outcome (unless (or_else q (asked b h)) plan_with) k b)
      ≡ or_refused q b (viewed (advance_effect (room_of b) b.memory h (state_of b)) k (state_of b) b.memory))
      (store_check (lent_of b))
      (λ n e. refl)
      (λ yes.
      let stands = store_standing b.memory b.bodies b.table yes in
      subst (λ (r : ℕ). goal (asked b h) r k) (same_checks b yes h)
      (by_check (λ q. goal q q k) (asked b h)
      (λ n e. ap (λ (s : Option State). view (refused (suc n)) s b.memory) stands)
      (λ e.
      let pass : advance_check b h ≡ 0 = rw yes e in
      let low = advance_low b h pass in
      with_seen b.memory b.bodies b.table yes low slot body (may pass) k
      ∙ (λ i. viewed (change (64 * same_cells b yes h low i) (2 * (same_cells b yes h low i + same_given b yes h low i)) 0 (advance b.memory (state_of b))) k (state_of b) b.memory))))

  module _ (good : store_check (lent_of b) ≡ 0) where
    -- the pairs that it leaves pending
    pub advance_with_pending : (k : ℕ) → left_pending (outcome (advance_with slot body h b) k b) ≡ after_pending (advance_effect (room_of b) b.memory h (state_of b)) k
    unfolding advance_with
    advance_with_pending k =
        call_pending k b good _ _ _ _
        (check_is b h ∙ or_else_go _ _ good ∙ same_checks b good h)
        (λ q.
        let low = advance_low b h q in
        with_pending b.memory b.bodies b.table good low slot body (may q) k
        ∙ (λ i. pending_after (64 * same_cells b good h low i) (2 * (same_cells b good h low i + same_given b good h low i)) k))

    -- and what opening finds after every cut of it
    pub advance_with_reopens : Reopens (advance_with slot body h b) b
    unfolding advance_with
    advance_with_reopens =
        unless_reopens b good (advance_check b h) plan_with
        (λ q. with_reopens b.memory b.bodies b.table good (advance_low b h q) slot body (may q))

-- ---- the contract's call, which takes the lowest free slots and bodies

pub advance_is : (h : ℕ) (b : Buffers) → advance_call h b ≡ advance_with (slot_for b) (body_for b) h b
unfolding advance_call advance_with advance_bytes advance_words
advance_is h b = refl

-- they were free before the call, and differ
pub advance_takes : (h : ℕ) (b : Buffers) → MayTake h b (slot_for b) (body_for b)
advance_takes h b pass = lowest b h pass

pub advance_means_lem : (h k : ℕ) (b : Buffers) → visible_of (outcome (advance_call h b) k b) ≡ advance_means h k b
advance_means_lem h k b = ap (λ (c : Call). visible_of (outcome c k b)) (advance_is h b) ∙ advance_with_means h b _ _ (advance_takes h b) k

pub advance_pending : (h k : ℕ) (b : Buffers) → store_check (lent_of b) ≡ 0
    → pending (outcome (advance_call h b) k b).buffers.table ≡ after_pending (advance_effect (room_of b) b.memory h (state_of b)) k
advance_pending h k b good = ap (λ (c : Call). left_pending (outcome c k b)) (advance_is h b) ∙ advance_with_pending h b _ _ (advance_takes h b) good k

-- ---- what the code cites

module _ (m b t : List ℕ) (h k : ℕ) where
  pub advance_refused : (q : ℕ) → q ≡ advance_check (buffers m b t) h → (q ≡ 0 → ⊥) → leaves (refused q) (buffers m b t) ≡ outcome (advance_call h (buffers m b t)) k (buffers m b t)
  unfolding advance_call
  advance_refused q e stops = refuses q (advance_check (buffers m b t) h) _ k (buffers m b t) e stops

  -- where no question refuses it, the call is carried out
  pub advance_goes : advance_check (buffers m b t) h ≡ 0 → outcome (performed (buffers m b t)) k (buffers m b t) ≡ outcome (advance_call h (buffers m b t)) k (buffers m b t)
  unfolding advance_call
  advance_goes pass = rw pass

module _ (m b t : List ℕ) (k : ℕ) where
  abbrev bytes_all : List Store
  bytes_all = advance_bytes (buffers m b t)

  abbrev words_all : List Store
  words_all = advance_words (buffers m b t)

  pub advance_performed : (bytes steps : ℕ) (b' t' : List ℕ) (r : Report)
      → bytes ≡ length (advance_bytes (buffers m b t)) → b' ≡ stores (take k (advance_bytes (buffers m b t))) b
      → steps ≡ length (journal (pairs_at (slots_of (length t))) (advance_words (buffers m b t))) → t' ≡ stores (take (k - bytes) (journal (pairs_at (slots_of (length t))) (advance_words (buffers m b t)))) t
      → r ≡ ended (bytes + steps) 0 k
      → leaves r (buffers m b' t') ≡ outcome (performed (buffers m b t)) k (buffers m b t)
  advance_performed bytes steps b' t' r x p y q e =
      change_performed (pairs_at (slots_of (length t))) (bytes + steps) 0 k bytes_all words_all m b t b' t' r
      (rw (x, y) (sym (length-append (map in_bodies bytes_all) (map in_table (journal (pairs_at (slots_of (length t))) words_all)) ∙ rw (length-map, length-map)))
      ∙ change_length (pairs_at (slots_of (length t))) bytes_all words_all)
      p (rw x at q) e
