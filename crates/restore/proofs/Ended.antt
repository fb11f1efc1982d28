-- What a restore leaves of each word in front of the pairs, and that ending the domains inside an inner one first leaves the same words (request A.5).
-- Assumes nothing.
use Prim.Native.Nat.{ℕ, ◌+◌, ◌-◌, ◌*◌, ◌≤◌, ◌<◌}
use mathlib.Core.Bool.{true, false}
use mathlib.Core.List.{List, []}
use mathlib.Core.Path.{◌≡◌, refl, sym, ap, subst, ◌∙◌}
use native.Mathlib.Omega.{arith}
use borrow.Author.Tests.{ltb-true, lt-ltb, le-ltb, eqb-true, eqb-false}
use lib.Dec.{ltb, eqb}
use lib.ListN.{length, get_or, take, length-take}
use lib.Seq.{get_or-take, ext_get_or, take_all}
use Rattle.words.specs.Layout.{cells_of, bodies_of, slots_of, pairs_at, live_at, next_at, handle_at, first_at, second_at, max_live}
use Rattle.words.specs.Stores.{Store, stores}
use Rattle.words.specs.Journal.{pending, name_ok, journal}
use Rattle.words.proofs.Scan.{by_bool, by_le}
use Rattle.words.proofs.Places.{pending_at_below, first_at_below, second_at_below, FrontWord, a_live, a_next, a_handle, a_first, a_second, unnamed, front_word}
use Rattle.words.proofs.Plans.{nil, get_or_stores, take_stores, stores_none}
use Rattle.words.proofs.Names.{names_below}
use Rattle.words.proofs.Pairs.{length_journal, journal_some, journal_none}
use Rattle.words.proofs.Journal as law
use Rattle.table.specs.Entry.{live, word1, word2, depth_of}
use Rattle.table.specs.Changes.{new_first, new_second}
use Rattle.table.proofs.Rule.{Rule}
use Rattle.table.proofs.Head.{Remain, handle_unused, ended_low, first_remain}
use Rattle.table.proofs.Entries.{first_staged, second_staged}
use Rattle.search.specs.Domain.{depth_named}
use Rattle.search.proofs.Domain.{depth_small}
use Rattle.model.specs.Answer.{is_done, is_stopped, ended, steps_of}
use Rattle.model.specs.Holdings.{is_live}
use Rattle.store.specs.Outcome.{Buffers, buffers, Outcome, outcome, leaves}
use Rattle.store.specs.Checks.{store_check, lent, lent_of}
use Rattle.store.specs.State.{state_of, slots}
use Rattle.store.proofs.Checks.{store_idle, or_else_both, or_else_go}
use Rattle.store.proofs.Changes.{steps_needed}
use Rattle.store.proofs.Cuts.{apart_from}
use Rattle.store.proofs.InUse.{depth_high}
use Rattle.store.proofs.Means.{t_long}
use Rattle.store.proofs.Raw.{raw_rule, raw_long, raw_named}
use Rattle.store.proofs.Reopened.{done_enough, stopped_short}
use Rattle.restore.specs.Restore.{restore_check, restore_bytes, restore_change, restore_words, restore_call}
use Rattle.restore.specs.Parts.{head_words, ending_words}
use Rattle.restore.proofs.Plan.{restore_leaves}
use Rattle.restore.proofs.Counting.{words_none, words_some, end_names}
use Rattle.restore.proofs.Restored.{names, room, asked, asked_low}

-- from t to u, tables of e slots, the domains inside depth d are ended: words 4, 5 and 8 to 15, the entries, and the words that no pair may name
pub record EndedInside (e d : ℕ) (t u : List ℕ) : Type 0 where
  pub head : Remain d t u
  pub firsts : (i : ℕ) → i < e → word1 e u i ≡ new_first (restore_change e t d i) (word1 e t i)
  pub seconds : (i : ℕ) → i < e → word2 e u i ≡ new_second (restore_change e t d i) (word2 e t i)
  pub fixed : (i : ℕ) → name_ok (pairs_at e) i ≡ false → i < pairs_at e → get_or u i 0 ≡ get_or t i 0

-- ---- first an inner one at depth d, from t to u, and then an outer one at depth g, to v; and the outer one alone, from t to w

module _ {e d g : ℕ} {t u v w : List ℕ} (inner : EndedInside e d t u) (outer : EndedInside e g u v) (alone : EndedInside e g t w) (around : g ≤ d) where
  -- an entry that the inner restore has freed is as the outer one would have freed it
  freed_first : (i : ℕ) → i < e → new_first (restore_change e u g i) (word1 e u i) ≡ new_first (restore_change e t g i) (word1 e t i)
  unfolding restore_change
  freed_first i l =
      by_bool (ltb d (depth_of (word1 e t i)))
      (λ p.
      let gone : word1 e u i ≡ 0 = inner.firsts i l ∙ rw p in
      let deep = ltb-true d (depth_of (word1 e t i)) p in
      rw (gone, lt-ltb g (depth_of (word1 e t i)) (omega arith), le-ltb g (depth_of 0) (omega arith)))
      (λ p. let same : word1 e u i ≡ word1 e t i = inner.firsts i l ∙ rw p in rw same)

  freed_second : (i : ℕ) → i < e → new_second (restore_change e u g i) (word2 e u i) ≡ new_second (restore_change e t g i) (word2 e t i)
  unfolding restore_change
  freed_second i l =
      by_bool (ltb d (depth_of (word1 e t i)))
      (λ p.
      let gone : word1 e u i ≡ 0 = inner.firsts i l ∙ rw p in
      let free : word2 e u i ≡ 0 = inner.seconds i l ∙ rw p in
      let deep = ltb-true d (depth_of (word1 e t i)) p in
      rw (gone, free, lt-ltb g (depth_of (word1 e t i)) (omega arith), le-ltb g (depth_of 0) (omega arith)))
      (λ p.
      let same : word1 e u i ≡ word1 e t i = inner.firsts i l ∙ rw p in
      let too : word2 e u i ≡ word2 e t i = inner.seconds i l ∙ rw p in
      rw (same, too))

  same_handle : (k : ℕ) → k < max_live → get_or v (handle_at k) 0 ≡ get_or w (handle_at k) 0
  same_handle k l =
      by_le g k
      (λ out. outer.head.gone k out l ∙ sym (alone.head.gone k out l))
      (λ stay. outer.head.kept k stay ∙ inner.head.kept k (omega arith) ∙ sym (alone.head.kept k stay))

  same_word : (i : ℕ) → i < pairs_at e → FrontWord e i → get_or v i 0 ≡ get_or w i 0
  same_word i h (a_live q) = rw q (outer.head.live ∙ sym alone.head.live)
  same_word i h (a_next q) = rw q (outer.head.next ∙ inner.head.next ∙ sym alone.head.next)
  same_word i h (a_handle k l q) = rw q (same_handle k l)
  same_word i h (a_first j l q) = rw q (outer.firsts j l ∙ freed_first j l ∙ sym (alone.firsts j l))
  same_word i h (a_second j l q) = rw q (outer.seconds j l ∙ freed_second j l ∙ sym (alone.seconds j l))
  same_word i h (unnamed n) = outer.fixed i n h ∙ inner.fixed i n h ∙ sym (alone.fixed i n h)

  -- word for word
  pub same_front : length v ≡ length w → take (pairs_at e) v ≡ take (pairs_at e) w
  same_front q =
      ext_get_or 0 (take (pairs_at e) v) (take (pairs_at e) w) (rw (length-take, length-take, q)) (λ i l.
      let h : i < pairs_at e = omega (arith, length-take (pairs_at e) v) in
      get_or-take (pairs_at e) v i 0 h ∙ same_word i h (front_word e i h) ∙ sym (get_or-take (pairs_at e) w i 0 h))

-- ---- the pairs do not matter

ended_front : {e d : ℕ} {t u v : List ℕ} → live t ≤ max_live → take (pairs_at e) v ≡ take (pairs_at e) u → EndedInside e d t u → EndedInside e d t v
ended_front {e} {d} {t} {u} {v} few q x = record {
  head = record {
    fewer = x.head.fewer;
    live = at live_at (omega arith) ∙ x.head.live;
    next = at next_at (omega arith) ∙ x.head.next;
    kept = λ k l. let n = x.head.fewer in at (handle_at k) (omega arith) ∙ x.head.kept k l;
    gone = λ k h l. at (handle_at k) (omega arith) ∙ x.head.gone k h l;
  };
  firsts = λ i l. at (first_at e i) (first_at_below e i l) ∙ x.firsts i l;
  seconds = λ i l. at (second_at e i) (second_at_below e i l) ∙ x.seconds i l;
  fixed = λ i n l. at i l ∙ x.fixed i n l;
}
  where
    at : (i : ℕ) → i < pairs_at e → get_or v i 0 ≡ get_or u i 0
    at i l = sym (get_or-take (pairs_at e) v i 0 l) ∙ ap (λ (y : List ℕ). get_or y i 0) q ∙ get_or-take (pairs_at e) u i 0 l

-- ---- a restore of the domain at depth d, over a right table

module _ (m b : ℕ) (t : List ℕ) (ok : Rule m (slots_of (length t)) b t) where
  abbrev e : ℕ
  e = slots_of (length t)

  -- one that changes nothing ends nobody inside the innermost
  none_inside : EndedInside (slots_of (length t)) (live t) t t
  unfolding restore_change
  none_inside = record {
    head = record { fewer = omega arith; live = refl; next = refl; kept = λ k l. refl; gone = λ k h l. handle_unused t k (ok.handles k l) h };
    firsts = λ i l. rw (le-ltb (live t) (depth_of (word1 e t i)) (depth_high m e b t ok [] i l));
    seconds = λ i l. rw (le-ltb (live t) (depth_of (word1 e t i)) (depth_high m e b t ok [] i l));
    fixed = λ i n l. refl;
  }

  words_end : (long : pairs_at (slots_of (length t)) ≤ length t) (d : ℕ) → 1 ≤ d → d ≤ live t → EndedInside (slots_of (length t)) d t (stores (restore_words d t) t)
  words_end long d low high =
      by_bool (eqb (live t) d)
      (λ z.
      let q = eqb-true (live t) d z in
      rw (words_none t d q) (subst (λ (x : ℕ). EndedInside e x t t) q none_inside))
      (λ z.
      rw (words_some t d (eqb-false (live t) d z))
      (record {
        head = first_remain (restore_change e t d) ok long d high;
        firsts = λ i l. first_staged e (restore_change e t d) (head_words d (live t)) (ended_low d (live t) ok.live) t long i l;
        seconds = λ i l. second_staged e (restore_change e t d) (head_words d (live t)) (ended_low d (live t) ok.live) t long i l;
        fixed = λ i n l. get_or_stores (ending_words e t d (live t)) t i (apart_from (pairs_at e) i (ending_words e t d (live t)) n (end_names e t d ok.live));
      }))

-- ---- under a budget

module _ (memory bodies t : List ℕ) (yes : store_check (lent (length memory) (length bodies) t) ≡ 0) (d : ℕ) (low : 1 ≤ d) (high : d ≤ live t) where
  abbrev first : ℕ
  first = pairs_at (slots_of (length t))

  abbrev ws : List Store
  ws = restore_words d t

  -- the table after j steps of the journal
  abbrev worded : ℕ → List ℕ
  worded j = stores (take j (journal (pairs_at (slots_of (length t))) (restore_words d t))) t

  right : Rule (cells_of (length memory)) (slots_of (length t)) (bodies_of (length bodies)) t
  right = raw_rule memory bodies t yes

  idle : pending t ≡ 0
  idle = store_idle (length memory) (length bodies) t yes

  front : first ≤ length t
  front = raw_long memory bodies t yes

  fits : first + 2 * length ws ≤ length t
  fits = let n = room memory bodies t yes d low high in omega (arith, t_long memory bodies t yes)

  no_words : (j : ℕ) → length ws ≡ 0 → worded j ≡ t
  no_words j z = rw (journal_none first ws z) (sym (stores_none j t))

  whole_front : (j : ℕ) → length (journal first ws) ≤ j → take first (worded j) ≡ take first (stores ws t)
  whole_front j l =
      by_le (length ws) 0
      (λ z.
      let none : length ws ≡ 0 = omega arith in
      ap (take first) (no_words j none ∙ rw (nil ws none)))
      (λ pos.
      rw (take_all j (journal first ws) l, ← journal_some first ws pos)
      (law.whole_new first ws t (pending_at_below (slots_of (length t))) fits idle pos (names memory bodies t yes d low high)
      ∙ sym (take_stores ws t first (names_below first 0 ws (pending_at_below (slots_of (length t))) (names memory bodies t yes d low high)))))

  -- whole, the domains inside are ended
  whole_ended : (j : ℕ) → length (journal first ws) ≤ j → EndedInside (slots_of (length t)) d t (worded j)
  whole_ended j l = ended_front right.live (whole_front j l) (words_end (cells_of (length memory)) (bodies_of (length bodies)) t right front d low high)

  -- cut before the store of word 6, nobody is
  early_ended : (j : ℕ) → j ≤ 2 * length ws → EndedInside (slots_of (length t)) (live t) t (worded j)
  early_ended j l =
      by_le (length ws) 0
      (λ z. rw (no_words j (omega arith)) (none_inside (cells_of (length memory)) (bodies_of (length bodies)) t right))
      (λ pos.
      let below = pending_at_below (slots_of (length t)) in
      let named = names memory bodies t yes d low high in
      ended_front right.live
      (rw (← journal_some first ws pos)
      (sym (law.effective_idle first (law.cut first ws t below fits idle pos named j) (law.cut_idle first ws t below fits idle pos named j l))
      ∙ law.cut_old first ws t below fits idle pos named j l))
      (none_inside (cells_of (length memory)) (bodies_of (length bodies)) t right))

  -- and with nothing pending a restore that is stopped was cut so early
  idle_early : (j : ℕ) → j < length (journal first ws) → pending (worded j) ≡ 0 → j ≤ 2 * length ws
  idle_early j l z =
      by_le j (2 * length ws) (λ h. h)
      (λ h.
      absurd
      (by_le (length ws) 0
      (λ none. let n : length (journal first ws) ≡ 0 = rw (journal_none first ws (omega arith)) in omega arith)
      (λ pos.
      let p = law.cut_pending first ws t (pending_at_below (slots_of (length t))) fits idle pos (names memory bodies t yes d low high) j h
      (let n = length_journal first ws pos in omega arith) in
      let q = rw (← journal_some first ws pos) at z in
      omega arith)))

-- ---- the call

-- a live domain is all that it is asked for besides questions 1 to 4
pub check_live : (h : ℕ) (b : Buffers) → store_check (lent_of b) ≡ 0 → is_live h (state_of b) ≡ true → restore_check (lent_of b) h ≡ 0
unfolding restore_check
check_live h b good live =
    let name = raw_named b.memory b.bodies b.table good h in
    or_else_go (store_check (lent_of b)) (asked b.table h) good ∙ rw (← name, live)

module _ (h : ℕ) (b : Buffers) (pass : restore_check (lent_of b) h ≡ 0) where
  abbrev d : ℕ
  d = depth_named b.table h

  abbrev bytes : List Store
  bytes = restore_bytes (cells_of (length b.memory)) (depth_named b.table h) b.bodies b.table

  abbrev changes : List Store
  changes = restore_words (depth_named b.table h) b.table

  abbrev changed : List Store
  changed = journal (pairs_at (slots_of (length b.table))) (restore_words (depth_named b.table h) b.table)

  good : store_check (lent_of b) ≡ 0
  unfolding restore_check
  good = (or_else_both (store_check (lent_of b)) (asked b.table h) pass).0

  low : 1 ≤ depth_named b.table h
  unfolding restore_check
  low = asked_low b.table h (or_else_both (store_check (lent_of b)) (asked b.table h) pass).1

  -- report and buffers after k steps
  pub leaves_at : (k : ℕ) → outcome (restore_call h b) k b
      ≡ leaves (ended (steps_of (length bytes) (length changes)) 0 k) (buffers (stores (take k bytes) b.memory) b.bodies (stores (take (k - length bytes) changed) b.table))
  unfolding restore_call
  leaves_at k = rw pass (restore_leaves b bytes changes 0 k)

  steps_are : length bytes + length changed ≡ steps_of (length bytes) (length changes)
  steps_are = steps_needed (pairs_at (slots b)) bytes changes

  pub restore_bodies : (k : ℕ) → (outcome (restore_call h b) k b).buffers.bodies ≡ b.bodies
  restore_bodies k = ap (λ (o : Outcome). o.buffers.bodies) (leaves_at k)

  table_at : (k : ℕ) → (outcome (restore_call h b) k b).buffers.table ≡ stores (take (k - length bytes) changed) b.table
  table_at k = ap (λ (o : Outcome). o.buffers.table) (leaves_at k)

  -- done, the domains inside the named one are ended
  pub restore_ended : (k : ℕ) → (outcome (restore_call h b) k b).report.status ≡ is_done
      → EndedInside (slots_of (length b.table)) (depth_named b.table h) b.table (outcome (restore_call h b) k b).buffers.table
  restore_ended k e =
      let enough = done_enough (steps_of (length bytes) (length changes)) 0 k (ap (λ (o : Outcome). o.report.status) (sym (leaves_at k)) ∙ e) in
      rw (table_at k) (whole_ended b.memory b.bodies b.table good d low (depth_small b.table h) (k - length bytes) (omega (arith, steps_are)))

  -- stopped and with nothing pending, nobody is
  pub restore_early : (k : ℕ) → (outcome (restore_call h b) k b).report.status ≡ is_stopped → pending (outcome (restore_call h b) k b).buffers.table ≡ 0
      → EndedInside (slots_of (length b.table)) (live b.table) b.table (outcome (restore_call h b) k b).buffers.table
  restore_early k e z =
      let high = depth_small b.table h in
      rw (table_at k)
      (early_ended b.memory b.bodies b.table good d low high (k - length bytes)
      (by_le (length changed) (k - length bytes)
      (λ l.
      let over = stopped_short (steps_of (length bytes) (length changes)) 0 k (ap (λ (o : Outcome). o.report.status) (sym (leaves_at k)) ∙ e) in
      omega (arith, steps_are))
      (λ l. idle_early b.memory b.bodies b.table good d low high (k - length bytes) l (ap pending (sym (table_at k)) ∙ z))))

  -- where the named one is the innermost no word of the table is stored
  pub restore_table : (k : ℕ) → live b.table ≡ depth_named b.table h → (outcome (restore_call h b) k b).buffers.table ≡ b.table
  restore_table k q = table_at k ∙ rw (words_none b.table d q) (sym (stores_none (k - length bytes) b.table))
