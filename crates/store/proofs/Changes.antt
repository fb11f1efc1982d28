-- Every changing call: from its stores to what it means at every budget. A call owes only that its bytes spare the bodies in use, that its words may be
-- named by pairs and leave a right table, and the state of that table.
-- Assumes nothing.
use Prim.Native.Nat.{ℕ, ◌+◌, ◌-◌, ◌*◌, ◌≤◌, ◌<◌}
use mathlib.Core.Bool.{Bool, true, cond}
use mathlib.Core.List.{List, [], ◌∷◌, map}
use mathlib.Core.Option.{some}
use mathlib.Core.Path.{◌≡◌, refl, sym, ap, ap₂, subst, ◌∙◌}
use native.Mathlib.Nat.{zero-add}
use native.Mathlib.Omega.{arith}
use borrow.Author.Tests.{eq-eqb, ne_eqb, lt-ltb, le-ltb}
use lib.Dec.{ltb}
use lib.ListN.{length, take, length-append, length-map}
use lib.Seq.{take_all}
use Rattle.words.specs.Layout.{cells_of, bodies_of, slots_of, pairs_at, max_pairs}
use Rattle.words.specs.Stores.{Store, store, stores, gather}
use Rattle.words.specs.Journal.{pending, names_ok, effective, journal}
use Rattle.words.specs.Cells.{cell_bytes}
use Rattle.words.proofs.Scan.{by_le}
use Rattle.words.proofs.Plans.{Each, each_take, length_stores, stores_none, each_map, run_take_append, take_map}
use Rattle.words.proofs.Cells.{Outside, cell_kept}
use Rattle.words.proofs.Copies.{copy_of, copies_outside}
use Rattle.words.proofs.Pairs.{length_journal, journal_some, journal_none}
use Rattle.table.specs.Entry.{word2}
use Rattle.table.proofs.Rule.{Rule}
use Rattle.search.specs.Free.{body_free}
use Rattle.search.proofs.Free.{body_unused}
use Rattle.search.proofs.Value.{Copy}
use Rattle.model.specs.State.{State}
use Rattle.model.specs.Answer.{Report, ended, steps_of}
use Rattle.model.specs.Calls.{viewed, change}
use Rattle.store.specs.Outcome.{buffers, in_bodies, in_table, step, steps, outcome, leaves, perform, change_plan}
use Rattle.store.specs.Checks.{shape_check, open_check, store_check, lent}
use Rattle.store.specs.State.{state_in, state_of, standing}
use Rattle.store.proofs.Checks.{store_shape, store_idle, store_opens}
use Rattle.store.proofs.Outcome.{steps_in_table}
use Rattle.store.proofs.State.{state_kept}
use Rattle.store.proofs.Cuts.{stands_open, cut, cut_effective, cut_opens}
use Rattle.store.proofs.Means.{visible_of, store_effective, store_rule, store_state, t_long}
use Rattle.table.proofs.Marks.{owns_make}
use Rattle.store.proofs.Raw.{front_copy, front_second}

-- ---- bytes, then words, under one budget

pub steps_in_bodies : (ps : List Store) (m b t : List ℕ) → steps (map in_bodies ps) (buffers m b t) ≡ buffers m (stores ps b) t
steps_in_bodies [] m b t = refl
steps_in_bodies (p ∷ ps) m b t = steps_in_bodies ps m (store p b) t

-- the steps told by the writer, with those of the bytes before it
pub steps_needed : (first : ℕ) (bytes ws : List Store) → length bytes + length (journal first ws) ≡ steps_of (length bytes) (length ws)
steps_needed first bytes ws =
    by_le (length ws) 0
    (λ l. let z : length ws ≡ 0 = omega arith in rw (journal_none first ws z, eq-eqb (length ws) 0 z))
    (λ l. rw (length_journal first ws l, ne_eqb (length ws) 0 (λ z. omega arith)))

pub change_length : (first : ℕ) (bytes ws : List Store) → length (change_plan first bytes ws) ≡ steps_of (length bytes) (length ws)
change_length first bytes ws =
    length-append (map in_bodies bytes) (map in_table (journal first ws))
    ∙ rw (length-map, length-map) (steps_needed first bytes ws)

pub change_steps : (first k : ℕ) (bytes ws : List Store) (m b t : List ℕ)
    → steps (take k (change_plan first bytes ws)) (buffers m b t) ≡ buffers m (stores (take k bytes) b) (stores (take (k - length bytes) (journal first ws)) t)
change_steps first k bytes ws m b t =
    run_take_append step k (map in_bodies bytes) (map in_table (journal first ws)) (buffers m b t)
    ∙ rw (length-map, take_map in_bodies, take_map in_table, steps_in_bodies (take k bytes) m b t, steps_in_table (take (k - length bytes) (journal first ws)) m _ t)

-- from what a call's code did to its outcome
pub change_performed : (first need h k : ℕ) (bytes ws : List Store) (m b t b' t' : List ℕ) (r : Report)
    → need ≡ steps_of (length bytes) (length ws) → b' ≡ stores (take k bytes) b → t' ≡ stores (take (k - length bytes) (journal first ws)) t → r ≡ ended need h k
    → leaves r (buffers m b' t') ≡ outcome (perform (change_plan first bytes ws) h) k (buffers m b t)
unfolding outcome
change_performed first need h k bytes ws m b t b' t' r n p q e =
    rw (p, q, e, n, ← change_length first bytes ws, ← change_steps first k bytes ws m b t)

-- the same of a call that stores no byte of a body: its code took e for the number of slots and wrote the words ws₀
pub words_performed : (h k : ℕ) (ws : List Store) (m b t : List ℕ) {e need : ℕ} {ws₀ : List Store} {t' : List ℕ} {r : Report} → e ≡ slots_of (length t) → ws₀ ≡ ws
    → need ≡ length (journal (pairs_at e) ws₀) → t' ≡ stores (take k (journal (pairs_at e) ws₀)) t → r ≡ ended need h k
    → leaves r (buffers m b t') ≡ outcome (perform (change_plan (pairs_at (slots_of (length t))) [] ws) h) k (buffers m b t)
words_performed h k ws m b t {e} {need} {ws₀} {t'} {r} slots same steps made told =
    let z : k - 0 ≡ k = omega arith in
    change_performed (pairs_at (slots_of (length t))) need h k [] ws m b t b t' r
    (steps ∙ ap₂ (λ (x : ℕ) (l : List Store). length (journal (pairs_at x) l)) slots same ∙ sym (zero-add _) ∙ steps_needed (pairs_at (slots_of (length t))) [] ws)
    (stores_none k b)
    (made ∙ ap₂ (λ (x : ℕ) (l : List Store). stores (take k (journal (pairs_at x) l)) t) slots same ∙ rw z)
    told

-- ---- bytes that spare the bodies in use

-- a byte outside every body that a copy has
abbrev pub Spares : (e : ℕ) (t : List ℕ) → Store → Type 0
Spares e t s = (i : ℕ) → Copy e t i → Outside (word2 e t i) s

pub spared : (e : ℕ) (t : List ℕ) (bytes : List Store) (bodies : List ℕ) → Each (Spares e t) bytes → (i : ℕ) → Copy e t i
    → cell_bytes (stores bytes bodies) (word2 e t i) ≡ cell_bytes bodies (word2 e t i)
spared e t bytes bodies free i c = cell_kept bytes bodies (word2 e t i) (each_map (Spares e t) (Outside (word2 e t i)) bytes (λ s f. f i c) free)

-- the words in front of the pairs tell which they are
pub front_spares : (e : ℕ) (t : List ℕ) (bytes : List Store) → Each (Spares e t) bytes → Each (Spares e (take (pairs_at e) t)) bytes
front_spares e t bytes free =
    each_map (Spares e t) (Spares e (take (pairs_at e) t)) bytes
    (λ s f i c. subst (λ (k : ℕ). Outside k s) (sym (front_second e t i c.slot)) (f i (front_copy e t i c))) free

-- cells copied into free bodies
each_spares : (e : ℕ) (t : List ℕ) (bytes : List Store) → ((i : ℕ) → Copy e t i → Each (Outside (word2 e t i)) bytes) → Each (Spares e t) bytes
each_spares e t [] h = tt
each_spares e t (s ∷ bytes) h = ((λ i c. (h i c).0), each_spares e t bytes (λ i c. (h i c).1))

pub copies_spare : (e : ℕ) (t memory : List ℕ) (wants : ℕ → Bool) (from to : ℕ → ℕ) (n : ℕ) → ((j : ℕ) → j < n → wants j ≡ true → body_free e t (to j) ≡ true)
    → Each (Spares e t) (gather n (copy_of memory wants from to))
copies_spare e t memory wants from to n free =
    each_spares e t (gather n (copy_of memory wants from to)) (λ i c.
    copies_outside memory wants from to n (word2 e t i) (λ j l w q. body_unused e t (to j) (free j l w) i c.slot (owns_make _ c.used c.copy c.plain) q))

-- ---- the call at every budget

module _ (memory bodies t : List ℕ) (yes : store_check (lent (length memory) (length bodies) t) ≡ 0) (bytes ws : List Store)
    (spare : Each (Spares (slots_of (length t)) (take (pairs_at (slots_of (length t))) t)) bytes)
    (few : length ws ≤ max_pairs (slots_of (length t))) (names : names_ok (pairs_at (slots_of (length t))) 0 ws ≡ true)
    (next : Rule (cells_of (length memory)) (slots_of (length t)) (bodies_of (length bodies)) (stores ws (take (pairs_at (slots_of (length t))) t))) where
  abbrev e : ℕ
  e = slots_of (length t)

  abbrev first : ℕ
  first = pairs_at (slots_of (length t))

  abbrev head : List ℕ
  head = take (pairs_at (slots_of (length t))) t

  idle : pending t ≡ 0
  idle = store_idle (length memory) (length bodies) t yes

  right : Rule (cells_of (length memory)) (slots_of (length t)) (bodies_of (length bodies)) head
  right = store_rule memory bodies t yes

  -- the bodies after some of the bytes
  abbrev pub filled : ℕ → List ℕ
  filled k = stores (take k bytes) bodies

  -- and the table after some of the words
  abbrev pub worded : ℕ → List ℕ
  worded j = stores (take j (journal (pairs_at (slots_of (length t))) ws)) t

  -- bytes in free bodies do not matter to the old table
  pub old_state : (k : ℕ) → state_in (slots_of (length t)) (take (pairs_at (slots_of (length t))) t) (filled k) ≡ state_of (buffers memory bodies t)
  old_state k =
      state_kept (cells_of (length memory)) e (bodies_of (length bodies)) head head bodies (filled k) right (λ i l. refl) (λ i c. refl)
      (spared e head (take k bytes) bodies (each_take (Spares e head) k bytes spare)) refl refl (λ k l. refl)
      ∙ sym (store_state memory bodies t yes)

  same_bytes : (k : ℕ) → length (filled k) ≡ length bodies
  same_bytes k = length_stores (take k bytes) bodies

  -- at every cut the table can be opened, and its effective table is the old one or the new one
  module _ (some-change : 0 < length ws) where
    shape : shape_check (lent (length memory) (length bodies) t) ≡ 0
    shape = store_shape (length memory) (length bodies) t yes

    cut_is : (j : ℕ) → worded j ≡ cut (length memory) (length bodies) t ws shape (t_long memory bodies t yes) idle some-change few names right next j
    cut_is j = rw (← journal_some first ws some-change)

    pub worded_opens : (j : ℕ) → open_check (lent (length memory) (length bodies) (worded j)) ≡ 0
    worded_opens j = rw (cut_is j) (cut_opens (length memory) (length bodies) t ws shape (t_long memory bodies t yes) idle some-change few names right next j)

    pub worded_effective : (j : ℕ) → effective (pairs_at (slots_of (length t))) (worded j) ≡ cond (ltb (2 * length ws) j) (stores ws (take (pairs_at (slots_of (length t))) t)) (take (pairs_at (slots_of (length t))) t)
    worded_effective j = rw (cut_is j) (cut_effective (length memory) (length bodies) t ws shape (t_long memory bodies t yes) idle some-change few names right next j)

  worded_length : (j : ℕ) → length (worded j) ≡ length t
  worded_length j = length_stores (take j (journal first ws)) t

  stands_some : (k j : ℕ) → 0 < length ws → standing (buffers memory (filled k) (worded j))
      ≡ some (state_in (slots_of (length t)) (cond (ltb (2 * length ws) j) (stores ws (take (pairs_at (slots_of (length t))) t)) (take (pairs_at (slots_of (length t))) t)) (filled k))
  stands_some k j pos =
      stands_open memory (filled k) (worded j) (rw (same_bytes k) (worded_opens pos j))
      ∙ rw (worded_length j, worded_effective pos j)

  stands_none : (k j : ℕ) → length ws ≡ 0 → standing (buffers memory (filled k) (worded j)) ≡ some (state_in (slots_of (length t)) (take (pairs_at (slots_of (length t))) t) (filled k))
  stands_none k j z =
      let same : worded j ≡ t = rw (journal_none first ws z) (sym (stores_none j t)) in
      let opens : open_check (lent (length memory) (length (filled k)) t) ≡ 0 = rw (same_bytes k) (store_opens (length memory) (length bodies) t yes) in
      rw same (stands_open memory (filled k) t opens ∙ rw (store_effective memory bodies t yes))

  module _ (h : ℕ) (after : State) (becomes : state_in (slots_of (length t)) (stores ws (take (pairs_at (slots_of (length t))) t)) (stores bytes bodies) ≡ after) where
    pub change_standing : (k : ℕ) → standing (buffers memory (filled k) (worded (k - length bytes)))
        ≡ some (cond (ltb (length bytes + 2 * length ws) k) after (state_of (buffers memory bodies t)))
    change_standing k =
        by_le k (length bytes + 2 * length ws)
        (λ l.
        rw (le-ltb (length bytes + 2 * length ws) k l)
        (by_le (length ws) 0
        (λ z. stands_none k (k - length bytes) (omega arith) ∙ ap some (old_state k))
        (λ pos. stands_some k (k - length bytes) pos ∙ rw (le-ltb (2 * length ws) (k - length bytes) (omega arith)) (ap some (old_state k)))))
        (λ l.
        let full : filled k ≡ stores bytes bodies = rw (take_all k bytes (omega arith)) in
        rw (lt-ltb (length bytes + 2 * length ws) k l)
        (by_le (length ws) 0
        (λ z.
        let nil : ws ≡ [] = empty ws (omega arith) in
        let same : state_in e (stores ws head) (stores bytes bodies) ≡ state_in e head (filled k) = rw (nil, full) in
        stands_none k (k - length bytes) (omega arith) ∙ ap some (sym same ∙ becomes))
        (λ pos.
        stands_some k (k - length bytes) pos
        ∙ rw (lt-ltb (2 * length ws) (k - length bytes) (omega arith), full) (ap some becomes))))
      where
        empty : (xs : List Store) → length xs ≡ 0 → xs ≡ []
        empty [] z = refl
        empty (x ∷ xs) z = absurd (omega arith)

    -- what is to be seen of the call at budget k is what its effect says
    pub change_seen : (k : ℕ) → visible_of (outcome (perform (change_plan (pairs_at (slots_of (length t))) bytes ws) h) k (buffers memory bodies t))
        ≡ viewed (change (length bytes) (length ws) h after) k (state_of (buffers memory bodies t)) memory
    unfolding outcome
    change_seen k = rw (change_steps first k bytes ws memory bodies t, change_length first bytes ws, change_standing k)
