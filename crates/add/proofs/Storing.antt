-- What is staged once every cell is taken and every label raised is the call's change of the entries. Assumes nothing.
use Prim.Native.Nat.{ℕ, ◌+◌, ◌-◌, ◌≤◌, ◌<◌}
use mathlib.Core.Bool.{Bool, true, false}
use mathlib.Core.List.{List}
use mathlib.Core.Path.{◌≡◌, refl, sym, ap, ◌∙◌}
use native.Mathlib.Omega.{arith}
use borrow.Author.Tests.{eq-eqb, eqb-true, eqb-false, lt-ltb, le-ltb, ltb-true, not-true}
use lib.Dec.{ltb, eqb}
use lib.ListN.{length, take}
use Rattle.words.specs.Layout.{cells_of, bodies_of, slots_of, pairs_at}
use Rattle.words.specs.Scan.{count, nth}
use Rattle.words.specs.Stores.{stores, gather}
use Rattle.words.specs.Journal.{journal}
use Rattle.words.proofs.Scan.{by_bool, by_le, is_false, true≢}
use Rattle.words.proofs.Nth.{count_mono, nth_below}
use Rattle.words.proofs.Gather.{gather_ext}
use Rattle.ranges.specs.declared.Range.{Range}
use Rattle.ranges.specs.Ranges.{label_for}
use Rattle.table.specs.Entry.{live, word1, word2, cell_of}
use Rattle.table.proofs.Entry.{find_some, holds_true}
use Rattle.table.specs.Marks.{EndsAt}
use Rattle.table.specs.Changes.{Change, keep, put, entry_stores, entry_changes}
use Rattle.search.specs.Free.{slot_free}
use Rattle.search.proofs.Taking.{taken_free, lowest_free_lem, lowest_taken, lowest_taker}
use Rattle.changes.specs.Staged.{Stages, Journaled}
use Rattle.changes.proofs.Staging.{stages_skip, stages_ext, stages_but}
use Rattle.model.specs.Answer.{steps_of}
use Rattle.store.proofs.Changes.{steps_needed}
use Rattle.add.specs.Add.{is_new, rises, raise_change, cell_for, change_with, slot_for, body_for, add_words, add_bytes}
use Rattle.add.specs.Walking.{lacks, bytes_at, take_change, list_change, CellsTold, Stand, Takeable, Standing, Copied, Restages, bytes_of, words_of}
use Rattle.add.proofs.Choices.{rises_facts, rises_free, raise_no}
use Rattle.add.proofs.Taken.{slots_enough}

-- ---- every cell is taken

module _ (memory bodies t : List ℕ) (rs : List Range) (w : Stand) (words bits : List ℕ) (s : Standing memory bodies t rs w words bits)
    (whole : w.at ≡ cells_of (length memory)) where
  abbrev e : ℕ
  e = slots_of (length t)

  abbrev b : ℕ
  b = bodies_of (length bodies)

  abbrev m : ℕ
  m = cells_of (length memory)

  -- no slot behind takes one
  rest_kept : (i : ℕ) → w.slot ≤ i → i < e → take_change m e b t rs i ≡ keep
  unfolding take_change
  rest_kept i low high =
      let many = count_mono (slot_free e t) w.slot i low in
      let full : count m (is_new e t rs) ≤ count i (slot_free e t) = omega (arith, many, s.slots, ap (λ (x : ℕ). count x (is_new e t rs)) whole) in
      by_bool (slot_free e t i) (λ p. rw (p, le-ltb (count i (slot_free e t)) (count m (is_new e t rs)) full)) (λ p. rw p)

  take_kept : (i : ℕ) → slot_free e t i ≡ false → take_change m e b t rs i ≡ keep
  unfolding take_change
  take_kept i p = rw p

  pub taken_all : Stages (slots_of (length t)) (list_change (cells_of (length memory)) (slots_of (length t)) (bodies_of (length bodies)) t rs 0) words bits
  unfolding list_change
  taken_all =
      stages_ext (stages_skip e s.staged s.slot (λ i p q. rest_kept i p q))
      (λ i l. by_bool (slot_free e t i) (λ p. rw p) (λ p. rw (p, le-ltb i 0 (omega arith)) (take_kept i p)))

-- ---- the labels

module _ (e : ℕ) (t : List ℕ) (rs : List Range) (inner : 1 ≤ live t) where
  abbrev raise : ℕ → Change
  raise i = raise_change (live t) rs (word1 e t i) (word2 e t i)

  free_keeps : (i : ℕ) → slot_free e t i ≡ true → raise i ≡ keep
  free_keeps i p = raise_no (live t) rs (word1 e t i) (word2 e t i) (rw (eqb-true (word1 e t i) 0 p) (rises_free (live t) rs inner))

  module _ (m b : ℕ) where
    abbrev f : ℕ → ℕ → Change
    f n i = list_change m e b t rs n i

    -- one entry more: the others are as they were
    other : (n j : ℕ) → (j ≡ n → ⊥) → list_change m e b t rs n j ≡ list_change m e b t rs (n + 1) j
    unfolding list_change
    other n j d =
        by_le n j
        (λ l. rw (le-ltb j n l, le-ltb j (n + 1) (omega arith)))
        (λ l. rw (lt-ltb j n l, lt-ltb j (n + 1) (omega arith)))

    own : (n : ℕ) → slot_free e t n ≡ false → list_change m e b t rs (n + 1) n ≡ raise n
    unfolding list_change
    own n p = rw (p, lt-ltb n (n + 1) (omega arith))

    own_before : (n : ℕ) → slot_free e t n ≡ false → list_change m e b t rs n n ≡ keep
    unfolding list_change
    own_before n p = rw (p, le-ltb n n (omega arith))

    own_free : (n x : ℕ) → slot_free e t n ≡ true → list_change m e b t rs x n ≡ take_change m e b t rs n
    unfolding list_change
    own_free n x p = rw p

    same_but : (n : ℕ) → (slot_free e t n ≡ false → raise n ≡ keep) → (j : ℕ) → list_change m e b t rs n j ≡ list_change m e b t rs (n + 1) j
    same_but n still j =
        by_bool (eqb j n)
        (λ q.
        rw (eqb-true j n q)
        (by_bool (slot_free e t n)
        (λ p. own_free n n p ∙ sym (own_free n (n + 1) p))
        (λ p. own_before n p ∙ sym (own n p ∙ still p))))
        (λ q. other n j (eqb-false j n q))

    pub raise_turn : (n : ℕ) (words bits words' bits' : List ℕ) → n < e → Restages n (raise_change (live t) rs (word1 e t n) (word2 e t n)) words bits words' bits'
        → Stages e (list_change m e b t rs n) words bits → Stages e (list_change m e b t rs (n + 1)) words' bits'
    raise_turn n words bits words' bits' h r s = by_change (raise n) refl
      where
        by_change : (c : Change) → raise n ≡ c → Stages e (list_change m e b t rs (n + 1)) words' bits'
        by_change keep q =
            let k = r.kept q in
            rw (k.0, k.1) (stages_ext s (λ i l. same_but n (λ p. q) i))
        by_change (put w v) q =
            let used : slot_free e t n ≡ false = is_false (slot_free e t n) (λ p. never w v (sym q ∙ free_keeps n p)) in
            stages_ext (stages_but s h (r.put w v q))
            (λ j l.
            by_bool (eqb j n)
            (λ z. rw (z, eqb-true j n z) (sym (own n used ∙ q)))
            (λ z. rw z (other n j (eqb-false j n z))))
          where
            never : (w v : ℕ) → put w v ≡ keep → ⊥
            never w v z = let x : ◌≡◌ {A = ℕ} 0 1 = cc in omega arith

    -- from `top` on every entry is free
    pub raise_end : (top : ℕ) (words bits : List ℕ) → EndsAt e t top → Stages e (list_change m e b t rs top) words bits → Stages e (list_change m e b t rs e) words bits
    unfolding list_change
    raise_end top words bits ends s =
        stages_ext s
        (λ i l.
        by_le top i
        (λ y. rw (eq-eqb (word1 e t i) 0 (ends.1 i y l).0))
        (λ y. rw (lt-ltb i top y, lt-ltb i e l)))

    -- none rises where no cell of a read-write range is held
    pub raise_none : (held words bits : List ℕ) → CellsTold e t held → ((c : ℕ) → label_for rs c ≡ 1 → lacks held (live t) c ≡ true)
        → Stages e (list_change m e b t rs 0) words bits → Stages e (list_change m e b t rs e) words bits
    unfolding list_change
    raise_none held words bits marks still s =
        stages_ext s
        (λ i l.
        let quiet : raise i ≡ keep = raise_no (live t) rs (word1 e t i) (word2 e t i)
        (is_false (rises (live t) rs (word1 e t i))
        (λ y.
        let g = rises_facts (live t) rs (word1 e t i) y in
        let c = cell_of (word1 e t i) in
        let there = find_some e t (live t) c i l g.depth refl in
        true≢ (holds_true e t (live t) c (omega (arith, there, l))) (sym (marks (live t) c inner) ∙ not-true _ (still c g.label)))) in
        by_bool (slot_free e t i) (λ p. rw p) (λ p. rw (p, le-ltb i 0 (omega arith), lt-ltb i e l, quiet)))

-- ---- the call's words

module _ (memory bodies t held used : List ℕ) (rs : List Range) (a : Takeable memory bodies t held used rs) where
  abbrev slots : ℕ
  slots = slots_of (length t)

  abbrev places : ℕ
  places = bodies_of (length bodies)

  abbrev cells : ℕ
  cells = cells_of (length memory)

  abbrev new : ℕ → Bool
  new = is_new (slots_of (length t)) t rs

  abbrev free : ℕ → Bool
  free = slot_free (slots_of (length t)) t

  enough : count cells new ≤ count slots free
  enough = slots_enough memory bodies t held used rs a

  -- the r-th free slot takes the r-th new cell
  change_same : (i : ℕ) → i < slots → list_change cells slots places t rs slots i ≡ change_with cells slots t rs (slot_for slots t rs) (body_for slots places t rs) i
  unfolding list_change take_change change_with
  change_same i h =
      by_bool (free i)
      (λ p.
      by_bool (ltb (count i free) (count cells new))
      (λ q.
      let lt = ltb-true (count i free) (count cells new) q in
      let at = lowest_taker cells new slots free enough i h p lt in
      rw (p, q, at, lt-ltb (nth cells new (count i free)) cells (nth_below cells new (count i free) lt)))
      (λ q.
      let none-takes : ltb (cell_for cells slots t rs (slot_for slots t rs) i) cells ≡ false = is_false _ (λ y. true≢ (lt-ltb (count i free) (count cells new) (lowest_taken cells new slots free enough i y)) q) in
      rw (p, q, none-takes, free_keeps slots t rs a.ready.inner i p)))
      (λ p.
      let none-takes : ltb (cell_for cells slots t rs (slot_for slots t rs) i) cells ≡ false = is_false _ (λ y. true≢ (taken_free (lowest_free_lem cells new slots free enough) i y) p) in
      rw (p, none-takes, lt-ltb i slots h))

  pub words_same : entry_changes (slots_of (length t)) (list_change (cells_of (length memory)) (slots_of (length t)) (bodies_of (length bodies)) t rs (slots_of (length t)))
      ≡ words_of memory bodies t rs
  unfolding add_words
  words_same = gather_ext slots _ _ (λ i l. ap (entry_stores slots i) (change_same i l))

-- ---- the call's bytes

module _ (memory t : List ℕ) (rs : List Range) (budget : ℕ) (w : Stand) (bodies bodies' : List ℕ)
    (c : Copied memory t rs budget (record { at = 0; slot = 0; body = 0; made = 0 }) w bodies bodies') (whole : w.at ≡ cells_of (length memory)) where
  all_bytes : gather (w.at - 0) (λ j. bytes_at (bodies_of (length bodies)) memory t rs (0 + j)) ≡ bytes_of memory bodies t rs
  unfolding add_bytes
  all_bytes =
      let n : w.at - 0 ≡ cells_of (length memory) = omega arith in
      rw n (gather_ext (cells_of (length memory)) _ _ (λ j l. ap (bytes_at (bodies_of (length bodies)) memory t rs) (front j)))
    where
      front : (j : ℕ) → 0 + j ≡ j
      front j = omega arith

  pub bytes_made : w.made ≡ length (bytes_of memory bodies t rs)
  bytes_made = c.made ∙ rw all_bytes (omega arith)

  pub bytes_stored : bodies' ≡ stores (take budget (bytes_of memory bodies t rs)) bodies
  bytes_stored = c.bytes ∙ rw all_bytes (let z : budget - 0 ≡ budget = omega arith in rw z)

-- of the words, behind so many bytes
module _ (memory bodies t : List ℕ) (rs : List Range) (made : ℕ) (q : made ≡ length (bytes_of memory bodies t rs)) (left steps : ℕ) (t' : List ℕ)
    (j : Journaled (slots_of (length t)) (words_of memory bodies t rs) left t steps t') where
  pub stored_words : (budget : ℕ) → left ≡ budget - made
      → t' ≡ stores (take (budget - length (bytes_of memory bodies t rs)) (journal (pairs_at (slots_of (length t))) (words_of memory bodies t rs))) t
  stored_words budget s = j.words ∙ rw (s, q)

  pub stored_steps : made + steps ≡ steps_of (length (bytes_of memory bodies t rs)) (length (words_of memory bodies t rs))
  stored_steps = rw (q, j.made) (steps_needed (pairs_at (slots_of (length t))) (bytes_of memory bodies t rs) (words_of memory bodies t rs))
