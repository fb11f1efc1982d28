-- Laws of the questions asked of the entries, and of the list by which the code settles which body each cell gets. Assumes nothing.
use Prim.Native.Nat.{ℕ, ◌+◌, ◌≤◌, ◌<◌}
use mathlib.Core.Bool.{Bool, true, false, cond, not, ◌&&◌}
use mathlib.Core.List.{List, []}
use mathlib.Core.Path.{◌≡◌, refl, sym, ap, subst, ◌∙◌}
use native.Mathlib.Omega.{arith}
use borrow.Author.Tests.{eq-eqb, eqb-true, leb-true, lt-ltb}
use lib.Dec.{leb, ltb, eqb}
use lib.ListN.{length, get_or}
use Rattle.words.specs.Layout.{max_cells, cells_of, bodies_of, slots_of}
use Rattle.words.specs.Scan.{count, nth}
use Rattle.words.specs.Stores.{gather}
use Rattle.words.specs.Cells.{cell_plan}
use Rattle.words.proofs.Scan.{by_bool, by_le, is_false, is_true, true≢, and_split, and_join, count_ext, count_le, count_none, count_stop}
use Rattle.words.proofs.Gather.{gather_ext}
use Rattle.words.proofs.Nth.{count_below, nth_holds, nth_rank, nth_ext}
use Rattle.table.specs.Entry.{live, word1, word2, depth_of, writable_of, cell_of, innermost, parent, has_parent, find_in, holds_in, writes_in}
use Rattle.table.specs.Marks.{Marks, Marked, FreeRun, EndsAt, IsCopy, cell_in}
use Rattle.table.proofs.Entry.{names_make, holds_true}
use Rattle.table.proofs.Rule.{Rule, ok_facts}
use Rattle.table.proofs.Single.{only_one, find_self}
use Rattle.table.proofs.Marks.{marked_holds}
use Rattle.search.specs.Free.{body_free, used_slots, copies, lowest_free, unmarked}
use Rattle.search.proofs.Free.{unmarked_free}
use Rattle.values.specs.Values.{unchanged, writes, entry_changed}
use Rattle.changes.specs.Staged.{is_set, Inside}
use Rattle.model.specs.Answer.{ask}
use Rattle.store.specs.Outcome.{Buffers, buffers}
use Rattle.advance.specs.Advance.{advances, parent_lacks, gives, body_for, turns, turns_at, turn_with, advance_bytes}
use Rattle.advance.specs.Notes.{entry_given, entries_check, gives_it, Comparable, by_group, has_bit, TurnedBits, ChangedBits, ListedSlots, rank_of, InOrder, change_to}
use Rattle.advance.proofs.Turning.{entry_of, advances_of, advances_cell, gives_goes, turning_count}
use Rattle.advance.proofs.Choosing.{enough}
use Rattle.advance.proofs.Listing.{gather_listed}

-- ---- free entries, at which no pass need look

module _ (e : ℕ) (t : List ℕ) (top : ℕ) (within : top ≤ e) (free : FreeRun e t top e) where
  free_read_only : (n : ℕ) → writes n 0 ≡ false
  free_read_only n = is_false (writes n 0) (λ y. true≢ (and_split (eqb (depth_of 0) n) (eqb (writable_of 0) 1) y).1 refl)

  free_writes : (n k : ℕ) → top ≤ k → k < e → writes n (word1 e t k) ≡ false
  free_writes n k l h = ap (writes n) (free k l h).0 ∙ free_read_only n

  -- none of them advances
  module _ (memory bodies : List ℕ) (n : ℕ) where
    free_stays : (k : ℕ) → top ≤ k → k < e → entry_changed memory bodies e t n k ≡ false
    free_stays k l h = rw (free_writes n k l h)

    pub advancing_front : count top (entry_changed memory bodies e t n) ≡ count e (entry_changed memory bodies e t n)
    advancing_front = sym (count_stop e top (entry_changed memory bodies e t n) within free_stays)

    pub turned_front : (groups : List ℕ) → TurnedBits e t (entry_changed memory bodies e t n) top groups → TurnedBits e t (entry_changed memory bodies e t n) e groups
    turned_front groups m =
        record {
          clear = λ c h j l u q. m.clear c h j (by_le top j (λ far. absurd (true≢ u (free_stays j far l))) (λ near. near)) u q;
          found = λ c h. let f = m.found c h in (f.0, omega (arith, f.1), f.2, f.3);
        }

  -- an entry that turns is in front of them
  module _ (n : ℕ) (low : 1 ≤ n) (f : ℕ → Bool) where
    pub turns_front : (i : ℕ) → i < e → turns n f (word1 e t i) ≡ true → i < top
    turns_front i l y =
        by_le top i
        (λ far.
        let depth : depth_of (word1 e t i) ≡ n = eqb-true _ _ (and_split (eqb (depth_of (word1 e t i)) n) (f (cell_of (word1 e t i))) y).0 in
        absurd (omega (arith, depth, (free i far l).0, low)))
        (λ near. near)

    pub turning_few : count e (λ i. turns n f (word1 e t i)) ≤ top
    turning_few =
        omega (
          arith,
          count_stop e top (λ i. turns n f (word1 e t i)) within (λ k l h. is_false (turns n f (word1 e t k)) (λ y. let near = turns_front k h y in omega arith)),
          count_le top (λ i. turns n f (word1 e t i)),
        )

    pub listed_front : (places : List ℕ) → ListedSlots e t n f top places → ListedSlots e t n f e places
    listed_front places old = record { place = λ i l z. old.place i (turns_front i l z) z }

-- ---- the questions, asked of the entries

-- questions 16 and 17, of the cells
abbrev pub cells_check : Buffers → ℕ
cells_check b =
    let t = b.table in
    let e = slots_of (length t) in
    ask (leb (used_slots e t + count (cells_of (length b.memory)) (gives b)) e) 16
    (ask (leb (copies e t + count (cells_of (length b.memory)) (advances b)) (bodies_of (length b.bodies))) 17 0)

module _ (m e b : ℕ) (t : List ℕ) (ok : Rule m e b t) (low : 1 ≤ live t) where
  -- the entries of which an entry's own words tell that they advance are those of the innermost domain whose cells do: first of the label
  writes_cell : (i : ℕ) → i < e → writes (live t) (word1 e t i) ≡ turns_at e t (writes_in e t (live t)) i
  writes_cell i l =
      let w = word1 e t i in
      let c = cell_of w in
      by_bool (eqb (depth_of w) (live t))
      (λ y.
      let depth = eqb-true (depth_of w) (live t) y in
      let at : find_in e t (live t) c ≡ i = subst (λ (d : ℕ). find_in e t d c ≡ i) depth (find_self m e b t ok i l (λ z. omega (arith, low, z, depth))) in
      rw (y, holds_true e t (live t) c (rw at l), at))
      (λ y. rw y)

  -- the bits that the entries that advance set tell which these are: no two entries of one depth have one cell
  module _ (memory bodies groups : List ℕ) (bits : TurnedBits e t (entry_changed memory bodies e t (live t)) e groups) where
    goes_deep : (i : ℕ) → entry_changed memory bodies e t (live t) i ≡ true → depth_of (word1 e t i) ≡ live t
    goes_deep i z =
        let w = word1 e t i in
        eqb-true _ _ (and_split (eqb (depth_of w) (live t)) (eqb (writable_of w) 1) (and_split (writes (live t) w) _ z).0).0

    turned_same : (i : ℕ) → i < e → turns (live t) (is_set groups) (word1 e t i) ≡ entry_changed memory bodies e t (live t) i
    turned_same i l =
        let w = word1 e t i in
        by_bool (entry_changed memory bodies e t (live t) i)
        (λ z.
        and_join _ _ (eq-eqb _ _ (goes_deep i z)) (is_true (is_set groups (cell_of w)) (λ y. bits.clear (cell_of w) y i l z refl)) ∙ sym z)
        (λ z.
        is_false (turns (live t) (is_set groups) w) (λ y.
        let s = and_split (eqb (depth_of w) (live t)) (is_set groups (cell_of w)) y in
        let k = bits.found (cell_of w) s.1 in
        let j = k.0 in
        let same : i ≡ j = only_one m e b t ok i j (live t) (cell_of w) low l k.1 (names_make e t (live t) (cell_of w) w (eqb-true _ _ s.0) refl)
        (names_make e t (live t) (cell_of w) (word1 e t j) (goes_deep j k.2) k.3) in
        true≢ (subst (λ (x : ℕ). entry_changed memory bodies e t (live t) x ≡ true) (sym same) k.2) z)
        ∙ sym z)

    -- with the marks of the cells held they tell how many cells are given outwards
    given_told : (seen : List ℕ) → Marked e t e seen
        → cond (has_parent (live t)) (count e (λ i. gives_it seen (live t) (is_set groups) (word1 e t i))) 0 ≡ count e (entry_given memory bodies e t)
    given_told seen marked =
        by_bool (has_parent (live t))
        (λ y.
        let two = leb-true 2 (live t) y in
        rw y
        (count_ext e (λ i. gives_it seen (live t) (is_set groups) (word1 e t i)) (entry_given memory bodies e t)
        (λ i l.
        let c = cell_of (word1 e t i) in
        (λ k. turned_same i l k && not (marked_holds e t seen marked (parent (live t)) c (omega arith) k))
        ∙ ap (λ (x : Bool). entry_changed memory bodies e t (live t) i && (x && not (holds_in e t (parent (live t)) c))) (sym y))))
        (λ y. rw y (sym (count_none e (entry_given memory bodies e t) (λ i l. by_bool (entry_changed memory bodies e t (live t) i) (λ z. rw (z, y)) (λ z. rw z)))))

-- the same where what comparing asks is there
pub given_entries : (memory bodies : List ℕ) (e : ℕ) (t : List ℕ) (top : ℕ) (seen bits : List ℕ) → Comparable memory bodies e t top (live t) seen
    → ChangedBits memory bodies e t (live t) seen bits
    → cond (has_parent (live t)) (count e (λ i. gives_it seen (live t) (has_bit seen bits) (word1 e t i))) 0 ≡ count e (entry_given memory bodies e t)
given_entries memory bodies e t top seen bits p changed =
    let m = cells_of (length memory) in
    let b = bodies_of (length bodies) in
    given_told m e b t (ok_facts m e b t p.right) p.low memory bodies (by_group seen bits) changed.turned seen p.marked

-- ---- the list, for any cells that the innermost domain holds read-write

module _ (m e b : ℕ) (t : List ℕ) (ok : Rule m e b t) (low : 1 ≤ live t) (f : ℕ → Bool) (own : (c : ℕ) → f c ≡ true → writes_in e t (innermost t) c ≡ true) where
  module _ (groups : List ℕ) (bits : (c : ℕ) → is_set groups c ≡ f c) where
    -- no cell behind memory has a bit, so that there are as many bits as cells that advance
    pub bits_count : m ≤ max_cells → count max_cells (is_set groups) ≡ count m f
    bits_count high =
        count_ext max_cells (is_set groups) f (λ k l. bits k)
        ∙ count_stop max_cells m f high (λ c l h. is_false (f c) (λ a. let inside = advances_cell m e b t ok f own c a in omega arith))

    pub bits_inside : Inside m groups
    bits_inside c h = advances_cell m e b t ok f own c (sym (bits c) ∙ h)

    module _ (n : ℕ) (places : List ℕ) (number : n ≡ count m f) (list : ListedSlots e t (live t) (is_set groups) e places) where
      entry_place : (i : ℕ) → i < e → turns_at e t f i ≡ true → get_or places (rank_of e t f i) 0 ≡ i
      entry_place i l z =
          ap (λ (x : ℕ). get_or places x 0) (sym (count_ext (cell_in e t i) (is_set groups) f (λ c h. bits c)))
          ∙ list.place i l (ap (λ (x : Bool). eqb (depth_of (word1 e t i)) (live t) && x) (bits (cell_in e t i)) ∙ z)

      -- the entry that stands at place r
      at_place : (r : ℕ) → r < n → (i : ℕ) × (i < e) × (turns_at e t f i ≡ true) × (rank_of e t f i ≡ r) × (get_or places r 0 ≡ i)
      at_place r l =
          let in_all : r < count m f = omega arith in
          let s = entry_of m e b t ok f own (nth m f r) (nth_holds m f r in_all) in
          let rank : rank_of e t f s.0 ≡ r = ap (λ (c : ℕ). count c f) s.3 ∙ nth_rank m f r in_all in
          (s.0, s.1, s.2, rank, ap (λ (x : ℕ). get_or places x 0) (sym rank) ∙ entry_place s.0 s.1 s.2)

      pub in_order : InOrder e t f n places
      in_order = record {
        slot = λ r l. let s = at_place r l in rw s.4 s.1;
        goes = λ r l. let s = at_place r l in rw s.4 s.2;
        rank = λ r l. let s = at_place r l in rw s.4 s.3;
        place = entry_place;
      }

  -- every cell listed is one of memory's
  pub listed_inside : (n : ℕ) (places : List ℕ) → InOrder e t f n places → (r : ℕ) → r < n → cell_in e t (get_or places r 0) < m
  listed_inside n places list r l =
      advances_cell m e b t ok f own (cell_in e t (get_or places r 0)) (advances_of m e b t ok f own low (get_or places r 0) (list.goes r l))

-- ---- the bodies: there is one for each cell that advances
pub room_unmarked : (m e b : ℕ) (t used : List ℕ) (f : ℕ → Bool) → Rule m e b t → copies e t + count m f ≤ b → Marks (IsCopy e t) (word2 e t) 1 e used → count m f ≤ count b (unmarked used)
room_unmarked m e b t used f ok room marks =
    let y = count_ext b (unmarked used) (body_free e t) (λ k h. unmarked_free e t used marks k) in
    let z = enough m e b t ok f room in
    omega arith

-- ---- the cells that advance

and_assoc : (x y z : Bool) → (x && y && z) ≡ (x && (y && z))
and_assoc true y z = refl
and_assoc false y z = refl

-- the innermost domain holds each of them read-write
pub advances_own : (b : Buffers) (c : ℕ) → advances b c ≡ true → writes_in (slots_of (length b.table)) b.table (live b.table) c ≡ true
advances_own b c h = (and_split (writes_in (slots_of (length b.table)) b.table (live b.table) c) _ h).0

module _ (memory bodies t : List ℕ) (ok : Rule (cells_of (length memory)) (slots_of (length t)) (bodies_of (length bodies)) t) (low : 1 ≤ live t) where
  abbrev m : ℕ
  m = cells_of (length memory)

  abbrev e : ℕ
  e = slots_of (length t)

  abbrev b : ℕ
  b = bodies_of (length bodies)

  abbrev f : ℕ → Bool
  f = advances (buffers memory bodies t)

  abbrev goes : ℕ → Bool
  goes = entry_changed memory bodies e t (live t)

  -- of an entry its own words tell whether its cell advances
  goes_cell : (i : ℕ) → i < e → goes i ≡ turns_at e t f i
  goes_cell i l =
      ap (λ (x : Bool). x && not (unchanged memory bodies e t (live t) (cell_in e t i))) (writes_cell m e b t ok low i l)
      ∙ and_assoc (eqb (depth_of (word1 e t i)) (live t)) (writes_in e t (live t) (cell_in e t i)) _

  goes_count : count e goes ≡ count m f
  goes_count = count_ext e goes (turns_at e t f) goes_cell ∙ turning_count m e b t ok f (advances_own (buffers memory bodies t)) low

  -- and so with those that are given outwards
  given_cell : (i : ℕ) → i < e → entry_given memory bodies e t i ≡ turns_at e t (gives (buffers memory bodies t)) i
  given_cell i l =
      ap (λ (x : Bool). x && parent_lacks e t (live t) (cell_in e t i)) (goes_cell i l)
      ∙ and_assoc (eqb (depth_of (word1 e t i)) (live t)) (f (cell_in e t i)) _

  pub given_count : count (slots_of (length t)) (entry_given memory bodies (slots_of (length t)) t) ≡ count (cells_of (length memory)) (gives (buffers memory bodies t))
  given_count =
      count_ext e (entry_given memory bodies e t) (turns_at e t (gives (buffers memory bodies t))) given_cell
      ∙ turning_count m e b t ok (gives (buffers memory bodies t)) (λ c z. advances_own (buffers memory bodies t) c (gives_goes m e b t ok f (advances_own (buffers memory bodies t)) c z)) low

  pub entries_cells : entries_check memory bodies (slots_of (length t)) t ≡ cells_check (buffers memory bodies t)
  entries_cells = λ i. ask (leb (used_slots e t + given_count i) e) 16 (ask (leb (copies e t + goes_count i) b) 17 0)

  -- as many cells advance as entries, and no more than are in front of the free ones at the end
  pub advances_few : (top : ℕ) → EndsAt (slots_of (length t)) t top → count (cells_of (length memory)) (advances (buffers memory bodies t)) ≤ top
  advances_few top ends =
      omega (arith, turning_count m e b t ok f (advances_own (buffers memory bodies t)) low, turning_few e t top ends.0 ends.1 (live t) low f)

  -- the cells whose bits are set are those that advance
  pub turned_advances : (groups : List ℕ) → TurnedBits (slots_of (length t)) t (entry_changed memory bodies (slots_of (length t)) t (live t)) (slots_of (length t)) groups
      → (c : ℕ) → is_set groups c ≡ advances (buffers memory bodies t) c
  turned_advances groups k c =
      by_bool (f c)
      (λ a.
      let s = entry_of m e b t ok f (advances_own (buffers memory bodies t)) c a in
      is_true (is_set groups c) (λ z. k.clear c z s.0 s.1 (goes_cell s.0 s.1 ∙ s.2) s.3) ∙ sym a)
      (λ a.
      is_false (is_set groups c) (λ z.
      let s = k.found c z in
      true≢ (subst (λ (x : ℕ). f x ≡ true) s.3 (advances_of m e b t ok f (advances_own (buffers memory bodies t)) low s.0 (sym (goes_cell s.0 s.1) ∙ s.2))) a)
      ∙ sym a)

  -- ---- from the list to the plan

  module _ (used : List ℕ) (n : ℕ) (places : List ℕ) (marks : Marks (IsCopy (slots_of (length t)) t) (word2 (slots_of (length t)) t) 1 (slots_of (length t)) used)
      (number : n ≡ count (cells_of (length memory)) (advances (buffers memory bodies t))) where
    nth_free : (r : ℕ) → nth b (unmarked used) r ≡ nth b (body_free e t) r
    nth_free r = nth_ext b (unmarked used) (body_free e t) r (λ k h. unmarked_free e t used marks k)

    pub listed_bytes : InOrder (slots_of (length t)) t (advances (buffers memory bodies t)) n places
        → gather n (λ r. cell_plan memory (cell_in (slots_of (length t)) t (get_or places r 0)) (nth (bodies_of (length bodies)) (unmarked used) r)) ≡ advance_bytes (buffers memory bodies t)
    unfolding advance_bytes lowest_free
    listed_bytes list =
        ap (λ (x : ℕ). gather x (λ r. cell_plan memory (cell_in e t (get_or places r 0)) (nth b (unmarked used) r))) number
        ∙ gather_listed f (λ c r. cell_plan memory c (nth b (unmarked used) r)) (λ r. cell_in e t (get_or places r 0)) m listed_cell
        ∙ gather_ext m (λ c. cond (f c) (cell_plan memory c (nth b (unmarked used) (count c f))) []) (λ c. cond (f c) (cell_plan memory c (nth b (body_free e t) (count c f))) [])
        (λ c l. ap (λ (x : ℕ). cond (f c) (cell_plan memory c x) []) (nth_free (count c f)))
      where
        listed_cell : (c : ℕ) → c < m → f c ≡ true → cell_in e t (get_or places (count c f) 0) ≡ c
        listed_cell c l h =
            let s = entry_of m e b t ok f (advances_own (buffers memory bodies t)) c h in
            let same = ap (λ (x : ℕ). get_or places (count x f) 0) (sym s.3) ∙ list.place s.0 s.1 s.2 in
            ap (cell_in e t) same ∙ s.3

    -- once all are staged, so are all entries that become copies
    pub change_all : (i : ℕ) → i < slots_of (length t)
        → change_to (slots_of (length t)) (bodies_of (length bodies)) t used (advances (buffers memory bodies t)) n i
        ≡ turn_with (slots_of (length t)) t (advances (buffers memory bodies t)) (body_for (buffers memory bodies t)) i
    unfolding change_to lowest_free
    change_all i l =
        by_bool (turns_at e t f i)
        (λ z.
        let goes = advances_of m e b t ok f (advances_own (buffers memory bodies t)) low i z in
        let less : rank_of e t f i < n = omega (arith, count_below f (cell_in e t i) m (advances_cell m e b t ok f (advances_own (buffers memory bodies t)) (cell_in e t i) goes) goes, number) in
        rw (lt-ltb (rank_of e t f i) n less, z, nth_free (rank_of e t f i)))
        (λ z. by_bool (ltb (rank_of e t f i) n) (λ y. rw (y, z)) (λ y. rw (y, z)))
