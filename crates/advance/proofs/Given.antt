-- What is given outwards along the list is what the call gives: the k-th entry of the list whose cell the parent lacks has the k-th of the cells that
-- are given outwards, and takes the k-th free slot. Assumes nothing.
use Prim.Native.Nat.{ℕ, ◌≤◌, ◌<◌}
use mathlib.Core.Bool.{Bool, true, false, not}
use mathlib.Core.List.{List}
use mathlib.Core.Path.{◌≡◌, sym, ap, ◌∙◌}
use native.Mathlib.Omega.{arith}
use borrow.Author.Tests.{le-leb, lt-ltb, le-ltb}
use lib.Dec.{ltb}
use lib.ListN.{get_or}
use Rattle.words.specs.Scan.{count, nth}
use Rattle.words.proofs.Scan.{by_bool, by_le, is_false, true≢, and_split, count_ext}
use Rattle.words.proofs.Nth.{count_below, nth_of, nth_below, nth_holds, nth_rank}
use Rattle.table.specs.Entry.{live, innermost, parent, find_in, writes_in}
use Rattle.table.specs.Marks.{Marked, cell_in, mark_of, has}
use Rattle.table.specs.Changes.{Change}
use Rattle.table.proofs.Rule.{Rule}
use Rattle.table.proofs.Marks.{marked_holds}
use Rattle.search.specs.Free.{slot_free, lowest_free, taker_of}
use Rattle.search.proofs.Taking.{taker_facts, taken_free, lowest_free_lem, lowest_taken, lowest_taker}
use Rattle.advance.specs.Advance.{parent_lacks, gives_with, give_with}
use Rattle.advance.specs.Notes.{InOrder, lacks_at, give_to}
use Rattle.advance.proofs.Turning.{entry_found, gives_goes}
use Rattle.advance.proofs.Listing.{count_listed}

-- where no cell is given outwards
module _ (m e : ℕ) (t : List ℕ) (f : ℕ → Bool) (none : count m (gives_with e t f) ≡ 0) where
  pub give_nothing : (slot : ℕ → ℕ) (other : ℕ → Change) (i : ℕ) → give_with m e t f slot other i ≡ other i
  unfolding give_with
  give_nothing slot other i =
      let untaken : ltb (taker_of m (gives_with e t f) slot i) m ≡ false =
      is_false (ltb (taker_of m (gives_with e t f) slot i) m) (λ y.
      let k = taker_facts m (gives_with e t f) slot i y in
      let more = count_below (gives_with e t f) (taker_of m (gives_with e t f) slot i) m k.0 k.1 in
      omega arith) in
      rw untaken

-- some cells that the innermost domain holds read-write advance, their entries are listed in the order of the cells, and there is a parent
module _ (m e b : ℕ) (t : List ℕ) (ok : Rule m e b t) (two : 2 ≤ live t) (f : ℕ → Bool) (own : (c : ℕ) → f c ≡ true → writes_in e t (innermost t) c ≡ true)
    (n : ℕ) (places seen : List ℕ) (number : n ≡ count m f) (list : InOrder e t f n places) (marked : Marked e t e seen) where
  abbrev g : ℕ → Bool
  g = gives_with e t f

  -- by the marks
  abbrev lacked : ℕ → Bool
  lacked c = not (has (parent (live t)) (mark_of seen c))

  by_marks : (c : ℕ) → lacked c ≡ parent_lacks e t (live t) c
  by_marks c = rw (le-leb 2 (live t) two) (ap not (marked_holds e t seen marked (parent (live t)) c (omega arith)))

  -- the entry of a cell that advances
  listed_entry : (c : ℕ) → f c ≡ true → (get_or places (count c f) 0 ≡ find_in e t (live t) c) × (cell_in e t (get_or places (count c f) 0) ≡ c)
  listed_entry c z =
      let s = entry_found m e b t ok f own c z in
      let at = ap (λ (x : ℕ). get_or places (count x f) 0) (sym s.2) ∙ list.place (find_in e t (live t) c) s.0 s.1 in
      (at, ap (cell_in e t) at ∙ s.2)

  -- how many of the cells before a cell, or of all m
  given_before : (c : ℕ) → count (count c f) (lacks_at e t seen places) ≡ count c g
  given_before c =
      count_listed f lacked (λ r. cell_in e t (get_or places r 0)) c (λ x l z. (listed_entry x z).1)
      ∙ count_ext c _ g (λ x l. by_bool (f x) (λ z. rw z (by_marks x)) (λ z. rw z))

  pub given_number : count n (lacks_at e t seen places) ≡ count m (gives_with e t f)
  given_number = ap (λ (x : ℕ). count x (lacks_at e t seen places)) number ∙ given_before m

  given_entry : (q : ℕ) → q < count m g → get_or places (nth n (lacks_at e t seen places) q) 0 ≡ find_in e t (live t) (nth m g q)
  given_entry q l =
      let c : ℕ = nth m g q in
      let gives = nth_holds m g q l in
      let goes = gives_goes m e b t ok f own c gives in
      let k : ℕ = count c f in
      let inside : k < n = omega (arith, count_below f c m (nth_below m g q l) goes, number) in
      let here : lacks_at e t seen places k ≡ true =
      ap lacked (listed_entry c goes).1 ∙ by_marks c ∙ (and_split (f c) (parent_lacks e t (live t) c) gives).1 in
      let at : nth n (lacks_at e t seen places) q ≡ k =
      ap (nth n (lacks_at e t seen places)) (sym (nth_rank m g q l) ∙ sym (given_before c)) ∙ nth_of n (lacks_at e t seen places) k inside here in
      ap (λ (x : ℕ). get_or places x 0) at ∙ (listed_entry c goes).0

  -- so all is given outwards that the call gives
  pub give_all : count m (gives_with e t f) ≤ count e (slot_free e t) → (other : ℕ → Change) (i : ℕ) → i < e
      → give_to e t seen places n n other i ≡ give_with m e t f (lowest_free e (slot_free e t) (gives_with e t f)) other i
  unfolding give_to give_with
  give_all enough other i l =
      let free : ℕ → Bool = slot_free e t in
      let slot : ℕ → ℕ = lowest_free e (slot_free e t) g in
      let choice = lowest_free_lem m g e (slot_free e t) enough in
      by_bool (slot_free e t i)
      (λ y.
      by_le (count m g) (count i free)
      (λ z.
      let untaken : ltb (taker_of m g slot i) m ≡ false =
      is_false (ltb (taker_of m g slot i) m) (λ x. let less = lowest_taken m g e free enough i x in omega arith) in
      rw (y, given_number, le-ltb (count i free) (count m g) z, untaken))
      (λ z.
      let is = lowest_taker m g e free enough i l y z in
      rw (y, given_number, lt-ltb (count i free) (count m g) z, is, lt-ltb (nth m g (count i free)) m (nth_below m g (count i free) z), given_entry (count i free) z)))
      (λ y.
      let untaken : ltb (taker_of m g slot i) m ≡ false =
      is_false (ltb (taker_of m g slot i) m) (λ x. true≢ (taken_free choice i x) y) in
      rw (y, untaken))
