-- Laws of the list of the entries that advance: it is made in a pass over the entries, and gone through in the order of the cells. Assumes
-- nothing.
use Prim.Native.Nat.{ℕ, zero, suc, ◌+◌, ◌*◌, ◌≤◌, ◌<◌}
use mathlib.Core.Bool.{Bool, true, cond, ◌&&◌}
use mathlib.Core.List.{List, [], ◌++◌, append-nil}
use mathlib.Core.Path.{◌≡◌, refl, sym, ap, subst, ◌∙◌}
use native.Mathlib.Nat.{not-suc-le-zero}
use native.Mathlib.Omega.{arith}
use borrow.Author.Tests.{eqb-true, eqb-false, lt-ltb, le-ltb}
use lib.Dec.{eqb, ltb}
use lib.ListN.{length, get_or, set}
use lib.Seq.{get_or-set_same, get_or-set_other}
use Rattle.words.specs.Scan.{count, nth}
use Rattle.words.specs.Stores.{Store, gather}
use Rattle.words.specs.Cells.{cell_plan}
use Rattle.words.proofs.Scan.{by_bool, by_le, and_split, true≢}
use Rattle.words.proofs.Nth.{same_rank}
use Rattle.words.proofs.Plans.{length_cell_plan}
use Rattle.words.proofs.Gather.{gather_length}
use Rattle.table.specs.Entry.{live, word1, depth_of, as_copy}
use Rattle.table.specs.Marks.{CellsOnce, cell_in}
use Rattle.table.specs.Changes.{keep, put}
use Rattle.table.proofs.Marks.{split}
use Rattle.search.specs.Free.{lowest_free, unmarked}
use Rattle.changes.specs.Staged.{but}
use Rattle.advance.specs.Advance.{turns}
use Rattle.advance.specs.Notes.{list_slot, ListedSlots, rank_of, InOrder, change_to}

-- ---- the list is made

module _ (e : ℕ) (t : List ℕ) (n : ℕ) (low : 1 ≤ n) (f : ℕ → Bool) where
  pub listed_none : (places : List ℕ) → ListedSlots e t n f 0 places
  listed_none places = record { place = λ i l. absurd (not-suc-le-zero l) }

  -- one entry more: no entry before it has its depth and its cell
  pub listed_more : (places : List ℕ) (k : ℕ) → CellsOnce e t e → k < e → (turns n f (word1 e t k) ≡ true → rank_of e t f k < length places)
      → ListedSlots e t n f k places → ListedSlots e t n f (k + 1) (list_slot n f (word1 e t k) k places)
  unfolding list_slot
  listed_more places k once l fits old =
      by_bool (turns n f (word1 e t k))
      (λ y. rw y (record {
        place = λ i h z.
            split k i h
            (λ p. ap (λ (x : ℕ). get_or (set places (rank_of e t f k) k) (rank_of e t f x) 0) p ∙ get_or-set_same places (rank_of e t f k) k 0 (fits y) ∙ sym p)
            (λ p.
            get_or-set_other places (rank_of e t f k) (rank_of e t f i) k 0
            (λ q.
            let s = and_split (eqb (depth_of (word1 e t i)) n) (f (cell_in e t i)) z in
            let r = and_split (eqb (depth_of (word1 e t k)) n) (f (cell_in e t k)) y in
            let here : depth_of (word1 e t k) ≡ n = eqb-true _ _ r.0 in
            once k l i p (omega (arith, here)) (eqb-true _ _ s.0 ∙ sym here) (same_rank f (cell_in e t i) (cell_in e t k) s.1 r.1 q))
            ∙ old.place i p z);
      }))
      (λ y. rw y (record { place = λ i h z. split k i h (λ p. absurd (true≢ (subst (λ (x : ℕ). turns n f (word1 e t x) ≡ true) p z) y)) (λ p. old.place i p z) }))

-- ---- the list is gone through

-- what is gathered along the list is what is gathered along the cells
pub gather_listed : {A : Type 0} (f : ℕ → Bool) (g : ℕ → ℕ → List A) (place : ℕ → ℕ) (m : ℕ) → ((c : ℕ) → c < m → f c ≡ true → place (count c f) ≡ c)
    → gather (count m f) (λ r. g (place r) r) ≡ gather m (λ c. cond (f c) (g c (count c f)) [])
unfolding count
gather_listed f g place zero h = refl
gather_listed f g place (suc m) h =
    let rest = gather_listed f g place m (λ c l. h c (omega arith)) in
    by_bool (f m)
    (λ y. rw y (λ i. rest i ++ g (h m (omega arith) y i) (count m f)))
    (λ y. rw y (rest ∙ sym (append-nil _)))

-- and what is counted along the list is what is counted along the cells
pub count_listed : (f P : ℕ → Bool) (place : ℕ → ℕ) (m : ℕ) → ((c : ℕ) → c < m → f c ≡ true → place (count c f) ≡ c)
    → count (count m f) (λ r. P (place r)) ≡ count m (λ c. f c && P c)
unfolding count
count_listed f P place zero h = refl
count_listed f P place (suc m) h =
    let rest = count_listed f P place m (λ c l. h c (omega arith)) in
    by_bool (f m)
    (λ y. rw (y, h m (omega arith) y, rest))
    (λ y. rw (y, rest))

-- what the plan of r cells is long
pub plans_length : (memory : List ℕ) (from to : ℕ → ℕ) (r : ℕ) → 64 * r ≡ length (gather r (λ k. cell_plan memory (from k) (to k)))
plans_length memory from to zero = refl
plans_length memory from to (suc r) =
    let f : ℕ → List Store = λ k. cell_plan memory (from k) (to k) in
    let s = gather_length f r (64 * r) 64 (plans_length memory from to r) (sym (length_cell_plan memory (from r) (to r))) in
    let z : 64 * suc r ≡ 64 * r + 64 = omega arith in
    let q : r + 1 ≡ suc r = omega arith in
    z ∙ s ∙ ap (λ (x : ℕ). length (gather x f)) q

-- ---- what is staged on the way

module _ (e b : ℕ) (t used : List ℕ) (f : ℕ → Bool) where
  pub change_none : (i : ℕ) → change_to e b t used f 0 i ≡ keep
  unfolding change_to
  change_none i = rw (le-ltb (rank_of e t f i) 0 (omega arith))

  -- one entry more
  module _ (n r : ℕ) (places : List ℕ) (list : InOrder e t f n places) (here : r < n) where
    abbrev slot : ℕ
    slot = get_or places r 0

    pub change_more : (j : ℕ) → j < e → but (change_to e b t used f r) (get_or places r 0) (put (as_copy (word1 e t (get_or places r 0))) (nth b (unmarked used) r)) j ≡ change_to e b t used f (r + 1) j
    unfolding change_to lowest_free
    change_more j l =
        by_bool (eqb j slot)
        (λ z.
        let q = eqb-true j slot z in
        rw (z, q, list.rank r here, lt-ltb r (r + 1) (omega arith), list.goes r here))
        (λ z.
        rw z
        (by_bool (turns (live t) f (word1 e t j))
        (λ y.
        let other : rank_of e t f j ≡ r → ⊥ = λ q. eqb-false j slot z (sym (list.place j l y) ∙ ap (λ (x : ℕ). get_or places x 0) q) in
        rw (same_side (rank_of e t f j) other))
        (λ y. rw y (either (ltb (rank_of e t f j) r) (ltb (rank_of e t f j) (r + 1))))))
      where
        same_side : (k : ℕ) → (k ≡ r → ⊥) → ltb k r ≡ ltb k (r + 1)
        same_side k ne = by_le r k (λ h. le-ltb k r h ∙ sym (le-ltb k (r + 1) (omega (arith, ne)))) (λ h. lt-ltb k r h ∙ sym (lt-ltb k (r + 1) (omega arith)))

        either : (x y : Bool) → cond x keep keep ≡ cond y keep keep
        either x y = by_bool x (λ p. by_bool y (λ q. rw (p, q)) (λ q. rw (p, q))) (λ p. by_bool y (λ q. rw (p, q)) (λ q. rw (p, q)))
