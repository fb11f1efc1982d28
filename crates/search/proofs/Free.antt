-- Free entry slots and free bodies: who has a body, how many are free, and what marks tell of them. Assumes nothing.
use Rattle.std.proofs.Common.{◌≡◌, ℕ, ◌+◌, ◌<◌, ◌≤◌, true, false, not, eqb, List, get_or, sym, ap, ◌∙◌, arith, eq-eqb, eqb-true}
use borrow.Author.Tests.{eqb-false, not-true}
use Rattle.words.specs.Scan.{count, nth}
use Rattle.words.proofs.Scan.{by_bool, by_le, is_true, is_false, true≢, count_le, count_not, count_stop}
use Rattle.words.proofs.Nth.{nth_below, nth_holds, nth_rank}
use Rattle.words.proofs.Image.{meets, meets_make, meets_some, count_image}
use Rattle.table.specs.Entry.{word1, word2}
use Rattle.table.specs.Marks.{Marks, IsCopy, EndsAt}
use Rattle.table.proofs.Rule.{Rule}
use Rattle.search.specs.Free.{slot_free, is_copy, body_used, body_free, used_slots, copies, free_from, end_of, unmarked, unmarked_from}
use Rattle.table.proofs.Marks.{owns_facts}
use Rattle.search.proofs.From.{from_ge, from_miss, next_nth, next_below, next_passed}

-- ---- free slots: an entry is in use or its slot is free
pub slots_all : (e : ℕ) (t : List ℕ) → used_slots e t + count e (slot_free e t) ≡ e
unfolding used_slots
slots_all e t = omega (arith, count_not e (slot_free e t))

module _ (e : ℕ) (t : List ℕ) where
  -- the next free slot lies behind where the search begins, and those between are in use
  pub free_ge : (from : ℕ) → from ≤ free_from e t from
  unfolding free_from
  free_ge from = from_ge e from (slot_free e t)

  pub free_miss : (from i : ℕ) → from ≤ i → i < free_from e t from → slot_free e t i ≡ false
  unfolding free_from
  free_miss from = from_miss e from (slot_free e t)

  -- where all from `top` on are free, the r-th lies before the end of any n > r of them
  pub free_early : (top : ℕ) → EndsAt e t top → (r n : ℕ) → r < n → r < count e (slot_free e t) → nth e (slot_free e t) r < end_of e n top
  free_early top ends r n more left =
      let i : ℕ = nth e (slot_free e t) r in
      let below : i < e = nth_below e (slot_free e t) r left in
      let rank : count i (slot_free e t) ≡ r = nth_rank e (slot_free e t) r left in
      by_le top i
      (λ y.
      let same : count i (λ x. not (slot_free e t x)) ≡ count top (λ x. not (slot_free e t x)) =
      count_stop i top (λ x. not (slot_free e t x)) y (λ x p q. ap not (eq-eqb (word1 e t x) 0 (ends.1 x p (omega (arith, q, below))).0)) in
      omega (arith, rank, more, below, same, count_not i (slot_free e t), count_le top (λ x. not (slot_free e t x))))
      (λ y. omega (arith, below))

-- a walk over the free slots, r of which it has passed
module _ (e : ℕ) (t : List ℕ) (from r : ℕ) (low : from ≤ e) (passed : count from (slot_free e t) ≡ r) where
  pub free_nth : free_from e t from ≡ nth e (slot_free e t) r
  unfolding free_from
  free_nth = next_nth (slot_free e t) e from r low passed

  module _ (left : r < count e (slot_free e t)) where
    pub free_below : free_from e t from < e
    unfolding free_from
    free_below = next_below (slot_free e t) e from r low passed left

    pub free_passed : count (free_from e t from + 1) (slot_free e t) ≡ r + 1
    unfolding free_from
    free_passed = next_passed (slot_free e t) e from r low passed left

    pub free_holds : slot_free e t (free_from e t from) ≡ true
    free_holds = ap (slot_free e t) free_nth ∙ nth_holds e (slot_free e t) r left

    pub free_rank : count (free_from e t from) (slot_free e t) ≡ r
    free_rank = ap (λ (i : ℕ). count i (slot_free e t)) free_nth ∙ nth_rank e (slot_free e t) r left

-- ---- free bodies
module _ (e : ℕ) (t : List ℕ) where
  pub body_used_lem : (k j : ℕ) → j < e → IsCopy e t j → word2 e t j ≡ k → body_used e t k ≡ true
  unfolding body_used meets
  body_used_lem k j l p q = meets_make (is_copy e t) (word2 e t) e k j l p q

  pub body_user : (k : ℕ) → body_used e t k ≡ true → (j : ℕ) × (j < e) × IsCopy e t j × (word2 e t j ≡ k)
  unfolding body_used meets
  body_user k h = let f = meets_some (is_copy e t) (word2 e t) e k h in (f.0, f.1, f.2, f.3)

  pub body_unused : (k : ℕ) → body_free e t k ≡ true → (j : ℕ) → j < e → IsCopy e t j → word2 e t j ≡ k → ⊥
  body_unused k h j l p q = true≢ (body_used_lem k j l p q) (not-true (body_used e t k) h)

-- how many are free in a table that is right: those that no copy has, and each copy has one of its own
pub bodies_all : (m e b : ℕ) (t : List ℕ) → Rule m e b t → count b (body_free e t) + copies e t ≡ b
unfolding copies body_used meets
bodies_all m e b t ok =
    let own =
    count_image (is_copy e t) (word2 e t) b e
    (record {
      below = λ i l p. let f = owns_facts (word1 e t i) p in (ok.used i l f.0).copy f.1 f.2;
      apart = λ i j l k p q w.
          let f = owns_facts (word1 e t i) p in
          let g = owns_facts (word1 e t j) q in
          (ok.apart_from i l j k f.0 g.0).bodies q p w;
    }) in
    omega (arith, own, count_not b (body_used e t))

-- ---- marks of the bodies in use

-- they tell which are free
pub unmarked_free : (e : ℕ) (t used : List ℕ) → Marks (IsCopy e t) (word2 e t) 1 e used → (k : ℕ) → unmarked used k ≡ body_free e t k
unmarked_free e t used m k =
    ap not
    (by_bool (body_used e t k)
    (λ p. let f = body_user e t k p in is_true (eqb (get_or used k 0) 1) (λ z. m.clear k (eqb-false _ _ z) f.0 f.1 f.2 f.3) ∙ sym p)
    (λ p. is_false (eqb (get_or used k 0) 1) (λ z. let f = m.found k (eqb-true _ _ z) in true≢ (body_used_lem e t k f.0 f.1 f.2 f.3) p) ∙ sym p))

-- a walk over the bodies without a mark, r of which it has passed
module _ (used : List ℕ) (b from r : ℕ) (low : from ≤ b) (passed : count from (unmarked used) ≡ r) where
  pub unmarked_nth : unmarked_from b used from ≡ nth b (unmarked used) r
  unfolding unmarked_from
  unmarked_nth = next_nth (unmarked used) b from r low passed

  module _ (left : r < count b (unmarked used)) where
    pub unmarked_below : unmarked_from b used from < b
    unfolding unmarked_from
    unmarked_below = next_below (unmarked used) b from r low passed left

    pub unmarked_passed : count (unmarked_from b used from + 1) (unmarked used) ≡ r + 1
    unfolding unmarked_from
    unmarked_passed = next_passed (unmarked used) b from r low passed left
