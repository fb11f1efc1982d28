-- Laws of a scan that begins at a place: `first_from n from f` is the least number from `from` on and below n of which f holds, or n.
-- Assumes nothing.
use Rattle.std.proofs.Common.{◌≡◌, ℕ, suc, ◌+◌, ◌-◌, ◌<◌, ◌≤◌, Bool, true, false, eqb, ltb, Option, Some, None, MatchOption, sym, ap, ◌∙◌, subst, arith, ltb-false, ltb-true, eqb-true}
use borrow.Author.Tests.{eqb-false}
use mir.Val.{bool_byte}
use Rattle.words.specs.Scan.{first, count, nth}
use Rattle.words.proofs.Scan.{first_at_lem, first_le, first_hit, first_miss, by_bool, by_le, count_more, count_stop}
use Rattle.words.proofs.Nth.{nth_from, nth_below, nth_holds, nth_rank, count_mono}
use Rattle.search.specs.Search.{Found}

abbrev pub first_from : ℕ → ℕ → (ℕ → Bool) → ℕ
first_from n from f = from + first (n - from) (λ k. f (from + k))

-- f holds of none of the numbers from `from` on and below i
abbrev pub Failing : (ℕ → Bool) → ℕ → ℕ → Type 0
Failing f from i = (k : ℕ) → from ≤ k → k < i → f k ≡ false

pub failing_none : (f : ℕ → Bool) (from : ℕ) → Failing f from from
failing_none f from k l h = absurd (never l h)
  where
    never : {k from : ℕ} → from ≤ k → k < from → ⊥
    never l h = omega arith

pub failing_more : (f : ℕ → Bool) (from i : ℕ) → Failing f from i → f i ≡ false → Failing f from (i + 1)
failing_more f from i h here k l s =
    by_bool (eqb k i)
    (λ p. rw (eqb-true k i p) here)
    (λ p. h k l (omega (arith, eqb-false k i p)))

pub failing_join : (f : ℕ → Bool) (from i n : ℕ) → Failing f from i → Failing f i n → Failing f from n
failing_join f from i n h s k l b = by_le i k (λ a. s k a b) (λ a. h k l a)

module _ (n from : ℕ) (f : ℕ → Bool) where
  pub from_at : (i : ℕ) → from ≤ i → i ≤ n → Failing f from i → (i < n → f i ≡ true) → first_from n from f ≡ i
  from_at i low high h t =
      let back : from + (i - from) ≡ i = omega arith in
      let s : first (n - from) (λ k. f (from + k)) ≡ i - from =
      first_at_lem _ _ _ (omega arith) (λ j l. h (from + j) (omega arith) (omega arith)) (λ l. rw back (t (omega arith))) in
      rw s back

  pub from_ge : from ≤ first_from n from f
  from_ge = omega arith

  pub from_hit : first_from n from f < n → f (first_from n from f) ≡ true
  from_hit l = first_hit (n - from) (λ k. f (from + k)) (omega arith)

  pub from_miss : Failing f from (first_from n from f)
  from_miss k l h =
      let back : from + (k - from) ≡ k = omega arith in
      subst (λ (x : ℕ). f x ≡ false) back (first_miss (n - from) (λ k. f (from + k)) (k - from) (omega arith))

  pub from_le : from ≤ n → first_from n from f ≤ n
  from_le l = omega (arith, first_le (n - from) (λ k. f (from + k)))

-- what `find` says over a range: none of its numbers passes, or this is the first that does
abbrev pub FirstOf : (ℕ → Bool) → (from n : ℕ) → Option ℕ → Type 0
FirstOf f from n r = MatchOption r (Failing f from n) (λ i. (from ≤ i) × (i < n) × (f i ≡ true) × Failing f from i)

pub found_first : (f : ℕ → Bool) (from n : ℕ) (r : Option ℕ) → from ≤ n → FirstOf f from n r → Found n (first_from n from f) r
found_first f from n None l h = from_at n from f n l (omega arith) h (λ z. absurd (omega (arith, z)))
found_first f from n (Some i) l h = (h.1, sym (from_at n from f i h.0 (omega (arith, h.1)) h.3 (λ z. h.2)))

-- ---- how many lie before and behind

-- a loop that counts: the next number passes, or it does not
module _ (f : ℕ → Bool) (i n : ℕ) (so_far : n ≡ count i f) where
  pub count_yes : f i ≡ true → n + 1 ≡ count (i + 1) f
  count_yes h = rw (count_more, h, so_far)

  pub count_no : f i ≡ false → n ≡ count (i + 1) f
  count_no h = rw (count_more, h, so_far)

  -- the same in a loop that adds the answer as a number
  pub count_byte : (b : Bool) → b ≡ f i → n + bool_byte b ≡ count (i + 1) f
  count_byte true q = count_yes (sym q)
  count_byte false q = let h = count_no (sym q) in omega arith

pub byte_small : (b : Bool) → bool_byte b ≤ 1
byte_small true = omega arith
byte_small false = omega arith

module _ (n from : ℕ) (f : ℕ → Bool) where
  -- passing the one that is found passes one
  pub from_passed : first_from n from f < n → count (suc (first_from n from f)) f ≡ suc (count from f)
  unfolding count
  from_passed l =
      rw (from_hit n from f l) (ap suc (count_stop (first_from n from f) from f (from_ge n from f) (from_miss n from f)))

  -- while not all of them are passed, another is found
  pub from_left : from ≤ n → count from f < count n f → first_from n from f < n
  from_left l h =
      by_bool (ltb (first_from n from f) n) (λ p. ltb-true (first_from n from f) n p)
      (λ p.
      let le : n ≤ first_from n from f = ltb-false (first_from n from f) n p in
      let same = count_stop n from f l (λ k a b. from_miss n from f k a (omega arith)) in
      absurd (never same h))
    where
      never : {a b : ℕ} → a ≡ b → b < a → ⊥
      never q l = omega arith

-- ---- a walk over the numbers that pass a test, r of which it has passed

module _ (f : ℕ → Bool) (n at r : ℕ) (low : at ≤ n) (passed : count at f ≡ r) where
  -- the next is the r-th
  pub next_nth : first_from n at f ≡ nth n f r
  next_nth = sym (nth_from n f r at passed low)

  module _ (left : r < count n f) where
    pub next_below : first_from n at f < n
    next_below = rw next_nth (nth_below n f r left)

    pub next_passed : count (first_from n at f + 1) f ≡ r + 1
    next_passed = rw next_nth (count_more (nth n f r) f ∙ rw (nth_holds n f r left, nth_rank n f r left))

  -- there is one left exactly where one is found
  pub next_left : first_from n at f < n → r < count n f
  next_left h = omega (arith, from_passed n at f h, count_mono f (suc (first_from n at f)) n h)

  pub next_none : n ≤ first_from n at f → count n f ≤ r
  next_none h = by_le (count n f) r (λ l. l) (λ l. absurd (above (from_left n at f low (omega arith)) h))
    where
      above : {a b : ℕ} → a < b → b ≤ a → ⊥
      above p q = omega arith
