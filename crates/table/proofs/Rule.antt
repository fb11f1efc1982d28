-- The table's rule as facts, and that the computed test and the facts say the same. Assumes nothing.
use Prim.Native.Nat.{ℕ, ◌≤◌, ◌<◌, min}
use mathlib.Core.Bool.{Bool, true, false, cond, not, ◌&&◌, ◌||◌}
use mathlib.Core.List.{List}
use mathlib.Core.Path.{◌≡◌, refl, sym, ◌∙◌}
use native.Mathlib.Omega.{arith}
use lib.Dec.{ltb, eqb}
use borrow.Author.Tests.{lt-ltb, le-ltb, le-leb, eq-eqb, ne_eqb, ltb-true, leb-true, eqb-true, eqb-false}
use Rattle.words.specs.Layout.{max_live, max_cells}
use Rattle.words.specs.Scan.{all}
use Rattle.words.proofs.Scan.{all_at, all_make, and_split, and_join, by_bool, by_le, is_false, true≢}
use Rattle.table.specs.Entry.{live, next_handle, word1, word2, depth_of, via_of, pattern_of, cell_of, unused_of, is_pattern, owns_body, parent, find_in, holds_in}
use Rattle.patterns.specs.Pattern.{max_rule}
use Rattle.table.specs.Rule.{handle_ok, head_ok, kind_ok, entry_ok, parent_ok, apart, apart_before, rule_ok}

-- ---- the facts
pub record Used (m e b : ℕ) (t : List ℕ) (i : ℕ) : Type 0 where
  pub low : 1 ≤ depth_of (word1 e t i)
  pub high : depth_of (word1 e t i) ≤ live t
  pub spare : unused_of (word1 e t i) ≡ 0
  pub cell : cell_of (word1 e t i) < m
  pub copy : via_of (word1 e t i) ≡ 0 → pattern_of (word1 e t i) ≡ 0 → word2 e t i < b
  pub rule : pattern_of (word1 e t i) ≡ 1 → word2 e t i ≤ max_rule
  pub second : (via_of (word1 e t i) ≡ 0 → ⊥) → word2 e t i ≡ 0
  pub inner : (via_of (word1 e t i) ≡ 0 → ⊥) → 2 ≤ depth_of (word1 e t i)
  pub plain : (via_of (word1 e t i) ≡ 0 → ⊥) → pattern_of (word1 e t i) ≡ 0

pub record Apart (e : ℕ) (t : List ℕ) (j i : ℕ) : Type 0 where
  pub cells : depth_of (word1 e t j) ≡ depth_of (word1 e t i) → cell_of (word1 e t j) ≡ cell_of (word1 e t i) → ⊥
  pub bodies : owns_body (word1 e t j) ≡ true → owns_body (word1 e t i) ≡ true → word2 e t j ≡ word2 e t i → ⊥

pub record Rule (m e b : ℕ) (t : List ℕ) : Type 0 where
  pub live : live t ≤ max_live
  pub next : 1 ≤ next_handle t
  pub handles : (k : ℕ) → k < max_live → handle_ok t k ≡ true
  pub free : (i : ℕ) → i < e → word1 e t i ≡ 0 → word2 e t i ≡ 0
  pub used : (i : ℕ) → i < e → (word1 e t i ≡ 0 → ⊥) → Used m e b t i
  pub outer : (i : ℕ) → i < e → (via_of (word1 e t i) ≡ 0 → ⊥) → find_in e t (parent (depth_of (word1 e t i))) (cell_of (word1 e t i)) < e
  pub outer_plain : (i : ℕ) → i < e → (via_of (word1 e t i) ≡ 0 → ⊥) → pattern_of (word1 e t (find_in e t (parent (depth_of (word1 e t i))) (cell_of (word1 e t i)))) ≡ 0
  pub apart_from : (i : ℕ) → i < e → (j : ℕ) → j < i → (word1 e t i ≡ 0 → ⊥) → (word1 e t j ≡ 0 → ⊥) → Apart e t j i

-- ---- the two agree
module _ (m e b : ℕ) (t : List ℕ) where
  pub entry_free : (i : ℕ) → entry_ok m e b t i ≡ true → word1 e t i ≡ 0 → word2 e t i ≡ 0
  unfolding entry_ok
  entry_free i h z = eqb-true _ _ (rw (eq-eqb _ _ z) at h)

  -- an entry names no cell past the most that there are
  pub entry_least : (i : ℕ) → entry_ok (min m max_cells) e b t i ≡ entry_ok m e b t i
  unfolding entry_ok
  entry_least i =
      let c = cell_of (word1 e t i) in
      let same : ltb c (min m max_cells) ≡ ltb c m =
      by_le m c
      (λ l. le-ltb c (min m max_cells) (omega arith) ∙ sym (le-ltb c m l))
      (λ l. lt-ltb c (min m max_cells) (omega arith) ∙ sym (lt-ltb c m l)) in
      rw same

  -- the second word by the kind, as facts
  module _ (w v : ℕ) where
    kind_copy : kind_ok b w v ≡ true → via_of w ≡ 0 → pattern_of w ≡ 0 → v < b
    kind_copy h z p = ltb-true _ _ (rw (eq-eqb _ _ z, ne_eqb (pattern_of w) 1 (λ q. omega (arith, p, q))) at h)

    kind_via : kind_ok b w v ≡ true → (via_of w ≡ 0 → ⊥) → (v ≡ 0) × (2 ≤ depth_of w) × (pattern_of w ≡ 0)
    kind_via h z =
        let s1 = and_split _ _ (rw (ne_eqb _ _ z) at h) in
        let s2 = and_split _ _ s1.1 in
        (eqb-true _ _ s1.0, leb-true _ _ s2.0, eqb-true _ _ s2.1)

    kind_rule : kind_ok b w v ≡ true → pattern_of w ≡ 1 → v ≤ max_rule
    kind_rule h p =
        by_bool (eqb (via_of w) 0)
        (λ z. leb-true _ _ (rw (z, eq-eqb _ _ p) at h))
        (λ z. absurd (let q = (kind_via h (eqb-false _ _ z)).2 in omega (arith, q, p)))

    kind_make : (via_of w ≡ 0 → pattern_of w ≡ 0 → v < b) → (pattern_of w ≡ 1 → v ≤ max_rule)
        → ((via_of w ≡ 0 → ⊥) → (v ≡ 0) × (2 ≤ depth_of w) × (pattern_of w ≡ 0)) → kind_ok b w v ≡ true
    kind_make f g h =
        by_bool (eqb (via_of w) 0)
        (λ z.
        by_bool (is_pattern w)
        (λ p. rw (z, p) (le-leb _ _ (g (eqb-true _ _ p))))
        (λ p. rw (z, p) (lt-ltb _ _ (f (eqb-true _ _ z) (let q = eqb-false (pattern_of w) 1 p in omega (arith, q))))))
        (λ z. let k = h (eqb-false _ _ z) in rw z (and_join _ _ (eq-eqb _ _ k.0) (and_join _ _ (le-leb _ _ k.1) (eq-eqb _ _ k.2))))

  pub entry_used : (i : ℕ) → entry_ok m e b t i ≡ true → (word1 e t i ≡ 0 → ⊥) → Used m e b t i
  unfolding entry_ok
  entry_used i h z =
      let h1 = rw (ne_eqb _ _ z) at h in
      let s1 = and_split _ _ h1 in
      let s2 = and_split _ _ s1.1 in
      let s3 = and_split _ _ s2.1 in
      let s4 = and_split _ _ s3.1 in
      let w = word1 e t i in
      let v = word2 e t i in
      record {
        low = leb-true _ _ s1.0;
        high = leb-true _ _ s2.0;
        spare = eqb-true _ _ s3.0;
        cell = ltb-true _ _ s4.0;
        copy = kind_copy w v s4.1;
        rule = kind_rule w v s4.1;
        second = λ z. (kind_via w v s4.1 z).0;
        inner = λ z. (kind_via w v s4.1 z).1;
        plain = λ z. (kind_via w v s4.1 z).2;
      }

  pub entry_make : (i : ℕ) → (word1 e t i ≡ 0 → word2 e t i ≡ 0) → ((word1 e t i ≡ 0 → ⊥) → Used m e b t i) → entry_ok m e b t i ≡ true
  unfolding entry_ok
  entry_make i f g =
      by_bool (eqb (word1 e t i) 0)
      (λ z. rw z (eq-eqb _ _ (f (eqb-true _ _ z))))
      (λ z.
      let u = g (eqb-false _ _ z) in
      let kind = kind_make (word1 e t i) (word2 e t i) u.copy u.rule (λ v. (u.second v, u.inner v, u.plain v)) in
      rw z
      (and_join _ _ (le-leb _ _ u.low)
      (and_join _ _ (le-leb _ _ u.high) (and_join _ _ (eq-eqb _ _ u.spare) (and_join _ _ (lt-ltb _ _ u.cell) kind)))))

  pub outer_facts : (i : ℕ) → parent_ok e t i ≡ true → (via_of (word1 e t i) ≡ 0 → ⊥)
      → (find_in e t (parent (depth_of (word1 e t i))) (cell_of (word1 e t i)) < e)
      × (pattern_of (word1 e t (find_in e t (parent (depth_of (word1 e t i))) (cell_of (word1 e t i)))) ≡ 0)
  unfolding parent_ok holds_in
  outer_facts i h v = let s = and_split _ _ (rw (ne_eqb _ _ v) at h) in (ltb-true _ _ s.0, eqb-true _ _ s.1)

  pub outer_make : (i : ℕ) → ((via_of (word1 e t i) ≡ 0 → ⊥) → (find_in e t (parent (depth_of (word1 e t i))) (cell_of (word1 e t i)) < e)
      × (pattern_of (word1 e t (find_in e t (parent (depth_of (word1 e t i))) (cell_of (word1 e t i)))) ≡ 0)) → parent_ok e t i ≡ true
  unfolding parent_ok holds_in
  outer_make i f =
      by_bool (eqb (via_of (word1 e t i)) 0) (λ y. rw y) (λ y. let g = f (eqb-false _ _ y) in rw y (and_join _ _ (lt-ltb _ _ g.0) (eq-eqb _ _ g.1)))

  not_and : (x y : Bool) → not (x && y) ≡ true → x ≡ true → y ≡ true → ⊥
  not_and x y h p q = true≢ h (rw (p, q))

  not_and_make : (x y : Bool) → (x ≡ true → y ≡ true → ⊥) → not (x && y) ≡ true
  not_and_make true true h = absurd (h refl refl)
  not_and_make true false h = refl
  not_and_make false y h = refl

  or_false : (x y : Bool) → x ≡ false → y ≡ false → (x || y) ≡ false
  or_false x y p q = rw (p, q)

  -- no depth has a cell twice: the first part of `apart`
  abbrev places : (i j : ℕ) → Bool
  places i j =
      cond (eqb (word1 e t i) 0 || eqb (word1 e t j) 0) true
      (not (eqb (depth_of (word1 e t j)) (depth_of (word1 e t i)) && eqb (cell_of (word1 e t j)) (cell_of (word1 e t i))))

  pub apart_facts : (i j : ℕ) → apart e t j i ≡ true → (word1 e t i ≡ 0 → ⊥) → (word1 e t j ≡ 0 → ⊥) → Apart e t j i
  unfolding apart
  apart_facts i j h ui uj =
      let s = and_split (places i j) (not (owns_body (word1 e t j) && (owns_body (word1 e t i) && eqb (word2 e t j) (word2 e t i)))) h in
      let differ = rw (or_false _ _ (ne_eqb _ _ ui) (ne_eqb _ _ uj)) at s.0 in
      record {
        cells = λ p q. not_and _ _ differ (eq-eqb _ _ p) (eq-eqb _ _ q);
        bodies = λ p q r. not_and (owns_body (word1 e t j)) _ s.1 p (and_join _ _ q (eq-eqb _ _ r));
      }

  pub apart_make : (i j : ℕ) → ((word1 e t i ≡ 0 → ⊥) → (word1 e t j ≡ 0 → ⊥) → Apart e t j i) → apart e t j i ≡ true
  unfolding apart
  apart_make i j h =
      and_join (places i j) (not (owns_body (word1 e t j) && (owns_body (word1 e t i) && eqb (word2 e t j) (word2 e t i))))
      (by_bool (eqb (word1 e t i) 0)
      (λ z. rw z)
      (λ z.
      by_bool (eqb (word1 e t j) 0) (λ y. rw (z, y))
      (λ y. rw (z, y) (not_and_make _ _ (λ p q. (h (eqb-false _ _ z) (eqb-false _ _ y)).cells (eqb-true _ _ p) (eqb-true _ _ q))))))
      (not_and_make (owns_body (word1 e t j)) _ (λ p q.
      let s = and_split _ _ q in
      (h (in_use (word1 e t i) s.0) (in_use (word1 e t j) p)).bodies p s.0 (eqb-true _ _ s.1)))
    where
      in_use : (w : ℕ) → owns_body w ≡ true → w ≡ 0 → ⊥
      in_use w o z = true≢ o (rw z)

  pub ok_facts : rule_ok m e b t ≡ true → Rule m e b t
  unfolding rule_ok head_ok
  ok_facts h =
      let s1 = and_split _ _ h in
      let s2 = and_split _ _ s1.1 in
      let s3 = and_split _ _ s2.1 in
      let h1 = and_split _ _ s1.0 in
      let h2 = and_split _ _ h1.1 in
      record {
        live = leb-true _ _ h1.0;
        next = leb-true _ _ h2.0;
        handles = all_at max_live (handle_ok t) h2.1;
        free = λ i l. entry_free i (all_at e (entry_ok m e b t) s2.0 i l);
        used = λ i l. entry_used i (all_at e (entry_ok m e b t) s2.0 i l);
        outer = λ i l v. (outer_facts i (all_at e (parent_ok e t) s3.0 i l) v).0;
        outer_plain = λ i l v. (outer_facts i (all_at e (parent_ok e t) s3.0 i l) v).1;
        apart_from = λ i l j k. apart_facts i j (all_at i (λ (j : ℕ). apart e t j i) (all_at e (apart_before e t) s3.1 i l) j k);
      }

  pub head_make : live t ≤ max_live → 1 ≤ next_handle t → ((k : ℕ) → k < max_live → handle_ok t k ≡ true) → head_ok t ≡ true
  unfolding head_ok
  head_make a b f = and_join _ _ (le-leb _ _ a) (and_join _ _ (le-leb _ _ b) (all_make max_live (handle_ok t) f))

  pub ok_make : Rule m e b t → rule_ok m e b t ≡ true
  unfolding rule_ok
  ok_make h =
      and_join _ _ (head_make h.live h.next h.handles)
      (and_join _ _ (all_make e (entry_ok m e b t) (λ i l. entry_make i (h.free i l) (h.used i l)))
      (and_join _ _ (all_make e (parent_ok e t) (λ i l. outer_make i (λ v. (h.outer i l v, h.outer_plain i l v))))
      (all_make e (apart_before e t) (λ i l. all_make i (λ (j : ℕ). apart e t j i) (λ j k. apart_make i j (h.apart_from i l j k))))))

  pub ok_not : (Rule m e b t → ⊥) → rule_ok m e b t ≡ false
  ok_not h = is_false (rule_ok m e b t) (λ p. h (ok_facts p))

  -- what a check that goes test by test cites
  pub ok_all : head_ok t ≡ true → ((i : ℕ) → i < e → entry_ok m e b t i ≡ true) → ((i : ℕ) → i < e → parent_ok e t i ≡ true) → ((i : ℕ) → i < e → apart_before e t i ≡ true) → rule_ok m e b t ≡ true
  unfolding rule_ok
  ok_all h l o a = and_join _ _ h (and_join _ _ (all_make e (entry_ok m e b t) l) (and_join _ _ (all_make e (parent_ok e t) o) (all_make e (apart_before e t) a)))

  pub no_head : head_ok t ≡ false → rule_ok m e b t ≡ false
  unfolding rule_ok
  no_head h = rw h

  pub parts : rule_ok m e b t ≡ true → (head_ok t ≡ true) × (all e (entry_ok m e b t) ≡ true) × (all e (parent_ok e t) ≡ true) × (all e (apart_before e t) ≡ true)
  unfolding rule_ok
  parts h =
      let s1 = and_split _ _ h in
      let s2 = and_split _ _ s1.1 in
      let s3 = and_split _ _ s2.1 in
      (s1.0, s2.0, s3.0, s3.1)

  -- an entry that passes by itself and is via parent is not outermost
  pub via_inner : (i : ℕ) → entry_ok m e b t i ≡ true → (via_of (word1 e t i) ≡ 0 → ⊥) → 2 ≤ depth_of (word1 e t i)
  via_inner i h v = (entry_used i h (λ z. v (rw z))).inner v
