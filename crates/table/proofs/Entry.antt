-- Laws of the search for an entry. Assumes nothing.
use Prim.Native.Nat.{ℕ, ◌≤◌, ◌<◌}
use mathlib.Core.Path.{◌≡◌, sym}
use mir.Val.{bool_byte}
use native.Mathlib.Omega.{arith}
use borrow.Author.Tests.{eq-eqb, eqb-true, eqb-false, lt-ltb, le-ltb, ltb-true, ltb-false, ne_eqb}
use mathlib.Core.Bool.{true, false, not}
use mathlib.Core.List.{List}
use lib.Dec.{eqb}
use Rattle.words.proofs.Scan.{first_at_lem, first_hit, first_miss, first_ext, and_split, and_join, is_false, true≢, not_lt, not_above, by_bool}
use Rattle.table.specs.Entry.{word1, depth_of, via_of, pattern_of, cell_of, is_via, is_pattern, names, find_in, holds_in, writable_of}

-- ---- the fields of a first word, as truths and as numbers
pub via_one : (w : ℕ) → is_via w ≡ true → via_of w ≡ 1
via_one w p = eqb-true (via_of w) 1 p

pub via_zero : (w : ℕ) → is_via w ≡ false → via_of w ≡ 0
via_zero w p = let q = eqb-false (via_of w) 1 p in omega (arith, q)

pub via_some : (w : ℕ) → is_via w ≡ true → via_of w ≡ 0 → ⊥
via_some w p z = omega (arith, z, via_one w p)

pub pattern_one : (w : ℕ) → is_pattern w ≡ true → pattern_of w ≡ 1
pattern_one w p = eqb-true (pattern_of w) 1 p

pub pattern_zero : (w : ℕ) → is_pattern w ≡ false → pattern_of w ≡ 0
pattern_zero w p = let q = eqb-false (pattern_of w) 1 p in omega (arith, q)

pub pattern_none : (w : ℕ) → pattern_of w ≡ 0 → is_pattern w ≡ false
pattern_none w z = ne_eqb (pattern_of w) 1 (λ q. omega (arith, z, q))

-- a truth as the number that code adds up
pub via_number : (w : ℕ) → bool_byte (is_via w) ≡ via_of w
via_number w = by_bool (is_via w) (λ p. rw p (sym (via_one w p))) (λ p. rw p (sym (via_zero w p)))

pub pattern_number : (w : ℕ) → bool_byte (is_pattern w) ≡ pattern_of w
pattern_number w = by_bool (is_pattern w) (λ p. rw p (sym (pattern_one w p))) (λ p. rw p (sym (pattern_zero w p)))

pub read_only : (w : ℕ) → not (eqb (writable_of w) 1) ≡ eqb (writable_of w) 0
read_only w =
    by_bool (eqb (writable_of w) 1)
    (λ z. let q = eqb-true (writable_of w) 1 z in rw (z, ne_eqb (writable_of w) 0 (λ y. omega arith)))
    (λ z. let q = eqb-false (writable_of w) 1 z in rw (z, eq-eqb (writable_of w) 0 (omega (arith, q))))

module _ (e : ℕ) (t : List ℕ) (d c : ℕ) where
  pub names_both : (w : ℕ) → names d c w ≡ true → (depth_of w ≡ d) × (cell_of w ≡ c)
  names_both w h = let s = and_split (eqb (depth_of w) d) (eqb (cell_of w) c) h in (eqb-true _ _ s.0, eqb-true _ _ s.1)

  pub names_make : (w : ℕ) → depth_of w ≡ d → cell_of w ≡ c → names d c w ≡ true
  names_make w p q = and_join _ _ (eq-eqb _ _ p) (eq-eqb _ _ q)

  pub find_hit : find_in e t d c < e → (depth_of (word1 e t (find_in e t d c)) ≡ d) × (cell_of (word1 e t (find_in e t d c)) ≡ c)
  unfolding find_in
  find_hit h = names_both _ (first_hit e (λ i. names d c (word1 e t i)) h)

  pub find_miss : (j : ℕ) → j < find_in e t d c → names d c (word1 e t j) ≡ false
  unfolding find_in
  find_miss j h = first_miss e (λ i. names d c (word1 e t i)) j h

  pub find_some : (j : ℕ) → j < e → depth_of (word1 e t j) ≡ d → cell_of (word1 e t j) ≡ c → find_in e t d c ≤ j
  find_some j l p q = not_above (find_in e t d c) j (λ h. true≢ (names_make _ p q) (find_miss j h))

  pub find_none : ((j : ℕ) → j < e → depth_of (word1 e t j) ≡ d → cell_of (word1 e t j) ≡ c → ⊥) → find_in e t d c ≡ e
  unfolding find_in
  find_none h =
      first_at_lem e (λ i. names d c (word1 e t i)) e (omega arith)
      (λ j l. is_false (names d c (word1 e t j)) (λ p. let n = names_both _ p in h j l n.0 n.1))
      (λ l. absurd (not_lt e e l (omega arith)))

  pub find_at : (i : ℕ) → i ≤ e → ((j : ℕ) → j < i → names d c (word1 e t j) ≡ false) → (i < e → names d c (word1 e t i) ≡ true) → find_in e t d c ≡ i
  unfolding find_in
  find_at i l h k = first_at_lem e (λ i. names d c (word1 e t i)) i l h k

  pub holds_true : find_in e t d c < e → holds_in e t d c ≡ true
  unfolding holds_in
  holds_true h = lt-ltb _ _ h

  pub holds_false : e ≤ find_in e t d c → holds_in e t d c ≡ false
  unfolding holds_in
  holds_false h = le-ltb _ _ h

  pub holds_found : holds_in e t d c ≡ true → find_in e t d c < e
  unfolding holds_in
  holds_found h = ltb-true _ _ h

  pub holds_none : holds_in e t d c ≡ false → e ≤ find_in e t d c
  unfolding holds_in
  holds_none h = ltb-false _ _ h

-- the search reads the first words alone
pub find_ext : (e : ℕ) (t u : List ℕ) (d c : ℕ) → ((k : ℕ) → k < e → names d c (word1 e u k) ≡ names d c (word1 e t k)) → find_in e u d c ≡ find_in e t d c
unfolding find_in
find_ext e t u d c h = first_ext e _ _ h
