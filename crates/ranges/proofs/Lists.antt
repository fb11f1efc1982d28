-- Laws of lists of ranges, read by index: what a list asks for a cell, by which of its ranges it does. Assumes nothing.
use Rattle.std.proofs.Common.{◌≡◌, ℕ, zero, suc, ◌+◌, ◌<◌, ◌≤◌, Bool, true, false, cond, ◌&&◌, ◌||◌, eqb, List, [], ◌∷◌, length, take, sym, refl, ap, ◌∙◌, ⊎_elim, le_of_suc-le-suc, eq-or-lt_of_le, arith, add-one, eqb-true, ltb, ltb-true, le-ltb, lt-ltb}
use Rattle.std.proofs.lemmas.List.{get_or-take, take_more, take_all, length-take-le}
use mathlib.Core.Bool.{false≢true}
use Rattle.std.specs.List.{list_any}
use Rattle.std.proofs.lemmas.List.Recursion.{same_from_clauses, or_at, or_from_places, found_at}
use borrow.Author.Tests.{eqb-false}
use Rattle.words.proofs.Scan.{by_bool, by_le, is_false, true≢}
use Rattle.ranges.specs.declared.Range.{Range}
use Rattle.ranges.specs.Ranges.{covers, named, kind_for, rule_for, label_for}
use Rattle.ranges.specs.Lists.{no_range, range_of, Within, FirstNaming}
use Rattle.ranges.proofs.Ranges.{or_none, named_append, label_low, covers_bounds}

pub take_at : (rs : List Range) (n i : ℕ) → i < n → range_of (take n rs) i ≡ range_of rs i
take_at rs n i h = get_or-take n rs i no_range h

-- a list names a cell by one of its ranges
pub named_at : (rs : List Range) (c : ℕ) → named rs c ≡ true → (i : ℕ) × (i < length rs) × (covers (range_of rs i) c ≡ true)
named_at [] c h = absurd (false≢true h)
named_at (r ∷ rs) c h =
    by_bool (covers r c)
    (λ e. (0, omega arith, e))
    (λ e. let n = named_at rs c (rw e at h) in (suc n.0, omega (arith, n.1), n.2))

module _ (rs : List Range) (c : ℕ) where
  -- a range names it, and none does
  pub named_by : (i : ℕ) → i < length rs → covers (range_of rs i) c ≡ true → named rs c ≡ true
  named_by i l h = or_at (λ rs. named rs c) (λ r. covers r c) refl (λ _ _. refl) rs i no_range l h

  pub named_nowhere : ((i : ℕ) → i < length rs → covers (range_of rs i) c ≡ false) → named rs c ≡ false
  named_nowhere h = or_from_places (λ rs. named rs c) (λ r. covers r c) refl (λ _ _. refl) rs no_range h

  pub not_by : named rs c ≡ false → (i : ℕ) → i < length rs → covers (range_of rs i) c ≡ false
  not_by h i l = is_false (covers (range_of rs i) c) (λ e. true≢ (named_by i l e) h)

  -- a cell that is named lies in memory, where the ranges do
  pub named_within : (m : ℕ) → Within m rs → named rs c ≡ true → c < m
  named_within m w h =
      let n = named_at rs c h in
      let b = covers_bounds (range_of rs n.0) c n.2 in
      omega (arith, b.1, w n.0 n.1)

  -- the first range that names it fixes its kind and rule
  module _ (k : ℕ) (l : k < length rs) (none : (i : ℕ) → i < k → covers (range_of rs i) c ≡ false) (here : covers (range_of rs k) c ≡ true) where
    pub kind_by : kind_for rs c ≡ (range_of rs k).kind
    kind_by = found_at (λ rs. kind_for rs c) (λ r. covers r c) (λ r. r.kind) 0 refl (λ _ _. refl) rs k no_range l none here

    pub rule_by : rule_for rs c ≡ (range_of rs k).rule
    rule_by = found_at (λ rs. rule_for rs c) (λ r. covers r c) (λ r. r.rule) 0 refl (λ _ _. refl) rs k no_range l none here

-- does a range make the cell read-write?
abbrev pub raising : ℕ → Range → Bool
raising c r = covers r c && eqb r.label 1

module _ (c : ℕ) where
  -- what a test of each range says
  pub named_any : (rs : List Range) → list_any (λ r. covers r c) rs ≡ named rs c
  named_any = same_from_clauses (list_any (λ r. covers r c)) (λ rs. named rs c) (λ r x. covers r c || x) refl (λ _ _. refl) (λ _ _. refl)

  pub label_any : (rs : List Range) → list_any (raising c) rs ≡ eqb (label_for rs c) 1
  label_any [] = refl
  label_any (r ∷ rs) = raised (raising c r) (label_for rs c) (list_any (raising c) rs) (label_any rs)
    where
      raised : (x : Bool) (l : ℕ) (b : Bool) → b ≡ eqb l 1 → (x || b) ≡ eqb (cond x 1 l) 1
      raised true l b e = refl
      raised false l b e = e

-- a range makes it read-write, and none does
module _ (rs : List Range) (c : ℕ) where
  pub label_by : (i : ℕ) → i < length rs → raising c (range_of rs i) ≡ true → label_for rs c ≡ 1
  label_by i l h = eqb-true (label_for rs c) 1 (sym (label_any c rs) ∙ or_at (list_any (raising c)) (raising c) refl (λ _ _. refl) rs i no_range l h)

  pub label_nowhere : ((i : ℕ) → i < length rs → raising c (range_of rs i) ≡ false) → label_for rs c ≡ 0
  label_nowhere h =
      let e = sym (label_any c rs) ∙ or_from_places (list_any (raising c)) (raising c) refl (λ _ _. refl) rs no_range h in
      omega (arith, label_low c rs, eqb-false (label_for rs c) 1 e)

-- the first range that names it, where there is one
module _ (rs : List Range) (c k : ℕ) where
  pub naming_make : k < length rs → covers (range_of rs k) c ≡ true → ((i : ℕ) → i < k → covers (range_of rs i) c ≡ false) → FirstNaming rs c k
  naming_make l here none = record {
    high = omega arith;
    none = let n = length-take-le k rs (omega arith) in named_nowhere (take k rs) c (λ i h. rw (take_at rs k i (omega arith)) (none i (omega arith)));
    some = λ _. here;
  }

  module _ (f : FirstNaming rs c k) where
    pub naming_none : (i : ℕ) → i < k → covers (range_of rs i) c ≡ false
    naming_none i l = rw (take_at rs k i l) at (not_by (take k rs) c f.none i (omega (arith, length-take-le k rs f.high)))

    -- the list names the cell where one of its ranges does so first
    pub naming_some : ltb k (length rs) ≡ named rs c
    naming_some =
        by_le (length rs) k
        (λ l. le-ltb k (length rs) l ∙ sym (ap (λ (xs : List Range). named xs c) (sym (take_all k rs l)) ∙ f.none))
        (λ l. lt-ltb k (length rs) l ∙ sym (named_by rs c k l (f.some l)))

    pub naming_below : named rs c ≡ true → k < length rs
    naming_below h = ltb-true k (length rs) (naming_some ∙ h)

-- the first n ranges of a list: one more, and those from the k-th to before the n-th left out, none of which names the cell
module _ (rs : List Range) (c : ℕ) where
  pub named_more : (n : ℕ) → n < length rs → named (take (n + 1) rs) c ≡ (named (take n rs) c || covers (range_of rs n) c)
  named_more n l =
      ap (λ (xs : List Range). named xs c) (take_more rs n no_range l) ∙ named_append c (take n rs) (range_of rs n ∷ [])
      ∙ ap (λ (x : Bool). named (take n rs) c || x) (or_none (covers (range_of rs n) c))

  pub named_until : (k n : ℕ) → k ≤ n → n ≤ length rs → ((j : ℕ) → k ≤ j → j < n → covers (range_of rs j) c ≡ false) → named (take k rs) c ≡ named (take n rs) c
  named_until k zero l u h = let e : k ≡ 0 = omega arith in ap (λ (m : ℕ). named (take m rs) c) e
  named_until k (suc n) l u h =
      ⊎_elim
      (λ (q : k ≡ suc n). ap (λ (m : ℕ). named (take m rs) c) q)
      (λ (q : k < suc n).
      named_until k n (le_of_suc-le-suc q) (omega arith) (λ j a b. h j a (omega arith))
      ∙ sym (or_none (named (take n rs) c)) ∙ ap (λ (x : Bool). named (take n rs) c || x) (sym (h n (omega arith) (omega arith)))
      ∙ sym (ap (λ (m : ℕ). named (take m rs) c) (sym (add-one n)) ∙ named_more n (omega arith)))
      (eq-or-lt_of_le l)
