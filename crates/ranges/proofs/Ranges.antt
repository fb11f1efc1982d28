-- Laws of lists of records: what a list asks for a cell when records are added to it, and by which of its records it does. Assumes nothing.
use Rattle.std.proofs.Common.{◌≡◌, ℕ, zero, suc, ◌+◌, ◌%◌, ◌^◌, ◌<◌, ◌≤◌, Bool, true, false, cond, ◌&&◌, ◌||◌, eqb, ltb, leb, List, [], ◌∷◌, ◌++◌, length, sym, refl, ap, ◌∙◌, subst, ⊎_elim, le_of_suc-le-suc, not-suc-le-zero, eq-or-lt_of_le, add-one, arith, ltb-false, ltb-true, lt-ltb, le-leb, leb-true}
use mathlib.Core.Bool.{false≢true}
use Rattle.words.proofs.Scan.{by_bool, and_split, and_join, is_false, true≢}
use Rattle.ranges.specs.declared.Range.{Range}
use Rattle.ranges.specs.Ranges.{covers, named, kind_for, rule_for, label_for}

-- ---- one record

module _ (r : Range) (c : ℕ) where
  pub covers_bounds : covers r c ≡ true → (r.first ≤ c) × (c < r.first + r.count)
  covers_bounds h =
      let s = and_split (leb r.first c) (ltb c (r.first + r.count)) h in
      (leb-true _ _ s.0, ltb-true _ _ s.1)

  pub covers_make : r.first ≤ c → c < r.first + r.count → covers r c ≡ true
  covers_make l h = and_join (leb r.first c) (ltb c (r.first + r.count)) (le-leb _ _ l) (lt-ltb _ _ h)

  pub covers_not : (r.first ≤ c → c < r.first + r.count → ⊥) → covers r c ≡ false
  covers_not h = is_false (covers r c) (λ p. let b = covers_bounds p in h b.0 b.1)

  -- one comparison, of the difference d modulo 2^64
  pub covers_once : (d : ℕ) → (d + r.first) % 2 ^ 64 ≡ c → d < 2 ^ 64 → r.first < 2 ^ 32 → r.count < 2 ^ 32 → ltb d r.count ≡ covers r c
  covers_once d e fits f n =
      by_bool (ltb d r.count)
      (λ t. let l = ltb-true d r.count t in t ∙ sym (covers_make (omega arith) (omega arith)))
      (λ t. let l = ltb-false d r.count t in t ∙ sym (covers_not (λ a b. omega arith)))

-- ---- two lists, one after the other

or_assoc : (x y z : Bool) → (x || (y || z)) ≡ ((x || y) || z)
or_assoc true y z = refl
or_assoc false y z = refl

pub or_none : (x : Bool) → (x || false) ≡ x
or_none true = refl
or_none false = refl

cond_or : (x y : Bool) (k a b : ℕ) → cond x k (cond y a b) ≡ cond (x || y) (cond x k a) b
cond_or true y k a b = refl
cond_or false y k a b = refl

label_or : (x : Bool) (l a b : ℕ) → l ≡ cond (eqb a 1) 1 b → cond x 1 l ≡ cond (eqb (cond x 1 a) 1) 1 b
label_or true l a b h = refl
label_or false l a b h = h

label_covers : (x y b : Bool) (l : ℕ) → (l ≡ 1 → b ≡ true) → cond (x && y) 1 l ≡ 1 → (x || b) ≡ true
label_covers true y b l h e = refl
label_covers false y b l h e = h e

label_bit : (x : Bool) (l : ℕ) → l ≤ 1 → cond x 1 l ≤ 1
label_bit true l h = omega arith
label_bit false l h = h

module _ (c : ℕ) where
  pub named_append : (xs ys : List Range) → named (xs ++ ys) c ≡ (named xs c || named ys c)
  named_append [] ys = refl
  named_append (a ∷ xs) ys = ap (λ (x : Bool). covers a c || x) (named_append xs ys) ∙ or_assoc (covers a c) (named xs c) (named ys c)

  pub kind_append : (xs ys : List Range) → kind_for (xs ++ ys) c ≡ cond (named xs c) (kind_for xs c) (kind_for ys c)
  kind_append [] ys = refl
  kind_append (a ∷ xs) ys = ap (cond (covers a c) a.kind) (kind_append xs ys) ∙ cond_or (covers a c) (named xs c) a.kind (kind_for xs c) (kind_for ys c)

  pub rule_append : (xs ys : List Range) → rule_for (xs ++ ys) c ≡ cond (named xs c) (rule_for xs c) (rule_for ys c)
  rule_append [] ys = refl
  rule_append (a ∷ xs) ys = ap (cond (covers a c) a.rule) (rule_append xs ys) ∙ cond_or (covers a c) (named xs c) a.rule (rule_for xs c) (rule_for ys c)

  pub label_append : (xs ys : List Range) → label_for (xs ++ ys) c ≡ cond (eqb (label_for xs c) 1) 1 (label_for ys c)
  label_append [] ys = refl
  label_append (a ∷ xs) ys = label_or (covers a c && eqb a.label 1) (label_for (xs ++ ys) c) (label_for xs c) (label_for ys c) (label_append xs ys)

  pub label_low : (rs : List Range) → label_for rs c ≤ 1
  label_low [] = omega arith
  label_low (r ∷ rs) = label_bit (covers r c && eqb r.label 1) (label_for rs c) (label_low rs)

  pub label_named : (rs : List Range) → label_for rs c ≡ 1 → named rs c ≡ true
  label_named [] e = absurd (omega arith)
  label_named (r ∷ rs) e = label_covers (covers r c) (eqb r.label 1) (named rs c) (label_for rs c) (label_named rs) e
