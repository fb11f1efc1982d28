-- Laws of the orders of a list: keys in the order of the list name each range once, and so they do when they are sorted. Assumes nothing.
use Rattle.std.proofs.Common.{◌≡◌, ℕ, ◌<◌, ◌≤◌, Bool, true, false, not, eqb, List, ◌++◌, length, get_or, take, sym, refl, ap, ◌∙◌, subst, arith, eqb-true, eq-eqb, length-append}
use Rattle.words.specs.Scan.{first}
use Rattle.words.proofs.Scan.{by_le, first_hit, first_miss, true≢}
use Rattle.std.specs.List.Sorted.{IsPermutation}
use Rattle.std.proofs.lemmas.Grind.{get_or_moved}
use Rattle.std.proofs.lemmas.List.{get_or-take, length-take-le, get_or_append_left}
use Rattle.std.proofs.lemmas.List.Sorted.{IsPermutation-sym}
use Rattle.ranges.specs.Lists.{number_by, Names, Orders}

-- keys in the order of the list
pub names_keys : (n : ℕ) (keys : List ℕ) → ((k : ℕ) → k < n → number_by keys k ≡ k) → Names n keys
names_keys n keys h = (λ k l. omega (arith, h k l), λ p f i l. subst (λ j. p j ≡ true) (h i l) (f i l))

pub orders_keys : (n : ℕ) (keys : List ℕ) → n ≤ length keys → ((k : ℕ) → k < n → number_by keys k ≡ k) → Orders n keys
orders_keys n keys room h = (room, names_keys n keys h)

-- keys that name as others do
names_like : (n : ℕ) (s t : List ℕ) → ((k : ℕ) → k < n → get_or t k 0 ≡ get_or s k 0) → Names n s → Names n t
names_like n s t h o = (λ k l. rw (h k l) (o.0 k l), λ p f i l. o.1 p (λ k b. rw (sym (h k b)) (f k b)) i l)

-- each key of a list in another order stood somewhere before
moved : (s t : List ℕ) → IsPermutation s t → (k : ℕ) → k < length t → (j : ℕ) × (j < length s) × (get_or t k 0 ≡ get_or s j 0)
moved s t p k l =
    let m = get_or_moved s p.moves k 0 p.below (subst (λ (xs : List ℕ). k < length xs) p.is l) in
    (m.1.0, m.1.1, ap (λ (xs : List ℕ). get_or xs k 0) p.is ∙ m.1.2)

names_moved : (n : ℕ) (s t : List ℕ) → length s ≡ n → length t ≡ n → IsPermutation s t → Names n s → Names n t
names_moved n s t a b p o = (
  λ k l. let m = moved s t p k (omega arith) in rw m.2 (o.0 m.0 (omega (arith, m.1))),
  λ q f i l. o.1 q (λ k h. let m = moved t s (IsPermutation-sym s t p) k (omega arith) in rw m.2 (f m.0 (omega (arith, m.1)))) i l,
)

-- the first n keys alone
pub names_cut : (n : ℕ) (s : List ℕ) → Names n s → Names n (take n s)
names_cut n s o = names_like n s (take n s) (λ k h. get_or-take n s k 0 h) o

pub orders_cut : (n : ℕ) (s : List ℕ) → Orders n s → Orders n (take n s)
orders_cut n s o = (omega (arith, length-take-le n s o.0), names_cut n s o.1)

-- and in another order, where no more than these are sorted
pub orders_sorted : (n m : ℕ) (s t u : List ℕ) → m ≡ n → length t ≡ length (take m s) → IsPermutation (take m s) t → Orders n s → Orders n (t ++ u)
orders_sorted n m s t u few e p o =
    let cut : length (take m s) ≡ m = length-take-le m s (omega (arith, o.0)) in (
      omega (arith, length-append t u),
      names_like n t (t ++ u) (λ k h. get_or_append_left t u 0 k (omega arith))
          (names_moved n (take m s) t (omega arith) (omega arith) p (subst (λ (x : ℕ). Names n (take x s)) (sym few) (names_cut n s o.1))),
    )

-- a key names each number below n
pub place_in : (n : ℕ) (order : List ℕ) → Names n order → (i : ℕ) → i < n → (k : ℕ) × (k < n) × (number_by order k ≡ i)
place_in n order o i l =
    let f = λ (j : ℕ). eqb (number_by order j) i in
    by_le n (first n f)
    (λ none. absurd (true≢ (o.1 (λ j. not (eqb j i)) (λ k b. ap not (first_miss n f k (omega arith))) i l) (ap not (eq-eqb i i refl))))
    (λ here. (first n f, here, eqb-true (number_by order (first n f)) i (first_hit n f here)))

-- what holds of every range that a key names holds of all of them
pub by_order : (n : ℕ) (order : List ℕ) → Names n order → (Q : ℕ → Type 0) → ((j : ℕ) → j < n → Q (number_by order j)) → (i : ℕ) → i < n → Q i
by_order n order o Q h i l =
    let p = place_in n order o i l in
    subst Q p.2 (h p.0 p.1)

-- what is not so of any that a key names, but one, is so of no other
pub by_order_but : (n : ℕ) (order : List ℕ) → Names n order → (f : ℕ → Bool) (r : ℕ) → ((j : ℕ) → j < n → (number_by order j ≡ r → ⊥) → f (number_by order j) ≡ false)
    → (i : ℕ) → i < n → (i ≡ r → ⊥) → f i ≡ false
by_order_but n order o f r = by_order n order o (λ i. (i ≡ r → ⊥) → f i ≡ false)
