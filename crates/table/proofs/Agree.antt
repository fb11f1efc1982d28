-- The table's rule reads only the words in front of the pairs, and of those not word 6. Assumes nothing.
use Prim.Native.Nat.{ℕ, ◌-◌, ◌<◌}
use mathlib.Core.List.{List}
use mathlib.Core.Path.{◌≡◌, sym, ap, subst, ◌∙◌}
use native.Mathlib.Omega.{arith}
use borrow.Author.Tests.{eqb-true, eqb-false, ltb-true}
use lib.ListN.{length, get_or, set}
use lib.Seq.{get_or-set_same, get_or-set_other}
use lib.Dec.{eqb, ltb}
use Rattle.words.specs.Layout.{live_at, next_at, pending_at, handle_at, max_live, pairs_at, first_at, second_at}
use Rattle.words.proofs.Scan.{all_ext, first_ext, by_bool}
use Rattle.table.specs.Entry.{word1, names, depth_of, cell_of, parent, find_in, holds_in}
use Rattle.table.specs.Rule.{head_ok, handle_ok, entry_ok, holds_plain, parent_ok, apart, apart_before, rule_ok}

-- ---- lists that agree below a bound
abbrev pub Agree : ℕ → List ℕ → List ℕ → Type 0
Agree n s t = (k : ℕ) → k < n → get_or s k 0 ≡ get_or t k 0

pub agree_set : (n x v : ℕ) (s t : List ℕ) → x < length s → x < length t → Agree n s t → Agree n (set s x v) (set t x v)
agree_set n x v s t ls lt h k l =
    by_bool (eqb k x)
    (λ p. subst (λ (y : ℕ). get_or (set s x v) y 0 ≡ get_or (set t x v) y 0) (sym (eqb-true k x p)) (get_or-set_same s x v 0 ls ∙ sym (get_or-set_same t x v 0 lt)))
    (λ p.
    let ne = eqb-false k x p in
    get_or-set_other s x k v 0 ne ∙ h k l ∙ sym (get_or-set_other t x k v 0 ne))

-- ---- the rule reads only the words in front of the pairs, and not how many pairs are pending
abbrev pub Same : ℕ → List ℕ → List ℕ → Type 0
Same n s t = (k : ℕ) → k < n → (k ≡ pending_at → ⊥) → get_or s k 0 ≡ get_or t k 0

module _ (m e b : ℕ) (s t : List ℕ) (h : Same (pairs_at e) s t) where
  find_agree : (d c : ℕ) → find_in e s d c ≡ find_in e t d c
  unfolding find_in
  find_agree d c = first_ext e _ _ (λ k l. ap (names d c) (h (first_at e k) (omega arith) (λ z. omega arith)))

  handle_agree : (k : ℕ) → k < max_live → handle_ok s k ≡ handle_ok t k
  unfolding handle_ok
  handle_agree k l = rw (h live_at (omega arith) (λ z. omega arith), h next_at (omega arith) (λ z. omega arith), h (handle_at k) (omega arith) (λ z. omega arith), h (handle_at (k - 1)) (omega arith) (λ z. omega arith))

  entry_agree : (i : ℕ) → i < e → entry_ok m e b s i ≡ entry_ok m e b t i
  unfolding entry_ok
  entry_agree i l = rw (h live_at (omega arith) (λ z. omega arith), h (first_at e i) (omega arith) (λ z. omega arith), h (second_at e i) (omega arith) (λ z. omega arith))

  plain_agree : (d c : ℕ) → holds_plain e s d c ≡ holds_plain e t d c
  unfolding holds_in
  plain_agree d c =
      by_bool (ltb (find_in e t d c) e)
      (λ p.
      let l = ltb-true (find_in e t d c) e p in
      rw (find_agree d c, p, h (first_at e (find_in e t d c)) (omega (arith, l)) (λ z. omega arith)))
      (λ p. rw (find_agree d c, p))

  parent_agree : (i : ℕ) → i < e → parent_ok e s i ≡ parent_ok e t i
  unfolding parent_ok
  parent_agree i l = rw (h (first_at e i) (omega arith) (λ z. omega arith), plain_agree (parent (depth_of (word1 e t i))) (cell_of (word1 e t i)))

  apart_agree : (i j : ℕ) → i < e → j < i → apart e s j i ≡ apart e t j i
  unfolding apart
  apart_agree i j l k =
      rw (h (first_at e i) (omega arith) (λ z. omega arith), h (first_at e j) (omega arith) (λ z. omega arith), h (second_at e i) (omega arith) (λ z. omega arith), h (second_at e j) (omega arith) (λ z. omega arith))

  pub rule_same : rule_ok m e b s ≡ rule_ok m e b t
  unfolding rule_ok head_ok
  rule_same =
      rw (
        h live_at (omega arith) (λ z. omega arith),
        h next_at (omega arith) (λ z. omega arith),
        all_ext max_live (handle_ok s) (handle_ok t) handle_agree,
        all_ext e (entry_ok m e b s) (entry_ok m e b t) entry_agree,
        all_ext e (parent_ok e s) (parent_ok e t) parent_agree,
        all_ext e (apart_before e s) (apart_before e t) (λ i l. all_ext i (λ (j : ℕ). apart e s j i) (λ (j : ℕ). apart e t j i) (λ j k. apart_agree i j l k)),
      )

pub ok_agree : (m e b : ℕ) (s t : List ℕ) → Agree (pairs_at e) s t → rule_ok m e b s ≡ rule_ok m e b t
ok_agree m e b s t h = rule_same m e b s t (λ k l z. h k l)
