-- Pending pairs: the check of the words that they name, and the table that they mean. Assumes nothing.
use mathlib.Core.Path.{◌≡◌, refl, sym, ap, subst, ◌∙◌}
use mathlib.Core.Bool.{Bool, true, false, ◌&&◌}
use mathlib.Core.List.{List}
use Prim.Native.Nat.{ℕ, ◌+◌, ◌*◌, ◌<◌, ◌≤◌}
use native.Mathlib.Omega.{arith}
use borrow.Author.Tests.{le-leb, leb-true}
use lib.Dec.{leb}
use lib.ListN.{length, get_or, set, take}
use lib.Seq.{get_or-set_other, get_or-take, take_all}
use Rattle.words.specs.Layout.{pending_at, pairs_at, max_pairs}
use Rattle.words.specs.Stores.{Store, ◌≔◌, store, stores}
use Rattle.words.specs.Journal.{pair_at, pairs, pending, name_ok, names_ok, effective}
use Rattle.words.proofs.Scan.{and_split, and_join}
use Rattle.words.proofs.Plans.{get_or_tab, take_tab, each_at, length_stores, run_take_tab}
use Rattle.words.proofs.Names.{name_fine, names_each}
use Rattle.words.proofs.Pairs.{length_pairs}
use Rattle.table.specs.Rule.{pairs_ok, rule_ok, table_ok}
use Rattle.table.proofs.Agree.{Agree, agree_set, Same, rule_same}

pub and_yes : (a b : Bool) → a ≡ true → (a && b) ≡ b
and_yes a b e = rw e

pub and_no : (a b : Bool) → a ≡ false → (a && b) ≡ false
and_no a b e = rw e

-- ---- question 4 on pending pairs
pub pairs_make : (e : ℕ) (t : List ℕ) → pending t ≤ max_pairs e → names_ok (pairs_at e) 0 (pairs t (pairs_at e) (pending t)) ≡ true → pairs_ok e t ≡ true
unfolding pairs_ok
pairs_make e t l h = and_join _ _ (le-leb _ _ l) h

module _ (e : ℕ) (t : List ℕ) (ok : pairs_ok e t ≡ true) where
  halves : (pending t ≤ max_pairs e) × (names_ok (pairs_at e) 0 (pairs t (pairs_at e) (pending t)) ≡ true)
  unfolding pairs_ok
  halves = let s = and_split (leb (pending t) (max_pairs e)) _ ok in (leb-true _ _ s.0, s.1)

  pub pairs_few : pending t ≤ max_pairs e
  pairs_few = halves.0

  pub pairs_names : names_ok (pairs_at e) 0 (pairs t (pairs_at e) (pending t)) ≡ true
  pairs_names = halves.1

  pub pairs_fine : (j : ℕ) → j < pending t → (get_or t (pairs_at e + 2 * j) 0 < pairs_at e) × (get_or t (pairs_at e + 2 * j) 0 ≡ pending_at → ⊥)
  unfolding pairs
  pairs_fine j h =
      name_fine (pairs_at e) (get_or t (pairs_at e + 2 * j) 0) (omega arith)
      (subst (λ (s : Store). name_ok (pairs_at e) s.at ≡ true) (get_or_tab (pair_at t (pairs_at e)) (pending t) j (0 ≔ 0) h)
      (each_at (λ s. name_ok (pairs_at e) s.at ≡ true) (pairs t (pairs_at e) (pending t)) j (0 ≔ 0) (names_each (pairs_at e) 0 (pairs t (pairs_at e) (pending t)) halves.1) (rw length_pairs h)))

-- ---- putting the pairs in place, one by one
module _ (t : List ℕ) (first : ℕ) where
  pub put_none : (l : List ℕ) → stores (pairs t first 0) l ≡ l
  unfolding pairs
  put_none l = refl

  put_more : (j : ℕ) (l : List ℕ) → stores (pairs t first (j + 1)) l ≡ store (pair_at t first j) (stores (pairs t first j) l)
  unfolding pairs
  put_more j l =
      let whole : take (j + 1) (pairs t first (j + 1)) ≡ pairs t first (j + 1) = take_all (j + 1) (pairs t first (j + 1)) (rw length_pairs (omega arith)) in
      let part : take j (pairs t first (j + 1)) ≡ pairs t first j = take_tab (pair_at t first) (j + 1) j (omega arith) in
      ap (λ (ps : List Store). stores ps l) (sym whole)
      ∙ sym (run_take_tab store j (j + 1) (pair_at t first) l (omega arith))
      ∙ ap (λ (ps : List Store). store (pair_at t first j) (stores ps l)) part

  -- a copy of the words in front of the pairs, after one pair more
  pub put_agree : (j : ℕ) (s : List ℕ) → get_or t (first + 2 * j) 0 < first → first ≤ length s → first ≤ length t
      → Agree first s (stores (pairs t first j) t) → Agree first (set s (get_or t (first + 2 * j) 0) (get_or t (first + 2 * j + 1) 0)) (stores (pairs t first (j + 1)) t)
  put_agree j s below ls lt h k l =
      agree_set first (get_or t (first + 2 * j) 0) (get_or t (first + 2 * j + 1) 0) s (stores (pairs t first j) t) (omega arith) (omega (arith, length_stores (pairs t first j) t)) h k l
      ∙ ap (λ (x : List ℕ). get_or x k 0) (sym (put_more j t))

-- ---- the effective table
pub effective_same : (first : ℕ) (t : List ℕ) → Same first (effective first t) (stores (pairs t first (pending t)) t)
unfolding effective
effective_same first t k l z =
    get_or-take first (set (stores (pairs t first (pending t)) t) pending_at 0) k 0 l ∙ get_or-set_other (stores (pairs t first (pending t)) t) pending_at k 0 0 z

-- with nothing pending a table means itself
pub idle_same : (first : ℕ) (t : List ℕ) → pending t ≡ 0 → Same first (effective first t) t
idle_same first t idle k l z =
    effective_same first t k l z ∙ ap (λ (p : ℕ). get_or (stores (pairs t first p) t) k 0) idle ∙ ap (λ (x : List ℕ). get_or x k 0) (put_none t first t)

-- ---- none pending: the table is its own meaning
idle_pairs : (e : ℕ) (t : List ℕ) → pending t ≡ 0 → pairs_ok e t ≡ true
unfolding pairs names_ok
idle_pairs e t h = pairs_make e t (omega (arith, h)) (rw h)

pub idle_rule : (m e b : ℕ) (t : List ℕ) → pending t ≡ 0 → table_ok m e b t ≡ rule_ok m e b t
unfolding table_ok
idle_rule m e b t h = and_yes _ _ (idle_pairs e t h) ∙ rule_same m e b (effective (pairs_at e) t) t (idle_same (pairs_at e) t h)
