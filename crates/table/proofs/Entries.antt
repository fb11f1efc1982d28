-- What changes of many entries leave in the table, and that pairs may name them. Assumes nothing.
use Prim.Native.Nat.{ℕ, zero, suc, ◌*◌, ◌≤◌, ◌<◌}
use mathlib.Core.Bool.{true, cond}
use mathlib.Core.List.{List, [], ◌∷◌, ◌++◌}
use mathlib.Core.Path.{◌≡◌, refl, sym, ap, subst, ◌∙◌}
use native.Mathlib.Nat.{not-suc-le-zero}
use native.Mathlib.Omega.{arith}
use borrow.Author.Tests.{eqb-true, eqb-false}
use lib.Dec.{eqb}
use lib.ListN.{length, get_or, set, length-set, length-append}
use lib.Seq.{get_or-set_same, get_or-set_other}
use Rattle.words.specs.Layout.{first_at, second_at, pairs_at, handle_at, max_live}
use Rattle.words.specs.Scan.{count}
use Rattle.words.specs.Stores.{Store, store, stores, gather}
use Rattle.words.specs.Journal.{name_ok, names_ok}
use Rattle.words.proofs.Scan.{by_bool, count_le}
use Rattle.words.proofs.Plans.{Each, each_map, each_append, length_stores, get_or_stores, run_append}
use Rattle.words.proofs.Names.{name_from, names_make, names_each, names_above, names_rising}
use Rattle.words.proofs.Plans.{Rising}
use Rattle.words.proofs.Gather.{each_gather, gather_count}
use Rattle.table.specs.Entry.{word1, word2}
use Rattle.table.specs.Changes.{Change, keep, put, is_changed, new_first, new_second, entry_stores, entry_changes}

pub entry_few : (e i : ℕ) (c : Change) → length (entry_stores e i c) ≤ 2
entry_few e i keep = omega arith
entry_few e i (put w v) = omega arith

module _ (e : ℕ) (f : ℕ → Change) where
  pub upto_few : (n : ℕ) → length (gather n (λ i. entry_stores e i (f i))) ≤ 2 * n
  upto_few zero = omega arith
  upto_few (suc n) = rw length-append (omega (arith, upto_few n, entry_few e n (f n)))

  -- the stores of entry i are those of its two words
  own : (i : ℕ) (c : Change) → Each (λ s. (first_at e i ≤ s.at) × (s.at ≤ second_at e i)) (entry_stores e i c)
  own i keep = tt
  own i (put w v) = ((omega arith, omega arith), ((omega arith, omega arith), tt))

  within : (n : ℕ) → Each (λ s. (handle_at max_live ≤ s.at) × (s.at < first_at e n)) (gather n (λ i. entry_stores e i (f i)))
  within n =
      each_gather (λ i. entry_stores e i (f i)) (λ s. (handle_at max_live ≤ s.at) × (s.at < first_at e n)) n
      (λ i l. each_map (λ s. (first_at e i ≤ s.at) × (s.at ≤ second_at e i)) (λ s. (handle_at max_live ≤ s.at) × (s.at < first_at e n)) (entry_stores e i (f i)) (λ s h. (omega (arith, h.0), omega (arith, h.1))) (own i (f i)))

  -- ---- the words

  module _ (t : List ℕ) (long : pairs_at e ≤ length t) where
    abbrev upto : ℕ → List ℕ
    upto n = stores (gather n (λ i. entry_stores e i (f i))) t

    upto_suc : (n : ℕ) → upto (suc n) ≡ stores (entry_stores e n (f n)) (upto n)
    upto_suc n = run_append store (gather n (λ i. entry_stores e i (f i))) (entry_stores e n (f n)) t

    -- entry i, once it has been passed
    one1 : (i : ℕ) (c : Change) (u : List ℕ) → i < e → pairs_at e ≤ length u → get_or (stores (entry_stores e i c) u) (first_at e i) 0 ≡ new_first c (get_or u (first_at e i) 0)
    one1 i keep u l h = refl
    one1 i (put w v) u l h =
        get_or-set_other (set u (first_at e i) w) (second_at e i) (first_at e i) v 0 (λ q. omega arith) ∙ get_or-set_same u (first_at e i) w 0 (omega arith)

    one2 : (i : ℕ) (c : Change) (u : List ℕ) → i < e → pairs_at e ≤ length u → get_or (stores (entry_stores e i c) u) (second_at e i) 0 ≡ new_second c (get_or u (second_at e i) 0)
    one2 i keep u l h = refl
    one2 i (put w v) u l h = get_or-set_same (set u (first_at e i) w) (second_at e i) v 0 (simp length-set (omega arith))

    other : (i k : ℕ) (c : Change) (u : List ℕ) → (k ≡ first_at e i → ⊥) → (k ≡ second_at e i → ⊥) → get_or (stores (entry_stores e i c) u) k 0 ≡ get_or u k 0
    other i k keep u p q = refl
    other i k (put w v) u p q = get_or-set_other (set u (first_at e i) w) (second_at e i) k v 0 q ∙ get_or-set_other u (first_at e i) k w 0 p

    before : (n k : ℕ) → first_at e n ≤ k → get_or (upto n) k 0 ≡ get_or t k 0
    before n k h =
        get_or_stores (gather n (λ i. entry_stores e i (f i))) t k
        (each_map (λ s. (handle_at max_live ≤ s.at) × (s.at < first_at e n)) (λ s. k ≡ s.at → ⊥) (gather n (λ i. entry_stores e i (f i))) (λ s b q. omega (arith, b.1)) (within n))

    upto_long : (n : ℕ) → pairs_at e ≤ length (upto n)
    upto_long n = rw (length_stores (gather n (λ i. entry_stores e i (f i))) t) long

    passed1 : (n i : ℕ) → i < n → n ≤ e → get_or (upto n) (first_at e i) 0 ≡ new_first (f i) (get_or t (first_at e i) 0)
    passed1 zero i l h = absurd (not-suc-le-zero l)
    passed1 (suc n) i l h =
        ap (λ (u : List ℕ). get_or u (first_at e i) 0) (upto_suc n)
        ∙ by_bool (eqb i n)
        (λ z.
        let q = eqb-true i n z in
        subst (λ (x : ℕ). get_or (stores (entry_stores e n (f n)) (upto n)) (first_at e x) 0 ≡ new_first (f x) (get_or t (first_at e x) 0)) (sym q)
        (one1 n (f n) (upto n) (omega arith) (upto_long n) ∙ ap (new_first (f n)) (before n (first_at e n) (omega arith))))
        (λ z.
        let ne = eqb-false i n z in
        other n (first_at e i) (f n) (upto n) (λ q. ne (omega arith)) (λ q. omega arith) ∙ passed1 n i (omega arith) (omega arith))

    passed2 : (n i : ℕ) → i < n → n ≤ e → get_or (upto n) (second_at e i) 0 ≡ new_second (f i) (get_or t (second_at e i) 0)
    passed2 zero i l h = absurd (not-suc-le-zero l)
    passed2 (suc n) i l h =
        ap (λ (u : List ℕ). get_or u (second_at e i) 0) (upto_suc n)
        ∙ by_bool (eqb i n)
        (λ z.
        let q = eqb-true i n z in
        subst (λ (x : ℕ). get_or (stores (entry_stores e n (f n)) (upto n)) (second_at e x) 0 ≡ new_second (f x) (get_or t (second_at e x) 0)) (sym q)
        (one2 n (f n) (upto n) (omega arith) (upto_long n) ∙ ap (new_second (f n)) (before n (second_at e n) (omega arith))))
        (λ z.
        let ne = eqb-false i n z in
        other n (second_at e i) (f n) (upto n) (λ q. omega arith) (λ q. ne (omega arith)) ∙ passed2 n i (omega arith) (omega arith))

    pub first_changed : (i : ℕ) → i < e → word1 e (stores (entry_changes e f) t) i ≡ new_first (f i) (word1 e t i)
    first_changed i l = passed1 e i l (omega arith)

    pub second_changed : (i : ℕ) → i < e → word2 e (stores (entry_changes e f) t) i ≡ new_second (f i) (word2 e t i)
    second_changed i l = passed2 e i l (omega arith)

  pub head_unchanged : (t : List ℕ) (k : ℕ) → k < handle_at max_live → get_or (stores (entry_changes e f) t) k 0 ≡ get_or t k 0
  head_unchanged t k h =
      get_or_stores (entry_changes e f) t k
      (each_map (λ s. (handle_at max_live ≤ s.at) × (s.at < first_at e e)) (λ s. k ≡ s.at → ⊥) (entry_changes e f) (λ s b q. omega (arith, b.0)) (within e))

  -- ---- the words after stores of the head, hs, too

  module _ (hs : List Store) (low : Each (λ s. s.at < handle_at max_live) hs) (t : List ℕ) where
    -- what hs leave beyond the head
    beyond : (k : ℕ) → handle_at max_live ≤ k → get_or (stores hs t) k 0 ≡ get_or t k 0
    beyond k h = get_or_stores hs t k (each_map (λ s. s.at < handle_at max_live) (λ s. k ≡ s.at → ⊥) hs (λ s l q. omega arith) low)

    in_turn : stores (hs ++ entry_changes e f) t ≡ stores (entry_changes e f) (stores hs t)
    in_turn = run_append store hs (entry_changes e f) t

    pub head_staged : (k : ℕ) → k < handle_at max_live → get_or (stores (hs ++ entry_changes e f) t) k 0 ≡ get_or (stores hs t) k 0
    head_staged k h = ap (λ (u : List ℕ). get_or u k 0) in_turn ∙ head_unchanged (stores hs t) k h

    module _ (long : pairs_at e ≤ length t) (i : ℕ) (l : i < e) where
      still_long : pairs_at e ≤ length (stores hs t)
      still_long = rw (length_stores hs t) long

      pub first_staged : word1 e (stores (hs ++ entry_changes e f) t) i ≡ new_first (f i) (word1 e t i)
      first_staged =
          ap (λ (u : List ℕ). word1 e u i) in_turn ∙ first_changed (stores hs t) still_long i l ∙ ap (new_first (f i)) (beyond (first_at e i) (omega arith))

      pub second_staged : word2 e (stores (hs ++ entry_changes e f) t) i ≡ new_second (f i) (word2 e t i)
      second_staged =
          ap (λ (u : List ℕ). word2 e u i) in_turn ∙ second_changed (stores hs t) still_long i l ∙ ap (new_second (f i)) (beyond (second_at e i) (omega arith))

  -- ---- their number and their names

  stores_length : (i : ℕ) (c : Change) → length (entry_stores e i c) ≡ cond (is_changed c) 2 0
  stores_length i keep = refl
  stores_length i (put w v) = refl

  pub changes_count : length (entry_changes e f) ≡ 2 * count e (λ i. is_changed (f i))
  changes_count = gather_count 2 e (λ i. is_changed (f i)) (λ i. entry_stores e i (f i)) (λ i. stores_length i (f i))

  -- at most two words for each entry
  pub changes_few : length (entry_changes e f) ≤ 2 * e
  changes_few = omega (arith, changes_count, count_le e (λ i. is_changed (f i)))

  rising_one : (i : ℕ) (c : Change) → Rising (entry_stores e i c)
  rising_one i keep = tt
  rising_one i (put w v) = ((omega arith, tt), (tt, tt))

  rising_append : (xs ys : List Store) (n : ℕ) → Each (λ s. s.at < n) xs → Each (λ s. n ≤ s.at) ys → Rising xs → Rising ys → Rising (xs ++ ys)
  rising_append [] ys n a b r q = q
  rising_append (x ∷ xs) ys n a b r q =
      (each_append (λ s. x.at < s.at) xs ys r.0 (each_map (λ s. n ≤ s.at) (λ s. x.at < s.at) ys (λ s h. omega (arith, a.0)) b), rising_append xs ys n a.1 b r.1 q)

  rising_all : (n : ℕ) → Rising (gather n (λ i. entry_stores e i (f i)))
  rising_all zero = tt
  rising_all (suc n) =
      rising_append (gather n (λ i. entry_stores e i (f i))) (entry_stores e n (f n)) (first_at e n)
      (each_map (λ s. (handle_at max_live ≤ s.at) × (s.at < first_at e n)) (λ s. s.at < first_at e n) (gather n (λ i. entry_stores e i (f i))) (λ s h. h.1) (within n))
      (each_map (λ s. (first_at e n ≤ s.at) × (s.at ≤ second_at e n)) (λ s. first_at e n ≤ s.at) (entry_stores e n (f n)) (λ s h. h.0) (own n (f n)))
      (rising_all n) (rising_one n (f n))

  -- after changes of the head, whose words lie in front of the entries
  pub changes_names : (hs : List Store) → names_ok (pairs_at e) 0 hs ≡ true → Each (λ s. s.at < handle_at max_live) hs → names_ok (pairs_at e) 0 (hs ++ entry_changes e f) ≡ true
  changes_names hs h low =
      names_make (pairs_at e) 0 (hs ++ entry_changes e f)
      (each_append (λ s. name_ok (pairs_at e) s.at ≡ true) hs (entry_changes e f) (names_each (pairs_at e) 0 hs h)
      (each_map (λ s. (handle_at max_live ≤ s.at) × (s.at < first_at e e)) (λ s. name_ok (pairs_at e) s.at ≡ true) (entry_changes e f) (λ s b. name_from (pairs_at e) s.at (omega (arith, b.0)) (omega (arith, b.1))) (within e)))
      (each_append (λ s. 0 < s.at) hs (entry_changes e f) (names_above (pairs_at e) 0 hs h)
      (each_map (λ s. (handle_at max_live ≤ s.at) × (s.at < first_at e e)) (λ s. 0 < s.at) (entry_changes e f) (λ s b. omega (arith, b.0)) (within e)))
      (rising_append hs (entry_changes e f) (handle_at max_live) low
      (each_map (λ s. (handle_at max_live ≤ s.at) × (s.at < first_at e e)) (λ s. handle_at max_live ≤ s.at) (entry_changes e f) (λ s b. b.0) (within e))
      (names_rising (pairs_at e) 0 hs h) (rising_all e))

  -- and by themselves
  pub entries_names : names_ok (pairs_at e) 0 (entry_changes e f) ≡ true
  unfolding names_ok
  entries_names = changes_names [] refl tt
