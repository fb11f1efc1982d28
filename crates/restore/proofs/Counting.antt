-- Restore stores as many bytes and replaces as many words as the model says: 64 bytes for each cell that the named domain or one inside it
-- holds; and where domains end, two words for each of their entries, one for each of them, and word 4. Assumes nothing.
use Prim.Native.Nat.{ℕ, zero, suc, ◌+◌, ◌-◌, ◌*◌, ◌≤◌, ◌<◌}
use mathlib.Core.Bool.{Bool, true, false, ◌&&◌, ◌||◌, and-true}
use mathlib.Core.List.{List, [], ◌∷◌}
use mathlib.Core.Option.{Option, none, some}
use mathlib.Core.Path.{◌≡◌, refl, sym, ap, ◌∙◌}
use native.Mathlib.Nat.{not-suc-le-zero}
use native.Mathlib.Omega.{arith}
use borrow.Author.Tests.{eq-eqb, ne_eqb, eqb-true, eqb-false}
use lib.Dec.{ltb, eqb}
use lib.ListN.{length, drop, length-append}
use Rattle.words.specs.Layout.{slots_of, pairs_at, live_at, handle_at, max_live}
use Rattle.words.specs.Scan.{count}
use Rattle.words.specs.Stores.{◌≔◌, tab_from}
use Rattle.words.proofs.Scan.{by_bool, count_ext, count_le, count_none}
use Rattle.words.specs.Journal.{name_ok, names_ok}
use Rattle.words.proofs.Plans.{Rising, each_tab, each_tab_from, length_tab}
use Rattle.words.proofs.Names.{name_live, name_from, names_make}
use Rattle.table.specs.Entry.{live, word1, depth_of, holds_in}
use Rattle.table.specs.Changes.{is_changed, entry_changes}
use Rattle.table.proofs.Rule.{Rule}
use Rattle.table.proofs.Entries.{changes_count, changes_names}
use Rattle.search.specs.Search.{held_from, bytes_from}
use Rattle.model.specs.State.{Holding, Domain}
use Rattle.model.specs.Holdings.{is_held, count_held}
use Rattle.model.specs.Restore.{or_inner, first_held, outermost, cells_put_back, ended_domains, freed_entries}
use Rattle.model.specs.Restore as model
use Rattle.store.specs.State.{state_in}
use Rattle.store.proofs.Domains.{domains_count, held_holds}
use Rattle.store.proofs.InUse.{held_past}
use Rattle.store.proofs.Outermost.{outermost_held}
use Rattle.restore.specs.Restore.{restore_change, restore_words, restore_bytes}
use Rattle.restore.specs.Parts.{head_words, ending_words}
use Rattle.restore.proofs.Putting.{cells_length}

-- ---- counts

-- those that pass one of two tests are at most as many as pass the first and as pass the second
count_either : (n : ℕ) (f g : ℕ → Bool) → count n (λ k. f k || g k) ≤ count n f + count n g
unfolding count
count_either zero f g = omega arith
count_either (suc n) f g =
    let rest : count n (λ k. f k || g k) ≤ count n f + count n g = count_either n f g in
    by_bool (f n)
    (λ p. by_bool (g n) (λ q. rw (p, q) (omega arith)) (λ q. rw (p, q) (omega arith)))
    (λ p. by_bool (g n) (λ q. rw (p, q) (omega arith)) (λ q. rw (p, q) rest))

-- ---- cells put back, and the entries that hold them

held_either : (o r : Option Holding) → is_held (or_inner o r) ≡ (is_held o || is_held r)
held_either none r = refl
held_either (some h) r = refl

pub cells_few : (m : ℕ) (ds : List Domain) → count m (λ c. is_held (first_held ds c)) ≤ count_held m is_held ds
cells_few m [] = let z = count_none m (λ c. false) (λ k l. refl) in omega arith
cells_few m (x ∷ xs) =
    let rest = cells_few m xs in
    let one : count m (λ c. is_held (or_inner (x.holds c) (first_held xs c))) ≡ count m (λ c. is_held (x.holds c) || is_held (first_held xs c)) =
    count_ext m _ _ (λ c l. held_either (x.holds c) (first_held xs c)) in
    let two = count_either m (λ c. is_held (x.holds c)) (λ c. is_held (first_held xs c)) in
    omega arith

-- ---- entries, as cells of domains

module _ (m e b : ℕ) (t : List ℕ) (ok : Rule m e b t) (bodies : List ℕ) where
  -- the entries of the domains past the first x
  pub entries_past : (x : ℕ) → x ≤ live t → count_held m is_held (drop x (state_in e t bodies).domains) ≡ count e (λ i. ltb x (depth_of (word1 e t i)))
  entries_past x l =
      held_past m e b t ok bodies (λ w. true) is_held (λ d c. held_holds e t bodies d c ∙ sym (and-true (holds_in e t d c))) x l
      ∙ count_ext e (λ i. ltb x (depth_of (word1 e t i)) && true) (λ i. ltb x (depth_of (word1 e t i))) (λ i h. and-true (ltb x (depth_of (word1 e t i))))

  -- at most one cell is put back for each entry
  pub put_few : (d : ℕ) → 1 ≤ d → d ≤ live t → cells_put_back m d (state_in e t bodies) ≤ e
  put_few zero low high = absurd (not-suc-le-zero low)
  put_few (suc x) low high =
      let a = cells_few m (drop x (state_in e t bodies).domains) in
      let b = entries_past x (omega arith) in
      let c = count_le e (λ i. ltb x (depth_of (word1 e t i))) in
      omega arith

-- ---- the words

module _ (e : ℕ) (t : List ℕ) (d : ℕ) where
  changed_is : (i : ℕ) → is_changed (restore_change e t d i) ≡ ltb d (depth_of (word1 e t i))
  unfolding restore_change
  changed_is i = by_bool (ltb d (depth_of (word1 e t i))) (λ z. rw z) (λ z. rw z)

  pub end_count : length (ending_words e t d (live t)) ≡ 1 + (live t - d) + 2 * count e (λ i. ltb d (depth_of (word1 e t i)))
  end_count =
      length-append (head_words d (live t)) (entry_changes e (restore_change e t d))
      ∙ rw (length_tab (λ k. handle_at (d + k) ≔ 0) (live t - d), changes_count e (restore_change e t d), count_ext e _ _ (λ i l. changed_is i))
      (omega arith)

  -- pairs may name them
  rising_from : (at n : ℕ) → Rising (tab_from (λ k. handle_at (d + k) ≔ 0) at n)
  rising_from at zero = tt
  rising_from at (suc n) = (
    each_tab_from (λ w. handle_at (d + at) < w.at) (λ k. handle_at (d + k) ≔ 0) (suc at) n (λ i l. omega arith),
    rising_from (suc at) n,
  )

  pub end_names : live t ≤ max_live → names_ok (pairs_at e) 0 (ending_words e t d (live t)) ≡ true
  end_names few =
      changes_names e (restore_change e t d) (head_words d (live t))
      (names_make (pairs_at e) 0 (head_words d (live t))
      (name_live (pairs_at e), each_tab (λ w. name_ok (pairs_at e) w.at ≡ true) (λ k. handle_at (d + k) ≔ 0) (live t - d) (λ k l. name_from (pairs_at e) (handle_at (d + k)) (omega arith) (omega arith)))
      (omega arith, each_tab (λ w. 0 < w.at) (λ k. handle_at (d + k) ≔ 0) (live t - d) (λ k l. omega arith))
      (each_tab (λ w. live_at < w.at) (λ k. handle_at (d + k) ≔ 0) (live t - d) (λ k l. omega arith), rising_from 0 (live t - d)))
      (omega arith, each_tab (λ w. w.at < handle_at max_live) (λ k. handle_at (d + k) ≔ 0) (live t - d) (λ k l. omega arith))

module _ (t : List ℕ) (d : ℕ) where
  abbrev e : ℕ
  e = slots_of (length t)

  -- none where no domain ends
  pub words_none : live t ≡ d → restore_words d t ≡ []
  unfolding restore_words
  words_none q = rw (eq-eqb (live t) d q)

  pub words_some : (live t ≡ d → ⊥) → restore_words d t ≡ ending_words (slots_of (length t)) t d (live t)
  unfolding restore_words
  words_some q = rw (ne_eqb (live t) d q)

  pub words_names : live t ≤ max_live → names_ok (pairs_at (slots_of (length t))) 0 (restore_words d t) ≡ true
  words_names few =
      by_bool (eqb (live t) d)
      (λ z. rw (words_none (eqb-true (live t) d z)) (names_make (pairs_at e) 0 [] tt tt tt))
      (λ z. rw (words_some (eqb-false (live t) d z)) (end_names e t d few))

  pub words_few : 1 ≤ d → live t ≤ max_live → length (restore_words d t) ≤ 2 * slots_of (length t) + 8
  words_few low few =
      let c = count_le e (λ i. ltb d (depth_of (word1 e t i))) in
      by_bool (eqb (live t) d)
      (λ z. rw (words_none (eqb-true (live t) d z)) (omega arith))
      (λ z. rw (words_some (eqb-false (live t) d z)) (omega (arith, end_count e t d)))

  -- as many as the model says
  pub words_count : (m b : ℕ) (bodies : List ℕ) → Rule m (slots_of (length t)) b t → d ≤ live t
      → length (restore_words d t) ≡ model.restore_words m d (state_in (slots_of (length t)) t bodies)
  words_count m b bodies ok high =
      let n = domains_count e t bodies in
      by_bool (eqb (live t) d)
      (λ z.
      let q = eqb-true (live t) d z in
      let none-ends : ended_domains d (state_in e t bodies) ≡ 0 = omega arith in
      rw (words_none q, eq-eqb (ended_domains d (state_in e t bodies)) 0 none-ends))
      (λ z.
      let ne = eqb-false (live t) d z in
      let some_end : ended_domains d (state_in e t bodies) ≡ 0 → ⊥ = λ y. ne (omega arith) in
      let freed : freed_entries m d (state_in e t bodies) ≡ count e (λ i. ltb d (depth_of (word1 e t i))) = entries_past m e b t ok bodies d high in
      let ends : ended_domains d (state_in e t bodies) ≡ live t - d = ap (λ (x : ℕ). x - d) n in
      rw (words_some ne, ne_eqb (ended_domains d (state_in e t bodies)) 0 some_end) (end_count e t d ∙ rw (freed, ends) (omega arith)))

  -- ---- the bytes

  pub bytes_count : (m : ℕ) (bodies : List ℕ) → 1 ≤ d → length (restore_bytes m d bodies t) ≡ 64 * cells_put_back m d (state_in (slots_of (length t)) t bodies)
  unfolding restore_bytes
  bytes_count m bodies low =
      cells_length (bytes_from e t bodies d) (held_from e t d) m
      ∙ ap (λ (x : ℕ). 64 * x) (count_ext m (held_from e t d) (λ c. is_held (outermost d c (state_in e t bodies))) (λ c l. sym (outermost_held e t d c bodies low)))
