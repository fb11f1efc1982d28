-- Where no depth has a cell twice, an entry that is named is the one that is found, wherever the search for it begins. Assumes nothing.
use Rattle.std.proofs.Common.{◌≡◌, ℕ, ◌<◌, ◌≤◌, true, eqb, List, Option, Some, None, MatchOption, refl, sym, ◌∙◌, arith, eqb-true}
use borrow.Author.Tests.{eqb-false}
use Rattle.words.proofs.Scan.{by_bool, by_le, is_false, not_lt}
use Rattle.table.specs.Entry.{word1, depth_of, cell_of, find_in}
use Rattle.table.specs.Marks.{CellsOnce, EndsAt}
use Rattle.table.proofs.Entry.{find_some, find_hit, names_both}
use Rattle.search.specs.Search.{IsKey, named_by, Unnamed, Found}
use Rattle.search.proofs.Keys.{found_by_key}

-- an entry in use is the one that is found for its depth and its cell
pub find_used : (e : ℕ) (t : List ℕ) → CellsOnce e t e → (i : ℕ) → i < e → 1 ≤ depth_of (word1 e t i) → find_in e t (depth_of (word1 e t i)) (cell_of (word1 e t i)) ≡ i
find_used e t once i l low =
    let d = depth_of (word1 e t i) in
    let c = cell_of (word1 e t i) in
    let le = find_some e t d c i l refl refl in
    let hit = find_hit e t d c (omega (arith, le, l)) in
    by_le i (find_in e t d c) (λ ge. omega (arith, ge, le)) (λ lt. absurd (once i l (find_in e t d c) lt low hit.0 hit.1))

module _ (e : ℕ) (t : List ℕ) (once : CellsOnce e t e) (d c key : ℕ) (low : 1 ≤ d) (is : IsKey d c key) where
  -- two entries of one depth and cell are one
  same_entry : (i j : ℕ) → i < e → j < e → depth_of (word1 e t i) ≡ d → cell_of (word1 e t i) ≡ c → depth_of (word1 e t j) ≡ d → cell_of (word1 e t j) ≡ c → i ≡ j
  same_entry i j li lj di ci dj cj =
      by_bool (eqb i j) (λ z. eqb-true i j z)
      (λ z.
      by_le i j
      (λ le. absurd (once j lj i (omega (arith, le, eqb-false i j z)) (omega (arith, dj, low)) (di ∙ sym dj) (ci ∙ sym cj)))
      (λ lt. absurd (once i li j lt (omega (arith, di, low)) (dj ∙ sym di) (cj ∙ sym ci))))

  pub found_anywhere : (i : ℕ) → i < e → named_by key (word1 e t i) ≡ true → find_in e t d c ≡ i
  found_anywhere i l h =
      let n = names_both e t (depth_of key) (cell_of key) (word1 e t i) h in
      let di : depth_of (word1 e t i) ≡ d = n.0 ∙ is.depth in
      let ci : cell_of (word1 e t i) ≡ c = n.1 ∙ is.cell in
      let le = find_some e t d c i l di ci in
      let f = find_hit e t d c (omega (arith, le, l)) in
      same_entry (find_in e t d c) i (omega (arith, le, l)) l f.0 f.1 di ci

  -- a free entry has depth 0, which no key has
  unnamed_free : (top : ℕ) → EndsAt e t top → Unnamed e t key top e
  unnamed_free top ends k far l =
      is_false (named_by key (word1 e t k))
      (λ h. absurd (omega (arith, (names_both e t (depth_of key) (cell_of key) (word1 e t k) h).0, is.depth, low, (ends.1 k far l).0)))

  -- none is named from the start to the last in use, nor from the front to the start
  pub found_nowhere : (top start n k : ℕ) → EndsAt e t top → top ≤ n → start ≤ k → Unnamed e t key start n → Unnamed e t key 0 k → find_in e t d c ≡ e
  found_nowhere top start n k ends past met behind front =
      found_by_key e t d c key is e (omega arith)
      (λ j a b.
      by_le top j (λ far. unnamed_free top ends j far b)
      (λ used. by_le start j (λ far. behind j far (omega (arith, used, past))) (λ near. front j a (omega (arith, near, met)))))
      (λ l. absurd (not_lt e e l (omega arith)))

  -- the answer of a search that found none from the start on, by what it found from the front on
  pub found_front : (top start : ℕ) (r : Option ℕ) → EndsAt e t top → start ≤ top → Unnamed e t key start top
      → MatchOption r (Unnamed e t key 0 start) (λ i. (i < start) × (named_by key (word1 e t i) ≡ true)) → Found e (find_in e t d c) r
  found_front top start None ends l behind h = found_nowhere top start top start ends (omega arith) (omega arith) behind h
  found_front top start (Some i) ends l behind h = let b : i < e = omega (arith, h.0, l, ends.0) in (b, sym (found_anywhere i b h.1))
