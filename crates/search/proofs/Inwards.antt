-- Laws of the search inwards for the first holder of a cell. Assumes nothing.
use Rattle.std.proofs.Common.{◌≡◌, ℕ, suc, ◌+◌, ◌-◌, ◌<◌, ◌≤◌, true, false, ltb, List, Some, None, arith, ltb-false, ltb-true, le-ltb, lt-ltb}
use Rattle.words.specs.Scan.{first}
use Rattle.words.proofs.Scan.{first_at_lem, by_bool, not_lt}
use Rattle.table.specs.Entry.{live, word1, find_in, holds_in}
use Rattle.table.specs.Marks.{CellsOnce}
use Rattle.table.proofs.Entry.{holds_true, holds_false}
use Rattle.search.specs.Search.{IsKey, named_by, steps_in}
use Rattle.search.specs.Holders.{holder_in}
use Rattle.search.proofs.Anywhere.{found_anywhere}

-- no domain from this depth on, for so many depths, holds the cell
abbrev pub Lacking : ℕ → List ℕ → ℕ → ℕ → ℕ → Type 0
Lacking e t from c n = (k : ℕ) → k < n → holds_in e t (from + k) c ≡ false

module _ (e : ℕ) (t : List ℕ) (from c : ℕ) where
  pub lacking_more : (d : ℕ) → from ≤ d → Lacking e t from c (d - from) → find_in e t d c ≡ e → Lacking e t from c (d + 1 - from)
  lacking_more d l h q k s =
      by_bool (ltb k (d - from)) (λ p. h k (ltb-true _ _ p))
      (λ p.
      let at : from + k ≡ d = omega (arith, ltb-false k (d - from) p) in
      rw at (holds_false e t d c (omega arith)))

  -- the code's two exits: past the innermost domain, and at a domain that holds the cell
  pub holder_nobody : (d : ℕ) → from ≤ d → live t < d → Lacking e t from c (d - from) → holder_in e t from c ≡ None
  unfolding holder_in steps_in
  holder_nobody d l s h =
      let n : first (suc (live t) - from) (λ k. holds_in e t (from + k) c) ≡ suc (live t) - from =
      first_at_lem _ _ _ (omega arith) (λ j k. h j (omega arith)) (λ k. absurd (not_lt _ _ k (omega arith))) in
      rw (le-ltb (first (suc (live t) - from) (λ k. holds_in e t (from + k) c)) (suc (live t) - from) (omega arith))

  pub holder_none : ((d : ℕ) → find_in e t d c ≡ e) → holder_in e t from c ≡ None
  holder_none h = holder_nobody (from + suc (live t)) (omega arith) (omega arith) (λ k l. holds_false e t (from + k) c (omega (arith, h (from + k))))

  pub holder_at : (d i : ℕ) → from ≤ d → d ≤ live t → Lacking e t from c (d - from) → find_in e t d c ≡ i → i < e → holder_in e t from c ≡ Some (record { depth = d; entry = i })
  unfolding holder_in steps_in
  holder_at d i l s h q r =
      let back : from + (d - from) ≡ d = omega arith in
      let n : first (suc (live t) - from) (λ k. holds_in e t (from + k) c) ≡ d - from =
      first_at_lem _ _ _ (omega arith) h (λ _. rw back (holds_true e t d c (omega arith))) in
      rw (n, lt-ltb (d - from) (suc (live t) - from) (omega arith), back, q)

  -- where an entry is named by the key of a depth and the cell, and no depth before holds the cell
  pub holder_found : CellsOnce e t e → 1 ≤ from → (d i key : ℕ) → from ≤ d → d ≤ live t → Lacking e t from c (d - from) → IsKey d c key
      → i < e → named_by key (word1 e t i) ≡ true → holder_in e t from c ≡ Some (record { depth = d; entry = i })
  holder_found once first d i key low within before is l named =
      holder_at d i low within before (found_anywhere e t once d c key (omega arith) is i l named) l
