-- Bytes stored cell by cell: how many they are, and what each byte is once some of them are stored. Assumes nothing.
use Prim.Native.Nat.{ℕ, zero, suc, ◌+◌, ◌-◌, ◌*◌, ◌≤◌, ◌<◌, min}
use mathlib.Core.Bool.{Bool, true, false, cond, ◌&&◌}
use mathlib.Core.List.{List, []}
use mathlib.Core.Path.{◌≡◌, sym, ap, ◌∙◌}
use native.Mathlib.Omega.{arith}
use borrow.Author.Tests.{eqb-true, eqb-false, lt-ltb, le-ltb}
use lib.Dec.{ltb, eqb}
use lib.ListN.{length, get_or, take}
use Rattle.words.specs.Layout.{cell_at}
use Rattle.words.specs.Scan.{count}
use Rattle.words.specs.Stores.{Store, ◌≔◌, store, stores, tab, gather}
use Rattle.words.specs.Cells.{cell_plan}
use Rattle.words.proofs.Scan.{by_bool, by_le}
use Rattle.words.proofs.Plans.{each_tab, length_tab, length_stores, get_or_stores, length_cell_plan, run_take_append, take_tab, take_min, stores_none, run_stored}
use Rattle.words.proofs.Gather.{gather_count}
use Rattle.model.specs.Restore.{cell_of_byte, place_in_cell}

-- ---- one cell, of which the first k bytes are stored

pub cell_part : (s l : List ℕ) (from to k x : ℕ) → cell_at to + 64 ≤ length l
    → get_or (stores (take k (cell_plan s from to)) l) x 0
    ≡ cond (eqb (cell_of_byte x) to && ltb (place_in_cell x) k) (get_or s (cell_at from + place_in_cell x) 0) (get_or l x 0)
unfolding cell_plan
cell_part s l from to k x fits =
    let f : ℕ → Store = λ j. cell_at to + j ≔ get_or s (cell_at from + j) 0 in
    let n : ℕ = min k 64 in
    let cut : take k (tab 64 f) ≡ tab (min k 64) f = sym (take_min k 64 (tab 64 f) (length_tab f 64)) ∙ take_tab f 64 (min k 64) (omega arith) in
    ap (λ (ps : List Store). get_or (stores ps l) x 0) cut
    ∙ by_bool (eqb (cell_of_byte x) to)
    (λ z.
    let c : cell_of_byte x ≡ to = eqb-true (cell_of_byte x) to z in
    let place : x ≡ cell_at to + place_in_cell x = omega arith in
    let small : place_in_cell x < 64 = omega arith in
    let here : get_or (stores (tab (min k 64) f) l) x 0 ≡ cond (ltb (place_in_cell x) (min k 64)) (get_or s (cell_at from + place_in_cell x) 0) (get_or l x 0) =
    ap (λ (y : ℕ). get_or (stores (tab (min k 64) f) l) y 0) place
    ∙ run_stored (cell_at to) (min k 64) (λ j. get_or s (cell_at from + j) 0) l (place_in_cell x) (omega arith)
    ∙ ap (λ (y : ℕ). cond (ltb (place_in_cell x) (min k 64)) (get_or s (cell_at from + place_in_cell x) 0) (get_or l y 0)) (sym place) in
    let same : ltb (place_in_cell x) (min k 64) ≡ ltb (place_in_cell x) k =
    by_le k (place_in_cell x)
    (λ le. le-ltb (place_in_cell x) (min k 64) (omega arith) ∙ sym (le-ltb (place_in_cell x) k le))
    (λ lt. lt-ltb (place_in_cell x) (min k 64) (omega arith) ∙ sym (lt-ltb (place_in_cell x) k lt)) in
    here ∙ rw (z, same))
    (λ z.
    let ne = eqb-false (cell_of_byte x) to z in
    get_or_stores (tab (min k 64) f) l x (each_tab (λ p. x ≡ p.at → ⊥) f (min k 64) (λ i b q. ne (omega arith)))
    ∙ rw z)

whole_part : (v l : List ℕ) (to k x : ℕ) → cell_at to + 64 ≤ length l
    → get_or (stores (take k (cell_plan v 0 to)) l) x 0 ≡ cond (eqb (cell_of_byte x) to && ltb (place_in_cell x) k) (get_or v (place_in_cell x) 0) (get_or l x 0)
whole_part v l to k x fits =
    let z : cell_at 0 + place_in_cell x ≡ place_in_cell x = omega arith in
    cell_part v l 0 to k x fits ∙ ap (λ (y : ℕ). cond (eqb (cell_of_byte x) to && ltb (place_in_cell x) k) (get_or v y 0) (get_or l x 0)) z

-- ---- cell after cell, those that are held

module _ (value : ℕ → List ℕ) (held : ℕ → Bool) where
  abbrev pub plan : ℕ → List Store
  plan c = cond (held c) (cell_plan (value c) 0 c) []

  pub cells_length : (n : ℕ) → length (gather n plan) ≡ 64 * count n held
  cells_length n = gather_count 64 n held plan (λ c. by_bool (held c) (λ z. rw (z, length_cell_plan (value c) 0 c)) (λ z. rw z))

  -- the byte at x is stored once the held cells below its own, and the bytes of its own cell up to it, are
  abbrev pub reached : (k n x : ℕ) → Bool
  reached k n x = ltb (cell_of_byte x) n && (held (cell_of_byte x) && ltb (64 * count (cell_of_byte x) held + place_in_cell x) k)

  pub cells_stored : (k n x : ℕ) (l : List ℕ) → cell_at n ≤ length l
      → get_or (stores (take k (gather n plan)) l) x 0 ≡ cond (reached k n x) (get_or (value (cell_of_byte x)) (place_in_cell x) 0) (get_or l x 0)
  cells_stored k zero x l fits =
      ap (λ (y : List ℕ). get_or y x 0) (sym (stores_none k l)) ∙ rw (le-ltb (cell_of_byte x) 0 (omega arith))
  cells_stored k (suc n) x l fits =
      let c : ℕ = cell_of_byte x in
      let p : ℕ = place_in_cell x in
      let before : List ℕ = stores (take k (gather n plan)) l in
      let long : length (stores (take k (gather n plan)) l) ≡ length l = length_stores (take k (gather n plan)) l in
      let ih = cells_stored k n x l (omega arith) in
      ap (λ (y : List ℕ). get_or y x 0) (run_take_append store k (gather n plan) (plan n) l)
      ∙ by_bool (eqb (cell_of_byte x) n)
      (λ z.
      let q : cell_of_byte x ≡ n = eqb-true (cell_of_byte x) n z in
      let old : get_or (stores (take k (gather n plan)) l) x 0 ≡ get_or l x 0 = ih ∙ rw (le-ltb (cell_of_byte x) n (omega arith)) in
      by_bool (held n)
      (λ h.
      let hc : held (cell_of_byte x) ≡ true = ap held q ∙ h in
      let one = whole_part (value n) (stores (take k (gather n plan)) l) n (k - 64 * count n held) x (rw long (omega arith)) in
      let same : ltb (place_in_cell x) (k - 64 * count n held) ≡ ltb (64 * count n held + place_in_cell x) k =
      by_le k (64 * count n held + place_in_cell x)
      (λ le. le-ltb (place_in_cell x) (k - 64 * count n held) (omega arith) ∙ sym (le-ltb (64 * count n held + place_in_cell x) k le))
      (λ lt. lt-ltb (place_in_cell x) (k - 64 * count n held) (omega arith) ∙ sym (lt-ltb (64 * count n held + place_in_cell x) k lt)) in
      rw (cells_length n, h)
      (one ∙ rw (z, same, old, hc, lt-ltb (cell_of_byte x) (suc n) (omega arith), q)))
      (λ h.
      let hc : held (cell_of_byte x) ≡ false = ap held q ∙ h in
      rw h (ap (λ (y : List ℕ). get_or y x 0) (sym (stores_none (k - length (gather n plan)) (stores (take k (gather n plan)) l)))
      ∙ old ∙ rw (hc, lt-ltb (cell_of_byte x) (suc n) (omega arith)))))
      (λ z.
      let ne = eqb-false (cell_of_byte x) n z in
      let near : ltb (cell_of_byte x) (suc n) ≡ ltb (cell_of_byte x) n =
      by_le n (cell_of_byte x)
      (λ le. le-ltb (cell_of_byte x) (suc n) (omega (arith, ne)) ∙ sym (le-ltb (cell_of_byte x) n le))
      (λ lt. lt-ltb (cell_of_byte x) (suc n) (omega arith) ∙ sym (lt-ltb (cell_of_byte x) n lt)) in
      rw near
      (by_bool (held n)
      (λ h.
      let one = whole_part (value n) (stores (take k (gather n plan)) l) n (k - length (gather n plan)) x (rw long (omega arith)) in
      rw h (one ∙ rw z ih))
      (λ h. rw h (ap (λ (y : List ℕ). get_or y x 0) (sym (stores_none (k - length (gather n plan)) (stores (take k (gather n plan)) l))) ∙ ih))))
