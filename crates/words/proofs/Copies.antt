-- Cells copied one after another into different bodies: each body then has its cell's bytes, and the others have theirs. Assumes nothing.
use Prim.Native.Nat.{ℕ, zero, suc, ◌+◌, ◌*◌, ◌≤◌, ◌<◌}
use mathlib.Core.Bool.{Bool, true, cond}
use mathlib.Core.List.{List, [], ◌∷◌}
use mathlib.Core.Logic.{inl, inr}
use mathlib.Core.Path.{◌≡◌, refl, sym, ap, subst, ◌∙◌}
use native.Mathlib.Nat.{not-suc-le-zero}
use native.Mathlib.Omega.{arith}
use borrow.Author.Tests.{eqb-true, eqb-false}
use lib.Dec.{eqb}
use lib.ListN.{length, get_or, drop, length-append}
use lib.Seq.{ext_get_or, get_or-take, get_or-drop, get_or-set_same, get_or-set_other}
use Rattle.words.specs.Layout.{cell_at}
use Rattle.words.specs.Scan.{count}
use Rattle.words.specs.Stores.{Store, ◌≔◌, store, stores, tab, gather}
use Rattle.words.specs.Cells.{cell_bytes, cell_plan}
use Rattle.words.proofs.Scan.{by_bool, by_le}
use Rattle.words.proofs.Plans.{Each, each_tab, tab_last, length_stores, length_cell_plan, run_append}
use Rattle.words.proofs.Gather.{each_gather}
use Rattle.words.proofs.Cells.{cell_bytes_length, Outside, cell_kept}

-- ---- one cell

-- values stored one after another from index a on
tab_written : (a n : ℕ) (g : ℕ → ℕ) (d : List ℕ) (i : ℕ) → i < n → a + n ≤ length d → get_or (stores (tab n (λ j. a + j ≔ g j)) d) (a + i) 0 ≡ g i
tab_written a zero g d i l h = absurd (not-suc-le-zero l)
tab_written a (suc n) g d i l h =
    let u : List ℕ = stores (tab n (λ j. a + j ≔ g j)) d in
    let long : length u ≡ length d = length_stores (tab n (λ j. a + j ≔ g j)) d in
    ap (λ (ps : List Store). get_or (stores ps d) (a + i) 0) (tab_last (λ j. a + j ≔ g j) n)
    ∙ ap (λ (x : List ℕ). get_or x (a + i) 0) (run_append store (tab n (λ j. a + j ≔ g j)) ((a + n ≔ g n) ∷ []) d)
    ∙ by_bool (eqb i n)
    (λ q. subst (λ (x : ℕ). get_or (store (a + n ≔ g n) u) (a + x) 0 ≡ g x) (sym (eqb-true i n q)) (get_or-set_same u (a + n) (g n) 0 (omega arith)))
    (λ q.
    let ne = eqb-false i n q in
    get_or-set_other u (a + n) (a + i) (g n) 0 (λ z. ne (omega arith)) ∙ tab_written a n g d i (omega (arith, ne)) (omega arith))

-- byte i of a cell
cell_byte : (s : List ℕ) (c i : ℕ) → i < 64 → get_or (cell_bytes s c) i 0 ≡ get_or s (cell_at c + i) 0
cell_byte s c i l = get_or-take 64 (drop (cell_at c) s) i 0 l ∙ get_or-drop (cell_at c) s i 0

-- the body has the cell's bytes
cell_copied : (s d : List ℕ) (from to : ℕ) → cell_at from + 64 ≤ length s → cell_at to + 64 ≤ length d
    → cell_bytes (stores (cell_plan s from to) d) to ≡ cell_bytes s from
unfolding cell_plan
cell_copied s d from to ls ld =
    let u : List ℕ = stores (tab 64 (λ j. cell_at to + j ≔ get_or s (cell_at from + j) 0)) d in
    let long : length u ≡ length d = length_stores (tab 64 (λ j. cell_at to + j ≔ get_or s (cell_at from + j) 0)) d in
    let lu : length (cell_bytes u to) ≡ 64 = cell_bytes_length u to (omega arith) in
    ext_get_or 0 (cell_bytes u to) (cell_bytes s from) (lu ∙ sym (cell_bytes_length s from ls))
    (λ i l.
    let b : i < 64 = omega arith in
    cell_byte u to i b ∙ tab_written (cell_at to) 64 (λ j. get_or s (cell_at from + j) 0) d i b ld ∙ sym (cell_byte s from i b))

-- and no other body is written to
plan_outside : (s : List ℕ) (from to x : ℕ) → (x ≡ to → ⊥) → Each (Outside x) (cell_plan s from to)
unfolding cell_plan
plan_outside s from to x ne =
    each_tab (Outside x) (λ j. cell_at to + j ≔ get_or s (cell_at from + j) 0) 64
    (λ j l. by_le x to (λ h. inr (omega (arith, ne))) (λ h. inl (omega arith)))

-- ---- many cells: of each number that `wants` one, the cell `from` of it into the body `to` of it

module _ (s : List ℕ) (wants : ℕ → Bool) (from to : ℕ → ℕ) where
  abbrev pub copy_of : ℕ → List Store
  copy_of j = cond (wants j) (cell_plan s (from j) (to j)) []

  pub copies_length : (n : ℕ) → length (gather n copy_of) ≡ 64 * count n wants
  unfolding count
  copies_length zero = refl
  copies_length (suc n) =
      length-append (gather n copy_of) (copy_of n)
      ∙ rw (copies_length n)
      (by_bool (wants n) (λ z. rw (z, length_cell_plan s (from n) (to n)) (omega arith)) (λ z. rw z (omega arith)))

  one_outside : (j x : ℕ) → (wants j ≡ true → x ≡ to j → ⊥) → Each (Outside x) (copy_of j)
  one_outside j x h = by_bool (wants j) (λ z. rw z (plan_outside s (from j) (to j) x (h z))) (λ z. rw z tt)

  -- a body that none gets is not written to
  pub copies_outside : (n x : ℕ) → ((j : ℕ) → j < n → wants j ≡ true → x ≡ to j → ⊥) → Each (Outside x) (gather n copy_of)
  copies_outside n x h = each_gather copy_of (Outside x) n (λ j l. one_outside j x (h j l))

  -- and the body that one gets has its cell's bytes, where they get different bodies
  pub copies_stored : (n j : ℕ) (d : List ℕ) → j < n → wants j ≡ true → cell_at (from j) + 64 ≤ length s → cell_at (to j) + 64 ≤ length d
      → ((i : ℕ) → i < n → wants i ≡ true → to j ≡ to i → j ≡ i) → cell_bytes (stores (gather n copy_of) d) (to j) ≡ cell_bytes s (from j)
  copies_stored zero j d l here a b apart = absurd (not-suc-le-zero l)
  copies_stored (suc n) j d l here a b apart =
      ap (λ (x : List ℕ). cell_bytes x (to j)) (run_append store (gather n copy_of) (copy_of n) d)
      ∙ by_bool (eqb j n)
      (λ z.
      let q = eqb-true j n z in
      let same : copy_of n ≡ cell_plan s (from j) (to j) = subst (λ (x : ℕ). copy_of x ≡ cell_plan s (from j) (to j)) q (rw here) in
      rw same (cell_copied s (stores (gather n copy_of) d) (from j) (to j) a (rw (length_stores (gather n copy_of) d) b)))
      (λ z.
      let ne = eqb-false j n z in
      cell_kept (copy_of n) (stores (gather n copy_of) d) (to j) (one_outside n (to j) (λ t q. ne (apart n (omega arith) t q)))
      ∙ copies_stored n j d (omega arith) here a b (λ i h. apart i (omega arith)))
