-- What a cut of any call's journal leaves, and what opening then finds. Every changing call gets its own law of cuts from this one.
-- Assumes nothing.
use Prim.Native.Nat.{ℕ, ◌+◌, ◌*◌, ◌≤◌, ◌<◌}
use mathlib.Core.Bool.{true, false, cond}
use mathlib.Core.List.{List, [], ◌∷◌}
use mathlib.Core.Option.{some}
use mathlib.Core.Path.{◌≡◌, sym, ap, subst, ◌∙◌}
use native.Mathlib.Omega.{arith}
use borrow.Author.Tests.{lt-ltb, le-ltb, eq-eqb}
use lib.Dec.{ltb}
use lib.ListN.{length, get_or, take}
use Rattle.words.specs.Layout.{cells_of, bodies_of, slots_of, pairs_at, max_pairs, table_words, pending_at, zero_at}
use Rattle.words.specs.Stores.{Store, stores}
use Rattle.words.specs.Journal.{pending, pairs, name_ok, names_ok, effective, open_plan, journaled, openings}
use Rattle.words.proofs.Scan.{by_le, true≢}
use Rattle.words.proofs.Plans.{Each, each_map}
use Rattle.words.proofs.Places.{pending_at_below, unnamed_low, unnamed_zero}
use Rattle.words.proofs.Names.{names_each}
use Rattle.words.proofs.Journal as law
use Rattle.table.specs.Rule.{pairs_ok}
use Rattle.table.proofs.Rule.{Rule}
use Rattle.table.proofs.Pairs.{pairs_make, pairs_few, pairs_names}
use Rattle.store.specs.Outcome.{buffers}
use Rattle.store.specs.Checks.{shape_check, open_check, lent}
use Rattle.store.specs.State.{state_in, state_of, standing}
use Rattle.store.proofs.Checks.{open_make, open_shape, open_table, table_make, table_pairs, table_rule, shape_kept}

-- ---- a word that no pair may name is in none

pub apart_from : (first i : ℕ) (ws : List Store) → name_ok first i ≡ false → names_ok first 0 ws ≡ true → Each (λ s. i ≡ s.at → ⊥) ws
apart_from first i ws n h =
    each_map (λ s. name_ok first s.at ≡ true) (λ s. i ≡ s.at → ⊥) ws
    (λ s q e. true≢ (subst (λ (x : ℕ). name_ok first x ≡ true) (sym e) q) n)
    (names_each first 0 ws h)

-- ---- a table that opening accepts, whichever way it came about

-- it stands for the state of its effective table
pub stands_open : (memory bodies t : List ℕ) → open_check (lent (length memory) (length bodies) t) ≡ 0
    → standing (buffers memory bodies t) ≡ some (state_in (slots_of (length t)) (effective (pairs_at (slots_of (length t))) t) bodies)
unfolding standing state_of
stands_open memory bodies t h = rw (eq-eqb _ _ h)

-- accepted: the shape is kept, the pairs are as they should be, and the effective table is right
module _ (memory bodies : ℕ) (t u : List ℕ) (long : length u ≡ length t) (shape : shape_check (lent memory bodies t) ≡ 0)
    (kept : (i : ℕ) → name_ok (pairs_at (slots_of (length t))) i ≡ false → i < pairs_at (slots_of (length t)) → (i ≡ pending_at → ⊥) → get_or u i 0 ≡ get_or t i 0) where
  pub still_shaped : shape_check (lent memory bodies u) ≡ 0
  still_shaped =
      shape_kept memory bodies t u long (λ i l. kept i (unnamed_low (pairs_at (slots_of (length t))) i l) (omega arith) (λ z. omega arith))
      (kept zero_at (unnamed_zero (pairs_at (slots_of (length t)))) (omega arith) (λ z. omega arith)) ∙ shape

  pub still_opens : pending u ≤ max_pairs (slots_of (length t)) → names_ok (pairs_at (slots_of (length t))) 0 (pairs u (pairs_at (slots_of (length t))) (pending u)) ≡ true
      → Rule (cells_of memory) (slots_of (length t)) (bodies_of bodies) (effective (pairs_at (slots_of (length t))) u) → open_check (lent memory bodies u) ≡ 0
  still_opens few names rule =
      open_make memory bodies u still_shaped
      (table_make memory bodies u (rw long (pairs_make (slots_of (length t)) u few names)) (rw long rule))

-- ---- a journal of some changes over a table with nothing pending

module _ (memory bodies : ℕ) (t : List ℕ) (ws : List Store) (shape : shape_check (lent memory bodies t) ≡ 0) (long : length t ≡ table_words (slots_of (length t)))
    (idle : pending t ≡ 0) (some-change : 0 < length ws) (few : length ws ≤ max_pairs (slots_of (length t)))
    (names : names_ok (pairs_at (slots_of (length t))) 0 ws ≡ true)
    (right : Rule (cells_of memory) (slots_of (length t)) (bodies_of bodies) (take (pairs_at (slots_of (length t))) t))
    (next : Rule (cells_of memory) (slots_of (length t)) (bodies_of bodies) (stores ws (take (pairs_at (slots_of (length t))) t))) where
  abbrev first : ℕ
  first = pairs_at (slots_of (length t))

  front : pending_at < first
  front = pending_at_below (slots_of (length t))

  room : first + 2 * length ws ≤ length t
  room = omega arith

  -- the table after k steps
  abbrev pub cut : ℕ → List ℕ
  cut k = stores (take k (journaled (pairs_at (slots_of (length t))) ws)) t

  pub cut_length : (k : ℕ) → length (cut k) ≡ length t
  cut_length k = law.cut_length first ws t front room idle some-change names k

  kept : (k i : ℕ) → name_ok first i ≡ false → i < first → (i ≡ pending_at → ⊥) → get_or (cut k) i 0 ≡ get_or t i 0
  kept k i n l p = law.cut_kept first ws t front room idle some-change names k i l p (apart_from first i ws n names)

  -- the effective table is the old one until word 6 is stored, and the new one from then on
  pub cut_effective : (k : ℕ) → effective (pairs_at (slots_of (length t))) (cut k)
      ≡ cond (ltb (2 * length ws) k) (stores ws (take (pairs_at (slots_of (length t))) t)) (take (pairs_at (slots_of (length t))) t)
  cut_effective k =
      by_le k (2 * length ws)
      (λ l. rw (le-ltb (2 * length ws) k l) (law.cut_old first ws t front room idle some-change names k l))
      (λ l. rw (lt-ltb (2 * length ws) k l) (law.cut_new first ws t front room idle some-change names k l))

  cut_rule : (k : ℕ) → Rule (cells_of memory) (slots_of (length t)) (bodies_of bodies) (effective first (cut k))
  cut_rule k =
      by_le k (2 * length ws)
      (λ l. rw (law.cut_old first ws t front room idle some-change names k l) right)
      (λ l. rw (law.cut_new first ws t front room idle some-change names k l) next)

  -- every cut can be opened
  pub cut_opens : (k : ℕ) → open_check (lent memory bodies (cut k)) ≡ 0
  cut_opens k =
      let fewer = law.cut_count first ws t front room idle some-change names k in
      still_opens memory bodies t (cut k) (cut_length k) shape (kept k) (omega arith)
      (law.cut_names first ws t front room idle some-change names k) (cut_rule k)

-- ---- opening a table that opening accepts, stopped at any budget

module _ (memory bodies : ℕ) (t : List ℕ) (long : length t ≡ table_words (slots_of (length t))) (opens : open_check (lent memory bodies t) ≡ 0) where
  abbrev start : ℕ
  start = pairs_at (slots_of (length t))

  before : pending_at < start
  before = pending_at_below (slots_of (length t))

  pairs_right : pairs_ok (slots_of (length t)) t ≡ true
  pairs_right = table_pairs memory bodies t (open_table memory bodies t opens)

  fits : start + 2 * pending t ≤ length t
  fits = let l = pairs_few (slots_of (length t)) t pairs_right in omega arith

  named : names_ok start 0 (pairs t start (pending t)) ≡ true
  named = pairs_names (slots_of (length t)) t pairs_right

  abbrev pub opening : ℕ → List ℕ
  opening k = stores (take k (open_plan (pairs_at (slots_of (length t))) t)) t

  pub opening_length : (k : ℕ) → length (opening k) ≡ length t
  opening_length k = law.opening_length start t before fits named k

  -- it has the same effective table, so it stands for the same state
  pub opening_effective : (k : ℕ) → effective (pairs_at (slots_of (length t))) (opening k) ≡ effective (pairs_at (slots_of (length t))) t
  opening_effective k = law.opening_effective start t before fits named k

  -- and is accepted again
  pub opening_opens : (k : ℕ) → open_check (lent memory bodies (opening k)) ≡ 0
  opening_opens k =
      let l = pairs_few (slots_of (length t)) t pairs_right in
      let fewer = law.opening_count start t before fits named k in
      still_opens memory bodies t (opening k) (opening_length k) (open_shape memory bodies t opens)
      (λ i n h p. law.opening_kept start t before fits named k i h p n) (omega arith)
      (law.opening_names start t before fits named k)
      (rw (opening_effective k) (table_rule memory bodies t (open_table memory bodies t opens)))

  -- opening it again, whole, gives word for word what opening at once would have given
  pub opening_again : (k : ℕ) → stores (open_plan (pairs_at (slots_of (length t))) (opening k)) (opening k) ≡ stores (open_plan (pairs_at (slots_of (length t))) t) t
  opening_again k = law.opening_again start t before fits named k

  -- as many pairs are pending until it is whole, and then none
  pub opening_stopped : (k : ℕ) → k ≤ pending t → pending (opening k) ≡ pending t
  opening_stopped k l = law.opening_stopped start t before fits named k l

  pub opening_done : pending (stores (open_plan (pairs_at (slots_of (length t))) t) t) ≡ 0
  opening_done = law.opening_done start t before fits named

-- ---- any number of openings one after the other, each stopped at its own budget

pub openings_open : (memory bodies : ℕ) (ks : List ℕ) (t : List ℕ) → length t ≡ table_words (slots_of (length t)) → open_check (lent memory bodies t) ≡ 0
    → open_check (lent memory bodies (openings (pairs_at (slots_of (length t))) ks t)) ≡ 0
openings_open memory bodies [] t long opens = opens
openings_open memory bodies (k ∷ ks) t long opens =
    let u : List ℕ = opening memory bodies t long opens k in
    let n : length u ≡ length t = opening_length memory bodies t long opens k in
    subst (λ (x : ℕ). open_check (lent memory bodies (openings (pairs_at (slots_of x)) ks u)) ≡ 0) n
    (openings_open memory bodies ks u (n ∙ long ∙ ap (λ (x : ℕ). table_words (slots_of x)) (sym n)) (opening_opens memory bodies t long opens k))
