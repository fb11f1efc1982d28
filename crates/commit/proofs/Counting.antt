-- Commit replaces as many words as the model says: two for each cell that the innermost domain holds, and two for each that its parent
-- holds read-only and it read-write. Assumes nothing.
use Prim.Native.Nat.{ℕ, ◌+◌, ◌-◌, ◌≤◌}
use mathlib.Core.Bool.{Bool, true, not, ◌&&◌, ◌||◌, and-true}
use mathlib.Core.List.{List}
use mathlib.Core.Path.{◌≡◌, sym, ap, ◌∙◌}
use native.Mathlib.Omega.{arith}
use borrow.Author.Tests.{eqb-true, le-leb, lt-leb}
use lib.Dec.{leb, eqb}
use lib.ListN.{length}
use Rattle.words.specs.Scan.{count}
use Rattle.words.proofs.Scan.{by_bool, by_le, and_split, count_ext, count_none, count_or}
use Rattle.table.specs.Entry.{live, word1, depth_of, cell_of, writable_of, parent, find_in, holds_in, writes_in, parent_has}
use Rattle.table.specs.Changes.{is_changed}
use Rattle.table.proofs.Entry.{find_hit, holds_found, read_only}
use Rattle.table.proofs.Rule.{Rule}
use Rattle.search.proofs.Counts.{count_entries}
use Rattle.model.specs.State.{State}
use Rattle.model.specs.Holdings.{holding_at, is_held, held_writable, held_read_only, inner_cells, raised_cells}
use Rattle.store.specs.State.{state_in}
use Rattle.store.proofs.Domains.{inner_holding_lem, outer_holding_lem, state_zero, domains_count, held_holds, held_writable_lem}
use Rattle.commit.specs.Commit.{raises, commit_change}

module _ (e : ℕ) (t : List ℕ) (d : ℕ) where
  abbrev of_inner : ℕ → Bool
  of_inner i = eqb (depth_of (word1 e t i)) d

  -- read-only, of a cell that the innermost domain holds read-write
  abbrev stale : ℕ → Bool
  stale w = eqb (writable_of w) 0 && writes_in e t d (cell_of w)

  abbrev rising : ℕ → Bool
  rising i = raises d (word1 e t i) (writes_in e t d (cell_of (word1 e t i)))

  changed_is : (i : ℕ) → is_changed (commit_change e t d i) ≡ (of_inner i || rising i)
  unfolding commit_change
  changed_is i =
      by_bool (of_inner i)
      (λ z. rw z (by_bool (leb 2 d && not (parent_has e t d (cell_of (word1 e t i)))) (λ y. rw y) (λ y. rw y)))
      (λ z. rw z (by_bool (rising i) (λ y. rw y) (λ y. rw y)))

module _ (m e b : ℕ) (t : List ℕ) (ok : Rule m e b t) (some-live : 1 ≤ live t) (bodies : List ℕ) where
  abbrev S : State
  S = state_in e t bodies

  inner_count : count e (of_inner e t (live t)) ≡ inner_cells m (state_in e t bodies)
  inner_count =
      count_ext e (of_inner e t (live t)) (λ i. eqb (depth_of (word1 e t i)) (live t) && true) (λ i l. sym (and-true (of_inner e t (live t) i)))
      ∙ count_entries m e b t ok (live t) some-live (λ w. true)
      ∙ count_ext m (λ c. holds_in e t (live t) c && true) (λ c. is_held (holding_at S.domains (length S.domains) c))
      (λ c l. and-true (holds_in e t (live t) c) ∙ sym (ap is_held (inner_holding_lem e t bodies c some-live) ∙ held_holds e t bodies (live t) c))

  -- of the parent's cell
  rising_cell : (c : ℕ) → 2 ≤ live t
      → (holds_in e t (parent (live t)) c && stale e t (live t) (word1 e t (find_in e t (parent (live t)) c)))
      ≡ (held_read_only (holding_at S.domains (length S.domains - 1) c) && held_writable (holding_at S.domains (length S.domains) c))
  rising_cell c two =
      rw (inner_holding_lem e t bodies c some-live, outer_holding_lem e t bodies c two, held_holds e t bodies (live t - 1) c, held_writable_lem e t bodies (live t - 1) c, held_writable_lem e t bodies (live t) c)
      (by_bool (holds_in e t (live t - 1) c)
      (λ p.
      let hit = find_hit e t (live t - 1) c (holds_found e t (live t - 1) c p) in
      rw (p, read_only (word1 e t (find_in e t (live t - 1) c)), hit.1))
      (λ p. rw p))

  rising_count : count e (rising e t (live t)) ≡ raised_cells m (state_in e t bodies)
  rising_count =
      by_le 2 (live t)
      (λ two.
      count_ext e (rising e t (live t)) (λ i. eqb (depth_of (word1 e t i)) (parent (live t)) && stale e t (live t) (word1 e t i)) (λ i l. rw (le-leb 2 (live t) two))
      ∙ count_entries m e b t ok (parent (live t)) (omega arith) (stale e t (live t))
      ∙ count_ext m (λ c. holds_in e t (parent (live t)) c && stale e t (live t) (word1 e t (find_in e t (parent (live t)) c)))
      (λ c. held_read_only (holding_at S.domains (length S.domains - 1) c) && held_writable (holding_at S.domains (length S.domains) c))
      (λ c l. rising_cell c two))
      (λ one.
      let z : length S.domains - 1 ≡ 0 = rw (domains_count e t bodies) (omega arith) in
      count_none e (rising e t (live t)) (λ i l. rw (lt-leb 2 (live t) one))
      ∙ sym (count_none m (λ c. held_read_only (holding_at S.domains (length S.domains - 1) c) && held_writable (holding_at S.domains (length S.domains) c))
      (λ c l. rw (z, state_zero e t bodies c))))

  pub changes_are : count e (λ i. is_changed (commit_change e t (live t) i)) ≡ inner_cells m (state_in e t bodies) + raised_cells m (state_in e t bodies)
  changes_are =
      count_ext e (λ i. is_changed (commit_change e t (live t) i)) (λ i. of_inner e t (live t) i || rising e t (live t) i) (λ i l. changed_is e t (live t) i)
      ∙ count_or e (of_inner e t (live t)) (rising e t (live t)) (λ i l p q.
      let s = and_split (leb 2 (live t)) (eqb (depth_of (word1 e t i)) (parent (live t)) && stale e t (live t) (word1 e t i)) q in
      let r = and_split (eqb (depth_of (word1 e t i)) (parent (live t))) (stale e t (live t) (word1 e t i)) s.1 in
      let x : depth_of (word1 e t i) ≡ live t = eqb-true _ _ p in
      let y : depth_of (word1 e t i) ≡ parent (live t) = eqb-true _ _ r.0 in
      omega arith)
      ∙ rw (inner_count, rising_count)
