-- What the model asks and counts of a state, read off the words; and how many bytes and words add stores, whichever places it takes.
-- Assumes nothing.
use Prim.Native.Nat.{ℕ, ◌+◌, ◌-◌, ◌*◌, ◌≤◌}
use mathlib.Core.Bool.{Bool, true, not, ◌&&◌, ◌||◌, and_assoc, and_comm}
use mathlib.Core.List.{List}
use mathlib.Core.Path.{◌≡◌, sym, ap, ◌∙◌}
use native.Mathlib.Omega.{arith}
use borrow.Author.Tests.{le-leb, lt-leb, leb-true}
use lib.Dec.{leb, eqb}
use lib.ListN.{length}
use Rattle.words.specs.Layout.{cells_of, bodies_of, slots_of}
use Rattle.words.specs.Scan.{count}
use Rattle.words.proofs.Scan.{by_bool, by_le, and_split, true≢, count_ext, count_or}
use Rattle.ranges.specs.declared.Range.{Range}
use Rattle.ranges.specs.Ranges.{named, kind_for, label_for}
use Rattle.table.specs.Entry.{live, word1, writable_of, cell_of, parent, find_in, holds_in, parent_has}
use Rattle.table.specs.Changes.{is_changed}
use Rattle.table.proofs.Rule.{Rule}
use Rattle.table.proofs.Entry.{read_only, find_hit, holds_found}
use Rattle.table.proofs.Entries.{changes_count}
use Rattle.search.specs.Search.{value_in, ruled_in}
use Rattle.search.proofs.Counts.{count_entries}
use Rattle.model.specs.State.{State}
use Rattle.model.specs.Holdings.{holding_at, is_held, is_some, held_by_rule, held_read_only, value_or, add_ranges, newly_held, relabelled, new_bodies}
use Rattle.model.proofs.Ranged.{newly_after, bodies_after, relabelled_after}
use Rattle.store.specs.State.{held_in, state_in}
use Rattle.store.proofs.Domains.{inner_holding_lem, outer_holding_lem, state_zero, domains_count, held_holds, held_writable_lem}
use Rattle.store.proofs.Outermost.{held_rule_lem}
use Rattle.store.proofs.Raw.{raw_rule}
use Rattle.add.specs.Add.{is_new, is_new_copy, rises, raise_change, words_with, bytes_with}
use Rattle.add.specs.Ready.{Ready}
use Rattle.add.specs.Choice.{Choice}
use Rattle.add.proofs.Choices.{Taking, chosen, rises_free}
use Rattle.add.proofs.Chosen.{taking, words_told}
use Rattle.add.proofs.Filling.{slots_taken, bytes_length}

-- ---- the state of a table's words

module _ (e : ℕ) (t bodies : List ℕ) (inner : 1 ≤ live t) where
  pub inner_held : (c : ℕ) → is_held (holding_at (state_in e t bodies).domains (length (state_in e t bodies).domains) c) ≡ holds_in e t (live t) c
  inner_held c = ap is_held (inner_holding_lem e t bodies c inner) ∙ held_holds e t bodies (live t) c

  pub inner_only : (c : ℕ) → held_read_only (holding_at (state_in e t bodies).domains (length (state_in e t bodies).domains) c)
      ≡ (holds_in e t (live t) c && eqb (writable_of (word1 e t (find_in e t (live t) c))) 0)
  inner_only c =
      ap held_read_only (inner_holding_lem e t bodies c inner)
      ∙ rw (held_holds e t bodies (live t) c, held_writable_lem e t bodies (live t) c)
      (by_bool (holds_in e t (live t) c) (λ p. rw p (read_only (word1 e t (find_in e t (live t) c)))) (λ p. rw p))

  pub outer_held : (c : ℕ) → is_held (holding_at (state_in e t bodies).domains (length (state_in e t bodies).domains - 1) c) ≡ parent_has e t (live t) c
  outer_held c =
      by_le 2 (live t)
      (λ deep. ap is_held (outer_holding_lem e t bodies c deep) ∙ held_holds e t bodies (parent (live t)) c ∙ rw (le-leb 2 (live t) deep))
      (λ flat.
      let z : length (state_in e t bodies).domains - 1 ≡ 0 = omega (arith, domains_count e t bodies) in
      ap (λ (d : ℕ). is_held (holding_at (state_in e t bodies).domains d c)) z ∙ ap is_held (state_zero e t bodies c) ∙ rw (lt-leb 2 (live t) flat))

  pub outer_value : (c : ℕ) (v : List ℕ) → parent_has e t (live t) c ≡ true
      → value_or v (holding_at (state_in e t bodies).domains (length (state_in e t bodies).domains - 1) c) ≡ value_in e t bodies (parent (live t)) c
  unfolding held_in
  outer_value c v h =
      let p = and_split (leb 2 (live t)) (holds_in e t (parent (live t)) c) h in
      ap (value_or v) (outer_holding_lem e t bodies c (leb-true 2 (live t) p.0)) ∙ rw p.1

  -- ---- numbers, from the state to the one after the list

  module _ (m : ℕ) (memory : List ℕ) (rs : List Range) where
    abbrev s : State
    s = state_in e t bodies

    some : 1 ≤ length (state_in e t bodies).domains
    some = omega (arith, domains_count e t bodies)

    new_is : (c : ℕ) → (named rs c && not (is_held (holding_at (state_in e t bodies).domains (length (state_in e t bodies).domains) c))) ≡ is_new e t rs c
    new_is c = ap (λ (x : Bool). named rs c && not x) (inner_held c)

    pub newly_is : newly_held m (state_in e t bodies) (add_ranges memory rs (state_in e t bodies)) ≡ count m (is_new e t rs)
    newly_is = newly_after m memory rs s some ∙ count_ext m _ (is_new e t rs) (λ c h. new_is c)

    pub bodies_is : new_bodies m (state_in e t bodies) (add_ranges memory rs (state_in e t bodies)) ≡ count m (is_new_copy e t rs)
    bodies_is = bodies_after m memory rs s some ∙ count_ext m _ (is_new_copy e t rs) (λ c h. ap (λ (x : Bool). x && eqb (kind_for rs c) 0) (new_is c))

    pub relabelled_is : relabelled m (state_in e t bodies) (add_ranges memory rs (state_in e t bodies))
        ≡ count m (λ c. holds_in e t (live t) c && (eqb (label_for rs c) 1 && eqb (writable_of (word1 e t (find_in e t (live t) c))) 0))
    relabelled_is =
        relabelled_after m memory rs s some
        ∙ count_ext m _ _ (λ c h.
        ap (λ (x : Bool). x && eqb (label_for rs c) 1) (inner_only c)
        ∙ and_assoc (holds_in e t (live t) c) (eqb (writable_of (word1 e t (find_in e t (live t) c))) 0) (eqb (label_for rs c) 1)
        ∙ ap (λ (x : Bool). holds_in e t (live t) c && x) (and_comm (eqb (writable_of (word1 e t (find_in e t (live t) c))) 0) (eqb (label_for rs c) 1)))

-- does the parent hold the cell by a rule? Its value then comes from that
pub outer_ruled : (m e b : ℕ) (t : List ℕ) → Rule m e b t → (bodies : List ℕ) → 1 ≤ live t → (c : ℕ) → parent_has e t (live t) c ≡ true
    → held_by_rule (holding_at (state_in e t bodies).domains (length (state_in e t bodies).domains - 1) c) ≡ ruled_in e t (parent (live t)) c
outer_ruled m e b t ok bodies inner c h =
    let p = and_split (leb 2 (live t)) (holds_in e t (parent (live t)) c) h in
    let deep = leb-true 2 (live t) p.0 in
    ap held_by_rule (outer_holding_lem e t bodies c deep)
    ∙ ap is_some (held_rule_lem m e b t ok bodies (parent (live t)) c (omega arith) p.1)
    ∙ by_bool (ruled_in e t (parent (live t)) c) (λ r. rw r) (λ r. rw r)

-- ---- how many bytes and words

module _ (memory bodies t : List ℕ) (rs : List Range) (r : Ready memory bodies t rs)
    {slot body : ℕ → ℕ} (choice : Choice (cells_of (length memory)) (slots_of (length t)) (bodies_of (length bodies)) t rs slot body) where
  -- slot by slot
  abbrev told : Taking (cells_of (length memory)) (slots_of (length t)) (bodies_of (length bodies)) t rs
  told = taking choice

  abbrev m : ℕ
  m = cells_of (length memory)

  abbrev e : ℕ
  e = slots_of (length t)

  -- the state before, and after the list
  abbrev before : State
  before = state_in (slots_of (length t)) t bodies

  abbrev after : State
  after = add_ranges memory rs (state_in (slots_of (length t)) t bodies)

  abbrev up : ℕ → Bool
  up i = rises (live t) rs (word1 (slots_of (length t)) t i)

  changed_is : (i : ℕ) → is_changed (chosen told i) ≡ (told.taken i || rises (live t) rs (word1 (slots_of (length t)) t i))
  unfolding chosen raise_change
  changed_is i =
      by_bool (told.taken i) (λ p. rw p)
      (λ p. by_bool (up i) (λ q. rw (p, q)) (λ q. rw (p, q)))

  raised_many : count (slots_of (length t)) (λ i. rises (live t) rs (word1 (slots_of (length t)) t i)) ≡ relabelled (cells_of (length memory)) before after
  raised_many =
      let P : ℕ → Bool = λ w. eqb (label_for rs (cell_of w)) 1 && eqb (writable_of w) 0 in
      count_entries m e (bodies_of (length bodies)) t (raw_rule memory bodies t r.store) (live t) r.inner P
      ∙ count_ext m (λ c. holds_in e t (live t) c && P (word1 e t (find_in e t (live t) c)))
      (λ c. holds_in e t (live t) c && (eqb (label_for rs c) 1 && eqb (writable_of (word1 e t (find_in e t (live t) c))) 0))
      (λ c h.
      by_bool (holds_in e t (live t) c)
      (λ p. let hit = find_hit e t (live t) c (holds_found e t (live t) c p) in rw (p, hit.1))
      (λ p. rw p))
      ∙ sym (relabelled_is e t bodies r.inner m memory rs)

  pub words_many : length (words_with (cells_of (length memory)) t rs slot body)
      ≡ 2 * (newly_held (cells_of (length memory)) (state_in (slots_of (length t)) t bodies) (add_ranges memory rs (state_in (slots_of (length t)) t bodies))
      + relabelled (cells_of (length memory)) (state_in (slots_of (length t)) t bodies) (add_ranges memory rs (state_in (slots_of (length t)) t bodies)))
  words_many =
      ap length (sym (words_told choice))
      ∙ changes_count e (chosen told)
      ∙ ap (λ (x : ℕ). 2 * x)
      (count_ext e (λ i. is_changed (chosen told i)) (λ i. told.taken i || up i) (λ i h. changed_is i)
      ∙ count_or e told.taken up
      (λ i h p q. true≢ q (rw (told.free i h p) (rises_free (live t) rs r.inner)))
      ∙ rw (slots_taken memory bodies t rs r choice, raised_many, newly_is e t bodies r.inner m memory rs))

  pub bytes_many : length (bytes_with memory t rs body) ≡ 64 * new_bodies (cells_of (length memory)) (state_in (slots_of (length t)) t bodies) (add_ranges memory rs (state_in (slots_of (length t)) t bodies))
  bytes_many = bytes_length memory bodies t rs r choice ∙ rw (bodies_is e t bodies r.inner m memory rs)
