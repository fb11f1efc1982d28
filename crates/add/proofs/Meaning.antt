-- Add over any choice of free slots and bodies for the new cells: the table that it leaves is right, and the state that it then stands for is
-- the model's. Assumes nothing.
use Prim.Native.Nat.{ℕ, suc, ◌-◌, ◌≤◌, ◌<◌}
use mathlib.Core.Bool.{Bool, true, false, cond, ◌&&◌}
use mathlib.Core.List.{List, []}
use mathlib.Core.Logic.{◌⊎◌, inl, inr}
use mathlib.Core.Option.{Option, none, some}
use mathlib.Core.Path.{◌≡◌, refl, sym, ap, ◌∙◌}
use native.Mathlib.Omega.{arith}
use borrow.Author.Tests.{eq-eqb, ne_eqb, eqb-true, eqb-false, le-leb}
use lib.Dec.{leb, eqb}
use lib.ListN.{length}
use lib.Seq.{drop-nil}
use Rattle.words.specs.Layout.{pairs_at, max_cells}
use Rattle.words.specs.Stores.{stores}
use Rattle.words.specs.Cells.{cell_bytes}
use Rattle.words.proofs.Scan.{by_bool, and_split, and_join}
use Rattle.ranges.specs.declared.Range.{Range}
use Rattle.ranges.specs.Ranges.{named, kind_for, rule_for, label_for}
use Rattle.ranges.proofs.Ranges.{label_low, label_named}
use Rattle.patterns.specs.Pattern.{max_rule, pattern}
use Rattle.table.specs.Entry.{live, word1, word2, depth_of, writable_of, pattern_of, cell_of, parent, names, find_in, holds_in, parent_has}
use Rattle.table.specs.Changes.{put, new_first, entry_changes}
use Rattle.table.proofs.Entry.{names_make, holds_true, pattern_zero}
use Rattle.table.proofs.Made.{Made, via_bit, rule_bit, entry_made}
use Rattle.table.proofs.Rule.{Rule, Used}
use Rattle.table.proofs.Head.{all_remain}
use Rattle.search.specs.Search.{source_in, value_in, ruled_in}
use Rattle.search.proofs.Value.{Copy, source_rule}
use Rattle.model.specs.State.{Label, read_only, read_write, Kind, copy, via_parent, by_rule, Holding}
use Rattle.model.specs.Holdings.{holding_at, label_numbered, kind_numbered, raised, added, given_value, add_ranges}
use Rattle.model.proofs.Ranged.{ranges_state}
use Rattle.store.specs.State.{label_of, held_in, state_in}
use Rattle.store.proofs.Domains.{held_none, held_some, innermost_state}
use Rattle.store.proofs.Becoming.{at_slot, told, plain_kind, Stays, Value, came, took, follows, rests, Full, Fate, keeps, raises, fills, Becomes, becomes_rule, becomes_held}
use Rattle.add.specs.Add.{rises, raise_change, taken_first}
use Rattle.add.proofs.Choices.{Taking, chosen, rises_facts}
use Rattle.add.proofs.Numbers.{outer_value}

module _ (m e b : ℕ) (t : List ℕ) (ok : Rule m e b t) (long : pairs_at e ≤ length t) (rs : List Range)
    (inner : 1 ≤ live t) (within : (c : ℕ) → named rs c ≡ true → c < m) (kind : (c : ℕ) → named rs c ≡ true → kind_for rs c ≤ 2) (small : m ≤ max_cells) (choice : Taking m e b t rs)
    (covered : (i : ℕ) → i < e → choice.taken i ≡ true → kind_for rs (choice.cell i) ≡ 1 → (2 ≤ live t) × (find_in e t (parent (live t)) (choice.cell i) < e))
    (plain : (i : ℕ) → i < e → choice.taken i ≡ true → kind_for rs (choice.cell i) ≡ 1 → ruled_in e t (parent (live t)) (choice.cell i) ≡ false)
    (rule : (i : ℕ) → i < e → choice.taken i ≡ true → kind_for rs (choice.cell i) ≡ 2 → rule_for rs (choice.cell i) ≤ max_rule) where
  -- a slot that is taken comes to its cell, and takes its body where it is a copy
  abbrev Comes : ℕ → ℕ → Type 0
  Comes i c = (choice.taken i ≡ true) × (choice.cell i ≡ c)

  abbrev Takes : ℕ → ℕ → Type 0
  Takes i v = (kind_for rs (choice.cell i) ≡ 0) × (choice.taken i ≡ true) × (choice.body i ≡ v)

  abbrev word : ℕ → ℕ
  word i = taken_first t rs (choice.cell i)

  -- the kind, rule and label of the cell that slot i takes
  abbrev k : ℕ → ℕ
  k i = kind_for rs (choice.cell i)

  abbrev u : ℕ → ℕ
  u i = rule_for rs (choice.cell i)

  abbrev l : ℕ → ℕ
  l i = label_for rs (choice.cell i)

  made : (i : ℕ) → i < e → choice.taken i ≡ true → Made (word i) (live t) (l i) (via_bit (k i)) (rule_bit (k i)) 0 (choice.cell i)
  made i h p = entry_made (live t) (k i) (l i) (choice.cell i) (label_low (choice.cell i) rs) (omega (arith, within (choice.cell i) (choice.within i h p)))

  takes : (i : ℕ) → choice.taken i ≡ true → chosen choice i ≡ put (word i) (choice.body i)
  unfolding chosen
  takes i p = rw p

  -- new bodies have memory's bytes, and bodies in use keep theirs
  module _ (memory old new : List ℕ)
      (spared : (i : ℕ) → Copy e t i → cell_bytes new (word2 e t i) ≡ cell_bytes old (word2 e t i))
      (filled : (i : ℕ) → i < e → choice.taken i ≡ true → kind_for rs (choice.cell i) ≡ 0 → cell_bytes new (choice.body i) ≡ cell_bytes memory (choice.cell i)) where
    -- the value of a cell newly held
    abbrev given : ℕ → List ℕ
    given c = given_value (kind_numbered (kind_for rs c) (rule_for rs c)) memory (holding_at (state_in e t old).domains (length (state_in e t old).domains - 1) c) c

    abbrev held : ℕ → ℕ → Option Holding
    held d c =
        cond (eqb d (live t))
        (cond (named rs c) (added (label_numbered (label_for rs c)) (kind_numbered (kind_for rs c) (rule_for rs c)) (given c) (held_in e t old d c)) (held_in e t old d c)) (held_in e t old d c)

    -- ---- the slots that are taken

    -- what is held where slot i comes
    comes_held : (i : ℕ) → (h : i < e) → (p : choice.taken i ≡ true)
        → held (depth_of (word i)) (cell_of (word i)) ≡ added (label_numbered (l i)) (kind_numbered (k i) (u i)) (given (choice.cell i)) none
    comes_held i h p =
        let x = made i h p in
        rw (x.depth, x.cell, eq-eqb (live t) (live t) refl, choice.within i h p, held_none e t old (live t) (choice.cell i) (choice.new i h p))

    abbrev NewValue : ℕ → Type 0
    NewValue i = Value m e b t old new (live t) held (λ i. i) Comes Takes i (word i) (choice.body i)

    module _ (i : ℕ) (h : i < e) (p : choice.taken i ≡ true) where
      abbrev c : ℕ
      c = choice.cell i

      x : Made (word i) (live t) (l i) (via_bit (k i)) (rule_bit (k i)) 0 (choice.cell i)
      x = made i h p

      label_of_lem : label_numbered (l i) ≡ label_of (word i)
      label_of_lem = ap (λ (y : ℕ). cond (eqb y 1) read_write read_only) (sym x.label)

      -- what comes, by its kind and its value
      comes_as : (kn : Kind) (v : List ℕ) → kind_numbered (k i) (u i) ≡ kn → given c ≡ v → held (depth_of (word i)) (cell_of (word i)) ≡ some (record { label = label_of (word i); kind = kn; value = v })
      comes_as kn v q r = comes_held i h p ∙ (λ a. some (record { label = label_of_lem a; kind = q a; value = r a }))

      abbrev around : Option Holding
      around = holding_at (state_in e t old).domains (length (state_in e t old).domains - 1) c

      -- the value given, by the kind
      given_by : (kn : Kind) → kind_numbered (k i) (u i) ≡ kn → given c ≡ given_value kn memory around c
      given_by kn q = ap (λ (y : Kind). given_value y memory around c) q

      as_copy : k i ≡ 0 → NewValue i
      as_copy nil =
          let kn : kind_numbered (k i) (u i) ≡ copy = ap (λ (y : ℕ). kind_numbered y (u i)) nil in
          took (x.kind ∙ ap via_bit nil) (x.rule ∙ ap rule_bit nil) (nil, p, refl) (choice.fits i h p nil) (choice.unused i h p nil)
          (comes_as copy (cell_bytes new (choice.body i)) kn (given_by copy kn ∙ sym (filled i h p nil)))

      as_rule : k i ≡ 2 → NewValue i
      as_rule two =
          let second = choice.ruled i h p two in
          let kn : kind_numbered (k i) (u i) ≡ by_rule (choice.body i) = ap (λ (y : ℕ). kind_numbered y (u i)) two ∙ ap by_rule (sym second) in
          follows (x.kind ∙ ap via_bit two) (x.rule ∙ ap rule_bit two) (rw second (rule i h p two)) (comes_as (by_rule (choice.body i)) (pattern (choice.body i)) kn (given_by (by_rule (choice.body i)) kn))

      as_via : k i ≡ 1 → NewValue i
      as_via one =
          let kn : kind_numbered (k i) (u i) ≡ via_parent = ap (λ (y : ℕ). kind_numbered y (u i)) one in
          let out = covered i h p one in
          let deep = out.0 in
          let has : parent_has e t (live t) c ≡ true = and_join (leb 2 (live t)) (holds_in e t (parent (live t)) c) (le-leb 2 (live t) deep) (holds_true e t (parent (live t)) c out.1) in
          let same : held (parent (depth_of (word i))) (cell_of (word i)) ≡ held_in e t old (parent (live t)) c =
          rw (x.depth, x.cell, ne_eqb (parent (live t)) (live t) (λ q. omega arith)) in
          let j = find_in e t (parent (live t)) c in
          let unruled : pattern_of (word1 e t j) ≡ 0 =
          sym (source_rule m e b t ok (parent (live t)) c (omega arith) out.1) ∙ pattern_zero (word1 e t (source_in e t (parent (live t)) c)) (plain i h p one) in
          rests (x.kind ∙ ap via_bit one) (x.rule ∙ ap rule_bit one) (choice.bodiless i h p one) (rw x.depth deep) _ (same ∙ held_some e t old (parent (live t)) c out.1)
          (plain_kind (word1 e t j) (word2 e t j) unruled)
          (comes_as via_parent (value_in e t old (parent (live t)) c) kn (given_by via_parent kn ∙ outer_value e t old inner c (cell_bytes memory c) has))

      new_value : NewValue i
      new_value =
          by_bool (eqb (k i) 0) (λ z. as_copy (eqb-true (k i) 0 z))
          (λ z.
          by_bool (eqb (k i) 1) (λ y. as_via (eqb-true (k i) 1 y))
          (λ y. let a = eqb-false (k i) 0 z in let d = eqb-false (k i) 1 y in as_rule (omega (arith, a, d, kind c (choice.within i h p)))))

    new_full : (i : ℕ) → i < e → choice.taken i ≡ true → Full m e b t old new (live t) held (λ i. i) Comes Takes i (word i) (choice.body i)
    new_full i h p =
        let x = made i h p in
        record {
          low = rw x.depth inner;
          high = rw x.depth (omega arith);
          spare = x.rest;
          cell = rw x.cell (within (choice.cell i) (choice.within i h p));
          place = came (p, sym x.cell) (rw (x.depth, x.cell) (choice.new i h p)) (λ q. ap depth_of (choice.free i h p));
          value = new_value i h p;
        }

    -- ---- the others

    -- a slot of the innermost domain with a cell of the list
    abbrev inside : ℕ → Bool
    inside i = eqb (depth_of (word1 e t i)) (live t) && named rs (cell_of (word1 e t i))

    -- its label is raised
    risen : (i : ℕ) (lab : Label) → at_slot e t (held_in e t old) i ≡ told e t old i lab
        → at_slot e t held i ≡ told e t old i (cond (inside i) (raised (label_numbered (label_for rs (cell_of (word1 e t i)))) lab) lab)
    risen i lab q =
        by_bool (eqb (depth_of (word1 e t i)) (live t))
        (λ y. by_bool (named rs (cell_of (word1 e t i))) (λ z. rw (y, z, q)) (λ z. rw (y, z, q)))
        (λ y. rw (y, q))

    -- which changes nothing where it does not rise
    same_label : (i : ℕ) → rises (live t) rs (word1 e t i) ≡ false
        → cond (inside i) (raised (label_numbered (label_for rs (cell_of (word1 e t i)))) (label_of (word1 e t i))) (label_of (word1 e t i)) ≡ label_of (word1 e t i)
    same_label i r =
        by_bool (inside i)
        (λ y.
        let s = and_split (eqb (depth_of (word1 e t i)) (live t)) (named rs (cell_of (word1 e t i))) y in
        by_bool (eqb (label_for rs (cell_of (word1 e t i))) 1)
        (λ z.
        let low : eqb (writable_of (word1 e t i)) 0 ≡ false = rw (s.0, z) at r in
        let one : writable_of (word1 e t i) ≡ 1 = omega (arith, eqb-false (writable_of (word1 e t i)) 0 low) in
        rw (y, z, one))
        (λ z. rw (y, z)))
        (λ y. rw y)

    stays : (i : ℕ) (lab : Label) → Used m e b t i → at_slot e t held i ≡ told e t old i lab → Stays m e b t old new (live t) held (λ i. i) Comes Takes i lab
    stays i lab u q =
        let high = u.high in
        record {
          high = u.high;
          holding = q;
          outer = λ v. let two = u.inner (λ y. omega (arith, v, y)) in rw (ne_eqb (parent (depth_of (word1 e t i))) (live t) (λ y. omega (arith, y)));
          home = λ v. refl;
        }

    fate : (i : ℕ) → i < e → Fate m e b t old new (live t) held (λ i. i) Comes Takes i (chosen choice i)
    unfolding chosen raise_change
    fate i h =
        let w = word1 e t i in
        by_bool (choice.taken i)
        (λ p. rw p (fills {x = word i} {v = choice.body i} (new_full i h p)))
        (λ p.
        by_bool (rises (live t) rs w)
        (λ r.
        let f = rises_facts (live t) rs w r in
        rw (p, r)
        (raises (rw f.depth inner) f.old (λ u q.
        stays i read_write u (risen i read_only q ∙ rw (eq-eqb (depth_of w) (live t) f.depth, label_named (cell_of w) rs f.label, eq-eqb (label_for rs (cell_of w)) 1 f.label)))))
        (λ r. rw (p, r) (keeps (λ u q. stays i (label_of w) u (risen i (label_of w) q ∙ rw (same_label i r))))))

    -- ---- all of them

    lacked : (d c : ℕ) → 1 ≤ d → d ≤ live t → holds_in e t d c ≡ false
        → (held d c ≡ none) ⊎ ((i : ℕ) × (i < e) × (names d c (new_first (chosen choice i) (word1 e t i)) ≡ true))
    lacked d c low high z =
        by_bool (eqb d (live t))
        (λ y.
        by_bool (named rs c)
        (λ x.
        let q = eqb-true d (live t) y in
        let s = choice.covers c (within c x) x (rw q at z) in
        let w = made s.0 s.1 s.2 in
        inr (s.0, s.1, rw (takes s.0 s.2) (names_make e t d c (word s.0) (w.depth ∙ sym q) (w.cell ∙ s.3))))
        (λ x. inl (rw (y, x) (held_none e t old d c z))))
        (λ y. inl (rw y (held_none e t old d c z)))

    becomes : Becomes m e b t old new (live t) held (λ i. i) Comes Takes [] (chosen choice)
    becomes =
        record {
          right = ok;
          long = long;
          low = tt;
          head = all_remain (chosen choice) ok;
          spared = spared;
          fate = fate;
          lacked = lacked;
          own = λ i j h g x y p. p;
          cells = λ i j c h g p q. choice.apart i j h g p.0 q.0 (p.1 ∙ sym q.1);
          bodies = λ i j v h g p q. choice.bodies i j h g p.1 q.1 p.0 q.0 (p.2 ∙ sym q.2);
        }

    pub state_after : state_in e (stores (entry_changes e (chosen choice)) t) new ≡ add_ranges memory rs (state_in e t old)
    state_after =
        let B = becomes in
        innermost_state e t (stores (entry_changes e (chosen choice)) t) old new B.head.live B.head.next B.head.kept
        (λ d c. cond (named rs c) (added (label_numbered (label_for rs c)) (kind_numbered (kind_for rs c) (rule_for rs c)) (given c) (d.holds c)) (d.holds c))
        (λ x c h. becomes_held B (suc x) c (omega arith) h)
        ∙ sym (ranges_state memory rs (state_in e t old))

  -- any bytes do for the rule
  pub rule_after : Rule m e b (stores (entry_changes e (chosen choice)) t)
  rule_after = becomes_rule (becomes [] [] [] (λ i c. refl) (λ i h p z. simp drop-nil))
