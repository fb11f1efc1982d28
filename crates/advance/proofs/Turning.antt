-- Some read-write entries of the innermost domain become copies with other bodies, and those of them whose cells the parent lacks go to it by entries
-- in other slots: for any choice of different free slots and bodies the table stays right, and where they are those whose cells changed its state is
-- the model's. Assumes nothing.
use Prim.Native.Nat.{ℕ, suc, ◌+◌, ◌*◌, ◌≤◌, ◌<◌}
use mathlib.Core.Bool.{Bool, true, false, cond, not, ◌&&◌, ◌||◌}
use mathlib.Core.List.{List, []}
use mathlib.Core.Logic.{◌⊎◌, inl, inr}
use mathlib.Core.Option.{Option, none, some}
use mathlib.Core.Path.{◌≡◌, refl, sym, ap, subst, ◌∙◌}
use native.Mathlib.Omega.{arith}
use borrow.Author.Tests.{eq-eqb, ne_eqb, eqb-true, eqb-false, lt-ltb, le-leb, leb-true, not-true}
use lib.Dec.{leb, ltb, eqb}
use lib.ListN.{length}
use lib.Seq.{drop-nil}
use Rattle.words.specs.Layout.{pairs_at}
use Rattle.words.specs.Scan.{count}
use Rattle.words.specs.Stores.{stores}
use Rattle.words.specs.Cells.{cell_bytes}
use Rattle.words.proofs.Scan.{by_bool, is_false, true≢, and_split, and_join, count_ext, count_or}
use Rattle.table.specs.Entry.{live, word1, word2, depth_of, writable_of, via_of, pattern_of, cell_of, innermost, parent, names, find_in, holds_in, writes_in, as_copy, outward}
use Rattle.table.specs.Changes.{Change, keep, put, is_changed, new_first, entry_changes}
use Rattle.table.proofs.Entry.{names_make, find_hit, holds_true, holds_found}
use Rattle.table.proofs.Made.{copy_made, outward_made}
use Rattle.table.proofs.Rule.{Rule, Used}
use Rattle.table.proofs.Single.{only_one, find_self}
use Rattle.table.proofs.Entries.{changes_count}
use Rattle.table.proofs.Head.{all_remain}
use Rattle.search.specs.Search.{value_in}
use Rattle.search.specs.Free.{slot_free, body_free, taker_of, TakesFree}
use Rattle.search.proofs.Value.{Copy}
use Rattle.search.proofs.Counts.{count_entries}
use Rattle.search.proofs.Taking.{taker_facts, same_place, taker_of_lem, taken_free, taken_many}
use Rattle.model.specs.State.{read_write, copy, Holding}
use Rattle.model.specs.Holdings.{held_changed, advanced, given, advance}
use Rattle.store.specs.State.{label_of, kind_of, held_in, state_in}
use Rattle.store.proofs.Domains.{held_none, held_some, held_holds, inner_two_state}
use Rattle.store.proofs.Becoming.{told, told_rule, there, came, had, took, follows, Fate, keeps, turns, fills, Becomes, becomes_rule, becomes_held}
use Rattle.advance.specs.Advance.{parent_lacks, gives_with, given_first, given_second, give_with, turns_at, change_with}

writable_used : (w : ℕ) → eqb (writable_of w) 1 ≡ true → w ≡ 0 → ⊥
writable_used w h z = let q = eqb-true (writable_of w) 1 h in omega arith

-- ---- which cells advance: some that the innermost domain holds read-write

module _ (m e b : ℕ) (t : List ℕ) (ok : Rule m e b t) (f : ℕ → Bool) (own : (c : ℕ) → f c ≡ true → writes_in e t (innermost t) c ≡ true) where
  -- such a cell is held, by an entry that turns, and is one of memory's
  advances_found : (c : ℕ) → f c ≡ true → find_in e t (live t) c < e
  advances_found c h = holds_found e t (live t) c (and_split (holds_in e t (live t) c) (eqb (writable_of (word1 e t (find_in e t (live t) c))) 1) (own c h)).0

  pub entry_found : (c : ℕ) → f c ≡ true
      → (find_in e t (live t) c < e) × (turns_at e t f (find_in e t (live t) c) ≡ true) × (cell_of (word1 e t (find_in e t (live t) c)) ≡ c)
  entry_found c h =
      let l = advances_found c h in
      let q = find_hit e t (live t) c l in
      (l, and_join _ _ (eq-eqb _ _ q.0) (rw q.1 h), q.1)

  pub entry_of : (c : ℕ) → f c ≡ true → (i : ℕ) × (i < e) × (turns_at e t f i ≡ true) × (cell_of (word1 e t i) ≡ c)
  entry_of c h = let s = entry_found c h in (find_in e t (live t) c, s.0, s.1, s.2)

  pub advances_cell : (c : ℕ) → f c ≡ true → c < m
  advances_cell c h =
      let l = advances_found c h in
      let s = and_split (holds_in e t (live t) c) (eqb (writable_of (word1 e t (find_in e t (live t) c))) 1) (own c h) in
      let u = ok.used (find_in e t (live t) c) l (writable_used (word1 e t (find_in e t (live t) c)) s.1) in
      rw (find_hit e t (live t) c l).1 at u.cell

  -- an entry that turns, where a domain is live
  module _ (low : 1 ≤ live t) (i : ℕ) (z : turns_at e t f i ≡ true) where
    pub turn_depth : depth_of (word1 e t i) ≡ live t
    turn_depth = eqb-true _ _ (and_split (eqb (depth_of (word1 e t i)) (live t)) (f (cell_of (word1 e t i))) z).0

    -- its cell advances
    pub advances_of : f (cell_of (word1 e t i)) ≡ true
    advances_of = (and_split (eqb (depth_of (word1 e t i)) (live t)) (f (cell_of (word1 e t i))) z).1

    pub turn_used : word1 e t i ≡ 0 → ⊥
    turn_used w = omega (arith, low, w, turn_depth)

    pub turn_writable : i < e → eqb (writable_of (word1 e t i)) 1 ≡ true
    turn_writable l =
        let c : ℕ = cell_of (word1 e t i) in
        let at : find_in e t (live t) c ≡ i = subst (λ (d : ℕ). find_in e t d c ≡ i) turn_depth (find_self m e b t ok i l turn_used) in
        ap (λ (x : ℕ). eqb (writable_of (word1 e t x)) 1) (sym at) ∙ (and_split (holds_in e t (live t) c) (eqb (writable_of (word1 e t (find_in e t (live t) c))) 1) (own c advances_of)).1

  -- as many entries turn as cells advance
  pub turning_count : 1 ≤ live t → count e (turns_at e t f) ≡ count m f
  turning_count low =
      count_entries m e b t ok (live t) low (λ w. f (cell_of w))
      ∙ count_ext m (λ c. holds_in e t (live t) c && f (cell_of (word1 e t (find_in e t (live t) c)))) f (λ c l.
      by_bool (holds_in e t (live t) c)
      (λ y. rw (y, (find_hit e t (live t) c (holds_found e t (live t) c y)).1))
      (λ y. rw y (sym (is_false (f c) (λ h. true≢ (holds_true e t (live t) c (advances_found c h)) y)))))

  -- ---- which of them are given outwards, and the slots that these take

  module _ (c : ℕ) (z : gives_with e t f c ≡ true) where
    pub gives_goes : f c ≡ true
    gives_goes = (and_split (f c) (parent_lacks e t (live t) c) z).0

    parent_facts : (leb 2 (live t) ≡ true) × (not (holds_in e t (parent (live t)) c) ≡ true)
    parent_facts = and_split (leb 2 (live t)) (not (holds_in e t (parent (live t)) c)) (and_split (f c) (parent_lacks e t (live t) c) z).1

    pub gives_deep : 2 ≤ live t
    gives_deep = leb-true 2 (live t) parent_facts.0

    pub gives_lacks : holds_in e t (parent (live t)) c ≡ false
    gives_lacks = not-true (holds_in e t (parent (live t)) c) parent_facts.1

  module _ (slot : ℕ → ℕ) (slots : TakesFree m (gives_with e t f) e (slot_free e t) slot) where
    abbrev pub taken_at : ℕ → Bool
    taken_at i = ltb (taker_of m (gives_with e t f) slot i) m

    -- a slot that is taken was free, so that no entry turns there
    pub taken_unused : (i : ℕ) → taken_at i ≡ true → word1 e t i ≡ 0
    taken_unused i p = eqb-true (word1 e t i) 0 (taken_free slots i p)

    module _ (low : 1 ≤ live t) (body : ℕ → ℕ) where
      is_changed_lem : (i : ℕ) → is_changed (change_with m e t f slot body i) ≡ (taken_at i || turns_at e t f i)
      unfolding give_with
      is_changed_lem i = by_bool (taken_at i) (λ z. rw z) (λ z. rw z (by_bool (turns_at e t f i) (λ y. rw y) (λ y. rw y)))

      changed_count : count e (λ i. is_changed (change_with m e t f slot body i)) ≡ count m (gives_with e t f) + count m f
      changed_count =
          count_ext e (λ i. is_changed (change_with m e t f slot body i)) (λ i. taken_at i || turns_at e t f i) (λ i l. is_changed_lem i)
          ∙ count_or e taken_at (turns_at e t f) (λ i l p q. turn_used low i q (taken_unused i p))
          ∙ (λ i. taken_many slots i + turning_count low i)

      pub words_count : length (entry_changes e (change_with m e t f slot body)) ≡ 2 * (count m f + count m (gives_with e t f))
      words_count = changes_count e (change_with m e t f slot body) ∙ omega (arith, changed_count)

-- ---- a choice, of the cells that advance, which are memory's
module _ (m e b : ℕ) (t : List ℕ) (ok : Rule m e b t) (f : ℕ → Bool) (own : (c : ℕ) → f c ≡ true → writes_in e t (innermost t) c ≡ true) (body : ℕ → ℕ)
    (choice : TakesFree m f b (body_free e t) body) where
  pub takes_below : (c : ℕ) → f c ≡ true → body c < b
  takes_below c h = choice.below c (advances_cell m e b t ok f own c h) h

  pub takes_own : (c d : ℕ) → f c ≡ true → f d ≡ true → body c ≡ body d → c ≡ d
  takes_own c d x y = choice.own c d (advances_cell m e b t ok f own c x) (advances_cell m e b t ok f own d y) x y

-- ---- the new table and its state
module _ (m e b : ℕ) (t : List ℕ) (ok : Rule m e b t) (long : pairs_at e ≤ length t) (low : 1 ≤ live t) (f : ℕ → Bool)
    (own : (c : ℕ) → f c ≡ true → writes_in e t (innermost t) c ≡ true) (slot body : ℕ → ℕ)
    (slots : TakesFree m (gives_with e t f) e (slot_free e t) slot) (choice : TakesFree m f b (body_free e t) body) where
  abbrev g : ℕ → Bool
  g = gives_with e t f

  abbrev taken : ℕ → Bool
  taken = taken_at m e b t ok f own slot slots

  -- which cell takes slot i, and the entry that has it further in
  abbrev taker : ℕ → ℕ
  taker i = taker_of m g slot i

  abbrev inner : ℕ → ℕ
  inner c = find_in e t (live t) c

  -- an entry that turns takes the body of its cell
  abbrev Takes : ℕ → ℕ → Type 0
  Takes i v = (turns_at e t f i ≡ true) × (body (cell_of (word1 e t i)) ≡ v)

  -- a slot that is taken comes to its cell
  abbrev Comes : ℕ → ℕ → Type 0
  Comes i c = (taken i ≡ true) × (taker i ≡ c)

  -- whose body a slot has: that of the entry further in where it is taken, its own where it stays; a new one, nobody's, where it turns
  abbrev origin : ℕ → ℕ
  origin i = cond (taken i) (inner (taker i)) (cond (turns_at e t f i) (e + i) i)

  used_at : (i : ℕ) → i < e → turns_at e t f i ≡ true → Used m e b t i
  used_at i l z = ok.used i l (turn_used m e b t ok f own low i z)

  -- no two take one
  one_body : (i j v : ℕ) → i < e → j < e → Takes i v → Takes j v → i ≡ j
  one_body i j v li lj p q =
      let same = takes_own m e b t ok f own body choice (cell_of (word1 e t i)) (cell_of (word1 e t j)) (advances_of m e b t ok f own low i p.0) (advances_of m e b t ok f own low j q.0) (p.1 ∙ sym q.1) in
      only_one m e b t ok i j (depth_of (word1 e t i)) (cell_of (word1 e t i)) (used_at i li p.0).low li lj
      (names_make e t (depth_of (word1 e t i)) (cell_of (word1 e t i)) (word1 e t i) refl refl)
      (names_make e t (depth_of (word1 e t i)) (cell_of (word1 e t i)) (word1 e t j) (turn_depth m e b t ok f own low j q.0 ∙ sym (turn_depth m e b t ok f own low i p.0)) (sym same))

  one_cell : (i j c : ℕ) → Comes i c → Comes j c → i ≡ j
  one_cell i j c p q = same_place m g slot i j p.0 q.0 (p.1 ∙ sym q.1)

  -- a cell that is given outwards: the entry that has it turns
  module _ (c : ℕ) (z : gives_with e t f c ≡ true) where
    inner_found : inner c < e
    inner_found = advances_found m e b t ok f own c (gives_goes m e b t ok f own c z)

    inner_hit : (depth_of (word1 e t (inner c)) ≡ live t) × (cell_of (word1 e t (inner c)) ≡ c)
    inner_hit = find_hit e t (live t) c inner_found

    inner_turns : turns_at e t f (inner c) ≡ true
    inner_turns = (entry_found m e b t ok f own c (gives_goes m e b t ok f own c z)).1

    inner_used : Used m e b t (inner c)
    inner_used = used_at (inner c) inner_found inner_turns

    -- it has its value itself: via parent, the parent would hold the cell
    inner_own : via_of (word1 e t (inner c)) ≡ 0
    inner_own =
        let w = word1 e t (inner c) in
        by_bool (eqb (via_of w) 0) (λ y. eqb-true (via_of w) 0 y)
        (λ y.
        let rest = subst (λ (x : ℕ). find_in e t (parent x) (cell_of w) < e) inner_hit.0 (ok.outer (inner c) inner_found (eqb-false (via_of w) 0 y)) in
        let there = subst (λ (x : ℕ). find_in e t (parent (live t)) x < e) inner_hit.1 rest in
        absurd (true≢ (holds_true e t (parent (live t)) c there) (gives_lacks m e b t ok f own c z)))

  taken_gives : (i : ℕ) → taken i ≡ true → gives_with e t f (taker i) ≡ true
  taken_gives i p = (taker_facts m g slot i p).1

  -- no two slots have a body from one slot
  apart : (i j : ℕ) → i < e → j < e → origin i ≡ origin j → i ≡ j
  apart i j li lj =
      by_bool (taken i)
      (λ p.
      let pi = taken_gives i p in
      by_bool (taken j)
      (λ q.
      let qj = taken_gives j q in
      rw (p, q) (λ s. same_place m g slot i j p q (sym (inner_hit (taker i) pi).1 ∙ ap (λ (x : ℕ). cell_of (word1 e t x)) s ∙ (inner_hit (taker j) qj).1)))
      (λ q.
      by_bool (turns_at e t f j)
      (λ y. rw (p, q, y) (λ s. absurd (below (inner (taker i)) j (inner_found (taker i) pi) s)))
      (λ y. rw (p, q, y) (λ s. absurd (true≢ (subst (λ (x : ℕ). turns_at e t f x ≡ true) s (inner_turns (taker i) pi)) y)))))
      (λ p.
      by_bool (taken j)
      (λ q.
      let qj = taken_gives j q in
      by_bool (turns_at e t f i)
      (λ y. rw (p, q, y) (λ s. absurd (below (inner (taker j)) i (inner_found (taker j) qj) (sym s))))
      (λ y. rw (p, q, y) (λ s. absurd (true≢ (subst (λ (x : ℕ). turns_at e t f x ≡ true) (sym s) (inner_turns (taker j) qj)) y))))
      (λ q.
      by_bool (turns_at e t f i)
      (λ x.
      by_bool (turns_at e t f j)
      (λ y. rw (p, q, x, y) (λ s. omega arith))
      (λ y. rw (p, q, x, y) (λ s. absurd (below j i lj (sym s)))))
      (λ x.
      by_bool (turns_at e t f j)
      (λ y. rw (p, q, x, y) (λ s. absurd (below i j li s)))
      (λ y. rw (p, q, x, y) (λ s. s)))))
    where
      below : (a k : ℕ) → a < e → a ≡ e + k → ⊥
      below a k l s = omega arith

  -- the cells that advance have memory's bytes, and bodies in use keep theirs
  module _ (memory old new : List ℕ)
      (spared : (i : ℕ) → Copy e t i → cell_bytes new (word2 e t i) ≡ cell_bytes old (word2 e t i))
      (filled : (c : ℕ) → f c ≡ true → cell_bytes new (body c) ≡ cell_bytes memory c) where
    -- what a domain then holds
    abbrev copied : ℕ → Option Holding
    copied c = some (record { label = read_write; kind = copy; value = cell_bytes memory c })

    abbrev held : ℕ → ℕ → Option Holding
    held d c = cond (eqb d (live t) && f c) (copied c) (cond (eqb (suc d) (live t) && g c) (held_in e t old (live t) c) (held_in e t old d c))

    abbrev FateOf : ℕ → Change → Type 0
    FateOf i c = Fate m e b t old new (live t) held origin Comes Takes i c

    -- further out than the innermost domain, where nothing is given
    held_outside : (d c : ℕ) → (d ≡ live t → ⊥) → (eqb (suc d) (live t) && g c) ≡ false → held d c ≡ held_in e t old d c
    held_outside d c ne z = rw (ne_eqb d (live t) ne, z)

    -- what the parent is given is what the innermost domain held
    held_given : (c : ℕ) → gives_with e t f c ≡ true → held (parent (live t)) c ≡ told e t old (inner c) (label_of (word1 e t (inner c)))
    held_given c z =
        let deep = gives_deep m e b t ok f own c z in
        let hit = inner_hit c z in
        rw (ne_eqb (parent (live t)) (live t) (λ q. omega (arith, deep, q)), eq-eqb (suc (parent (live t))) (live t) (omega (arith, deep)), z)
        (held_some e t old (live t) c (inner_found c z)
        ∙ (λ i. some (record { label = label_of (word1 e t (inner c)); kind = kind_of (word1 e t (inner c)) (word2 e t (inner c)); value = value_in e t old (sym hit.0 i) (sym hit.1 i) })))

    -- a slot that is taken
    fills_at : (i : ℕ) → i < e → (p : taken i ≡ true) → FateOf i (put (given_first e t (taker i)) (given_second e t (taker i)))
    fills_at i l p =
        let c : ℕ = taker i in
        let z = taken_gives i p in
        let j : ℕ = inner c in
        let w : ℕ = word1 e t j in
        let k = inner_used c z in
        let hit = inner_hit c z in
        let deep = gives_deep m e b t ok f own c z in
        let via = inner_own c z in
        let made = outward_made w k.low in
        let depth : depth_of (outward w) ≡ parent (live t) = made.depth ∙ ap parent hit.0 in
        let cell : cell_of (outward w) ≡ c = made.cell ∙ hit.1 in
        let from : origin i ≡ j = rw p in
        let is : held (depth_of (outward w)) (cell_of (outward w)) ≡ told e t old j (label_of (outward w)) =
        rw (depth, cell, made.label) (held_given c z) in
        fills {x = outward w} {v = word2 e t j} (record {
          low = rw depth (omega arith);
          high = rw depth (omega arith);
          spare = made.rest ∙ k.spare;
          cell = rw made.cell k.cell;
          place = came (p, sym cell) (rw (depth, cell) (gives_lacks m e b t ok f own c z))
              (λ h. let free = taken_unused m e b t ok f own slot slots i p in omega (arith, free));
          value = by_bool (eqb (pattern_of w) 0)
              (λ y.
              let plain = eqb-true (pattern_of w) 0 y in
              had (made.kind ∙ via) (made.rule ∙ plain)
              (subst (Copy e t) (sym from) (record { slot = inner_found c z; used = turn_used m e b t ok f own low j (inner_turns c z); copy = via; plain = plain }))
              (ap (word2 e t) (sym from)) (is ∙ ap (λ (x : ℕ). told e t old x (label_of (outward w))) (sym from)))
              (λ y.
              let none = eqb-false (pattern_of w) 0 y in
              let rule : pattern_of w ≡ 1 = omega (arith, none) in
              follows (made.kind ∙ via) (made.rule ∙ rule) (k.rule rule) (is ∙ told_rule m e b t old ok j (label_of (outward w)) (inner_found c z) k.low via rule));
        })

    -- an entry that turns
    turned_here : (i : ℕ) → i < e → (z : turns_at e t f i ≡ true) → FateOf i (put (as_copy (word1 e t i)) (body (cell_of (word1 e t i))))
    turned_here i l z =
        let w = word1 e t i in
        let made = copy_made w in
        let goes = advances_of m e b t ok f own low i z in
        turns {x = as_copy w} {v = body (cell_of w)} (used_at i l z).low (λ k q.
        record {
          low = rw made.depth k.low;
          high = rw made.depth k.high;
          spare = made.rest ∙ k.spare;
          cell = rw made.cell k.cell;
          place = there (turn_used m e b t ok f own low i z) made.depth made.cell;
          value = took made.kind made.rule (z, refl) (choice.below (cell_of w) k.cell goes) (choice.was_free (cell_of w) k.cell goes)
              (rw (made.depth, made.cell, made.label, eq-eqb (depth_of w) (live t) (turn_depth m e b t ok f own low i z), goes, turn_writable m e b t ok f own low i z l, filled (cell_of w) goes));
        })

    -- any other: what is given outwards it is not, since its domain holds the cell; and so does the parent of a via parent entry
    stays_at : (i : ℕ) → i < e → taken i ≡ false → turns_at e t f i ≡ false → FateOf i keep
    stays_at i l p z =
        let w = word1 e t i in
        keeps (λ k q.
        let high = k.high in
        let own-cell : holds_in e t (depth_of w) (cell_of w) ≡ true = holds_true e t (depth_of w) (cell_of w) (rw (find_self m e b t ok i l (λ y. let deep = k.low in omega (arith, y))) l) in
        record {
          high = k.high;
          holding = rw (z, not_given (depth_of w) (cell_of w) own-cell) q;
          outer = λ v.
              let ne : via_of w ≡ 0 → ⊥ = λ y. omega (arith, v, y) in
              let two = k.inner ne in
              held_outside (parent (depth_of w)) (cell_of w) (λ y. omega (arith, y)) (not_given (parent (depth_of w)) (cell_of w) (holds_true e t (parent (depth_of w)) (cell_of w) (ok.outer i l ne)));
          home = λ v. rw (p, z);
        })
      where
        not_given : (d c : ℕ) → holds_in e t d c ≡ true → (eqb (suc d) (live t) && g c) ≡ false
        not_given d c h =
            is_false (eqb (suc d) (live t) && g c) (λ y.
            let s = and_split (eqb (suc d) (live t)) (g c) y in
            let at : d ≡ parent (live t) = omega (arith, eqb-true (suc d) (live t) s.0) in
            true≢ (subst (λ (x : ℕ). holds_in e t x c ≡ true) at h) (gives_lacks m e b t ok f own c s.1))

    fate : (i : ℕ) → i < e → FateOf i (change_with m e t f slot body i)
    unfolding give_with
    fate i l =
        by_bool (taken i)
        (λ p. rw p (fills_at i l p))
        (λ p. by_bool (turns_at e t f i) (λ z. rw (p, z) (turned_here i l z)) (λ z. rw (p, z) (stays_at i l p z)))

    -- a cell that advances is held; one that is given outwards comes there
    lacked : (d c : ℕ) → holds_in e t d c ≡ false
        → (held d c ≡ none) ⊎ ((i : ℕ) × (i < e) × (names d c (new_first (change_with m e t f slot body i) (word1 e t i)) ≡ true))
    unfolding give_with
    lacked d c h =
        by_bool (eqb d (live t) && f c)
        (λ y.
        let s = and_split (eqb d (live t)) (f c) y in
        absurd (true≢ (subst (λ (x : ℕ). holds_in e t x c ≡ true) (sym (eqb-true d (live t) s.0)) (holds_true e t (live t) c (advances_found m e b t ok f own c s.1))) h))
        (λ y.
        by_bool (eqb (suc d) (live t) && g c)
        (λ x.
        let s = and_split (eqb (suc d) (live t)) (g c) x in
        let z = s.1 in
        let small = advances_cell m e b t ok f own c (gives_goes m e b t ok f own c z) in
        let is : taker (slot c) ≡ c = taker_of_lem slots c small z in
        let hit = inner_hit c z in
        let made = outward_made (word1 e t (inner c)) (inner_used c z).low in
        inr (
          slot c,
          slots.below c small z,
          rw (is, lt-ltb c m small)
              (names_make e t d c (outward (word1 e t (inner c))) (made.depth ∙ ap parent hit.0 ∙ omega (arith, eqb-true (suc d) (live t) s.0)) (made.cell ∙ hit.1)),
        ))
        (λ x. inl (rw (y, x) (held_none e t old d c h))))

    becomes : Becomes m e b t old new (live t) held origin Comes Takes [] (change_with m e t f slot body)
    becomes =
        record {
          right = ok;
          long = long;
          low = tt;
          head = all_remain (change_with m e t f slot body) ok;
          spared = spared;
          fate = fate;
          lacked = λ d c one high z. lacked d c z;
          own = λ i j l h x y p. apart i j l h p;
          cells = λ i j c l h p q. one_cell i j c p q;
          bodies = one_body;
        }

    -- where the cells that advance are those that the model says, so is the state
    pub turned_state : ((c : ℕ) → f c ≡ held_changed (cell_bytes memory c) (held_in e t old (live t) c))
        → state_in e (stores (entry_changes e (change_with m e t f slot body)) t) new ≡ advance memory (state_in e t old)
    turned_state is =
        let B = becomes in
        inner_two_state e t (stores (entry_changes e (change_with m e t f slot body)) t) old new B.head.live B.head.next B.head.kept
        (λ x c. advanced (cell_bytes memory c) (x.holds c))
        (λ o i c. given (cell_bytes memory c) (o.holds c) (i.holds c))
        (λ k c l. becomes_held B (suc k) c (omega arith) l ∙ told_by k c)
      where
        told_by : (k c : ℕ) → held (suc k) c
            ≡ cond (eqb (suc k) (live t)) (advanced (cell_bytes memory c) (held_in e t old (suc k) c))
            (cond (eqb (suc (suc k)) (live t)) (given (cell_bytes memory c) (held_in e t old (suc k) c) (held_in e t old (suc (suc k)) c)) (held_in e t old (suc k) c))
        told_by k c =
            by_bool (eqb (suc k) (live t))
            (λ y.
            let q = eqb-true (suc k) (live t) y in
            let far : eqb (suc (suc k)) (live t) ≡ false = ne_eqb (suc (suc k)) (live t) (λ p. omega arith) in
            rw (y, far, is c, q))
            (λ y.
            by_bool (eqb (suc (suc k)) (live t))
            (λ x.
            let q = eqb-true (suc (suc k)) (live t) x in
            let two : leb 2 (live t) ≡ true = le-leb 2 (live t) (omega arith) in
            let out : parent (live t) ≡ suc k = omega arith in
            rw (y, x, two, out, is c, held_holds e t old (suc k) c, q))
            (λ x. rw (y, x)))

  -- any bytes do for the rule
  pub turned_rule : Rule m e b (stores (entry_changes e (change_with m e t f slot body)) t)
  turned_rule = becomes_rule (becomes [] [] [] (λ i k. refl) (λ c z. simp drop-nil))
