-- A choice of places, told slot by slot; and the lowest free places, which the contract's call takes, are one. Assumes nothing.
use Prim.Native.Nat.{ℕ, ◌≤◌, ◌<◌}
use mathlib.Core.Bool.{true, false, not}
use mathlib.Core.List.{List}
use mathlib.Core.Path.{◌≡◌, refl, sym, ap, ◌∙◌}
use native.Mathlib.Omega.{arith}
use borrow.Author.Tests.{eq-eqb, eqb-true, lt-ltb, not-true}
use lib.Dec.{ltb, eqb}
use lib.ListN.{length}
use Rattle.words.specs.Layout.{cells_of, bodies_of, slots_of}
use Rattle.words.specs.Scan.{count}
use Rattle.words.proofs.Scan.{and_split, and_join}
use Rattle.ranges.specs.declared.Range.{Range}
use Rattle.ranges.specs.Ranges.{named, kind_for, rule_for}
use Rattle.table.specs.Entry.{live, word1, holds_in}
use Rattle.table.specs.Changes.{entry_changes}
use Rattle.search.specs.Free.{slot_free, body_free}
use Rattle.search.proofs.Free.{slots_all, bodies_all}
use Rattle.search.proofs.Taking.{taker_facts, same_place, taker_of_lem, taken_free, lowest_free_lem}
use Rattle.store.proofs.Raw.{raw_rule}
use Rattle.add.specs.Add.{is_new, is_new_copy, slot_for, body_for, change_with, cell_for, taken_second}
use Rattle.add.specs.Ready.{Ready}
use Rattle.add.specs.Choice.{Choice}
use Rattle.add.proofs.Choices.{Taking, chosen, second_copy, second_via, second_rule}

-- ---- new cells

module _ (e : ℕ) (t : List ℕ) (rs : List Range) (c : ℕ) where
  pub new_facts : is_new e t rs c ≡ true → (named rs c ≡ true) × (holds_in e t (live t) c ≡ false)
  new_facts h = let s = and_split (named rs c) (not (holds_in e t (live t) c)) h in (s.0, not-true _ s.1)

  pub new_make : named rs c ≡ true → holds_in e t (live t) c ≡ false → is_new e t rs c ≡ true
  new_make p q = and_join (named rs c) (not (holds_in e t (live t) c)) p (ap not q)

  pub copy_facts : is_new_copy e t rs c ≡ true → (is_new e t rs c ≡ true) × (kind_for rs c ≡ 0)
  copy_facts h = let s = and_split (is_new e t rs c) (eqb (kind_for rs c) 0) h in (s.0, eqb-true _ _ s.1)

  pub copy_make : is_new e t rs c ≡ true → kind_for rs c ≡ 0 → is_new_copy e t rs c ≡ true
  copy_make p z = and_join (is_new e t rs c) (eqb (kind_for rs c) 0) p (eq-eqb (kind_for rs c) 0 z)

-- ---- slot by slot

module _ {m e b : ℕ} {t : List ℕ} {rs : List Range} {slot body : ℕ → ℕ} (choice : Choice m e b t rs slot body) where
  abbrev taker : ℕ → ℕ
  taker i = cell_for m e t rs slot i

  abbrev facts : (i : ℕ) → ltb (taker i) m ≡ true → (taker i < m) × (is_new e t rs (taker i) ≡ true) × (slot (taker i) ≡ i)
  facts = taker_facts m (is_new e t rs) slot

  abbrev same_slot : (i j : ℕ) → ltb (taker i) m ≡ true → ltb (taker j) m ≡ true → taker i ≡ taker j → i ≡ j
  same_slot = same_place m (is_new e t rs) slot

  -- the second word of a copy is its body
  abbrev own_body : (i : ℕ) → kind_for rs (taker i) ≡ 0 → taken_second rs (body (taker i)) (taker i) ≡ body (taker i)
  own_body i z = second_copy (kind_for rs (taker i)) (rule_for rs (taker i)) (body (taker i)) z

  unfoldable pub taking : Taking m e b t rs
  taking =
      record {
        taken = λ i. ltb (cell_for m e t rs slot i) m;
        cell = λ i. cell_for m e t rs slot i;
        body = λ i. taken_second rs (body (cell_for m e t rs slot i)) (cell_for m e t rs slot i);
        free = λ i h p. eqb-true (word1 e t i) 0 (taken_free choice.slots i p);
        within = λ i h p. (new_facts e t rs (taker i) (facts i p).1).0;
        new = λ i h p. (new_facts e t rs (taker i) (facts i p).1).1;
        apart = λ i j hi hj p q s. same_slot i j p q s;
        covers = covers;
        fits = λ i h p z. let f = facts i p in rw (own_body i z) (choice.bodies.below (taker i) f.0 (copy_make e t rs (taker i) f.1 z));
        unused = λ i h p z. let f = facts i p in rw (own_body i z) (choice.bodies.was_free (taker i) f.0 (copy_make e t rs (taker i) f.1 z));
        bodies = λ i j hi hj p q y z s.
            let f = facts i p in
            let g = facts j q in
            same_slot i j p q
            (choice.bodies.own (taker i) (taker j) f.0 g.0 (copy_make e t rs (taker i) f.1 y) (copy_make e t rs (taker j) g.1 z) (sym (own_body i y) ∙ s ∙ own_body j z));
        bodiless = λ i h p z. second_via (kind_for rs (taker i)) (rule_for rs (taker i)) (body (taker i)) z;
        ruled = λ i h p z. second_rule (kind_for rs (taker i)) (rule_for rs (taker i)) (body (taker i)) z;
      }
    where
      covers : (c : ℕ) → c < m → named rs c ≡ true → holds_in e t (live t) c ≡ false → (i : ℕ) × (i < e) × (ltb (taker i) m ≡ true) × (taker i ≡ c)
      covers c l within lacks =
          let here : is_new e t rs c ≡ true = new_make e t rs c within lacks in
          let at : taker (slot c) ≡ c = taker_of_lem choice.slots c l here in
          (slot c, choice.slots.below c l here, lt-ltb (taker (slot c)) m (omega arith), at)

  -- its changes are those of the call with the choice
  pub words_told : entry_changes e (chosen taking) ≡ entry_changes e (change_with m e t rs slot body)
  unfolding chosen change_with taking
  words_told = refl

-- ---- the lowest free slots and bodies

module _ (memory bodies t : List ℕ) (rs : List Range) (r : Ready memory bodies t rs) where
  abbrev m : ℕ
  m = cells_of (length memory)

  abbrev e : ℕ
  e = slots_of (length t)

  abbrev b : ℕ
  b = bodies_of (length bodies)

  -- there are slots and bodies enough
  pub slots_enough : count (cells_of (length memory)) (is_new (slots_of (length t)) t rs) ≤ count (slots_of (length t)) (slot_free (slots_of (length t)) t)
  slots_enough = omega (arith, r.slots, slots_all (slots_of (length t)) t)

  pub places_enough : count (cells_of (length memory)) (is_new_copy (slots_of (length t)) t rs) ≤ count (bodies_of (length bodies)) (body_free (slots_of (length t)) t)
  places_enough = omega (arith, r.places, bodies_all (cells_of (length memory)) (slots_of (length t)) (bodies_of (length bodies)) t (raw_rule memory bodies t r.store))

  pub lowest : Choice (cells_of (length memory)) (slots_of (length t)) (bodies_of (length bodies)) t rs (slot_for (slots_of (length t)) t rs) (body_for (slots_of (length t)) (bodies_of (length bodies)) t rs)
  lowest =
      record {
        slots = lowest_free_lem m (is_new e t rs) e (slot_free e t) slots_enough;
        bodies = lowest_free_lem m (is_new_copy e t rs) b (body_free e t) places_enough;
      }
