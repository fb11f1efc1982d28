-- Cells taken in their order, each with the next free slot and, as a copy, the next free body: cell by cell, over the whole list. Assumes nothing.
use Prim.Native.Nat.{ℕ, zero, suc, ◌+◌, ◌-◌, ◌≤◌, ◌<◌}
use mathlib.Core.Bool.{Bool, true, false, cond, not}
use mathlib.Core.List.{List, [], ◌++◌}
use mathlib.Core.Path.{◌≡◌, refl, sym, ap, subst, ◌∙◌}
use native.Mathlib.Omega.{arith}
use borrow.Author.Tests.{eq-eqb, ne_eqb, eqb-true, eqb-false, lt-ltb}
use lib.Dec.{eqb}
use lib.ListN.{length, take, length-append}
use Rattle.words.specs.Layout.{cells_of, bodies_of, slots_of, cell_size}
use Rattle.words.specs.Scan.{count}
use Rattle.words.specs.Cells.{cell_plan}
use Rattle.words.specs.Stores.{Store, store, gather, stores}
use Rattle.words.proofs.Scan.{by_bool, and_join, count_more, count_stop, count_ext}
use Rattle.words.proofs.Nth.{count_below, nth_of}
use Rattle.words.proofs.Gather.{gather_ext, gather_none, gather_split}
use Rattle.words.proofs.Plans.{length_cell_plan, length_stores, run_take_append, stores_none}
use Rattle.ranges.specs.declared.Range.{Range}
use Rattle.ranges.specs.Ranges.{named, kind_for}
use Rattle.ranges.specs.Lists.{Asks}
use Rattle.table.specs.Entry.{live, holds_in, entry_word, second_word}
use Rattle.table.specs.Marks.{EndsAt}
use Rattle.table.specs.Changes.{Change, keep, put}
use Rattle.search.specs.Free.{slot_free, body_free, lowest_free, free_from, end_of, unmarked, unmarked_from}
use Rattle.search.proofs.From.{from_le}
use Rattle.search.proofs.Free.{slots_all, free_ge, free_miss, free_early, free_nth, free_below, free_passed, free_holds, free_rank, bodies_all, unmarked_nth, unmarked_below, unmarked_passed}
use Rattle.search.proofs.Taking.{lowest_ext}
use Rattle.changes.specs.Staged.{Restaged, Stages}
use Rattle.changes.proofs.Staging.{stages_skip, stages_put}
use Rattle.store.proofs.Raw.{raw_rule}
use Rattle.add.specs.Add.{is_new, is_new_copy, taken_first, taken_second, body_for}
use Rattle.add.specs.Walking.{lacks, body_beyond, bytes_at, take_change, Stand, Takeable, RoomToTake, Standing, Copied, took_cell, passed_cell, cell_bytes_of, TookEntry, RoomForCell}

-- a second word has the body of a copy alone
second_body : (k r v w : ℕ) → (k ≡ 0 → v ≡ w) → second_word k r v ≡ second_word k r w
second_body zero r v w q = q refl
second_body (suc zero) r v w q = refl
second_body (suc (suc k)) r v w q = refl

-- ---- one cell, as the code takes it

-- a body's place, also where none is left
pub body_small : (used : List ℕ) (b k from : ℕ) → from ≤ b → body_beyond used b k from ≤ b
unfolding unmarked_from
body_small used b k from low = by_bool (eqb k 0) (λ z. rw z (from_le b from (unmarked used) low)) (λ z. rw z low)

module _ (e b : ℕ) (t used : List ℕ) (k : ℕ) (w : Stand) (body : ℕ) (q : body ≡ body_beyond used b k w.body) where
  pub took_body : k ≡ 0 → body ≡ unmarked_from b used w.body
  took_body z = q ∙ rw (eq-eqb k 0 z)

  pub took_bytes : (memory : List ℕ) → cond (eqb k 0) (cell_plan memory w.at body) [] ≡ cell_bytes_of b memory used k w
  took_bytes memory = by_bool (eqb k 0) (λ z. rw (z, took_body (eqb-true k 0 z))) (λ z. rw z)

  pub took_is : (slot : ℕ) → slot ≡ free_from e t w.slot → (r : Stand) → r.at ≡ w.at + 1 → r.slot ≡ slot + 1
      → r.body ≡ cond (eqb k 0) (body + 1) body → r.made ≡ w.made + cond (eqb k 0) cell_size 0 → r ≡ took_cell e b t used k w
  took_is slot p r at slots bodies made =
      let there : r.slot ≡ free_from e t w.slot + 1 = slots ∙ ap (λ (x : ℕ). x + 1) p in
      let behind : r.body ≡ cond (eqb k 0) (unmarked_from b used w.body + 1) w.body =
      bodies ∙ by_bool (eqb k 0) (λ z. rw (z, took_body (eqb-true k 0 z))) (λ z. rw z (q ∙ rw z)) in
      λ i. record { at = at i; slot = there i; body = behind i; made = made i }

module _ (memory bodies t held used : List ℕ) (rs : List Range) (a : Takeable memory bodies t held used rs) where
  abbrev e : ℕ
  e = slots_of (length t)

  abbrev b : ℕ
  b = bodies_of (length bodies)

  abbrev m : ℕ
  m = cells_of (length memory)

  abbrev new : ℕ → Bool
  new = is_new (slots_of (length t)) t rs

  abbrev copy : ℕ → Bool
  copy = is_new_copy (slots_of (length t)) t rs

  abbrev free : ℕ → Bool
  free = slot_free (slots_of (length t)) t

  pub slots_enough : count m new ≤ count e free
  slots_enough = omega (arith, a.ready.slots, slots_all e t)

  places_enough : count m copy ≤ count b (body_free e t)
  places_enough = omega (arith, a.ready.places, bodies_all m e b t (raw_rule memory bodies t a.ready.store))

  -- the marks tell which cells are held, and which bodies are free
  pub lacks_is : (c : ℕ) → lacks held (live t) c ≡ not (holds_in (slots_of (length t)) t (live t) c)
  lacks_is c = ap not (a.holders (live t) c a.ready.inner)

  pub new_is : (c : ℕ) → named rs c ≡ true → is_new (slots_of (length t)) t rs c ≡ lacks held (live t) c
  new_is c h = rw (h, lacks_is c)

  free_is : (x : ℕ) → unmarked used x ≡ body_free e t x
  free_is x = a.in_use x

  marked_count : (x : ℕ) → count x (unmarked used) ≡ count x (body_free e t)
  marked_count x = count_ext x (unmarked used) (body_free e t) (λ i l. free_is i)

  module _ (w : Stand) (words bits : List ℕ) (s : Standing memory bodies t rs w words bits) (l : w.at < m) where
    abbrev at : ℕ
    at = w.at

    abbrev slot : ℕ
    slot = free_from e t w.slot

    abbrev rank : ℕ
    rank = count w.at new

    -- ---- a cell that is not new

    module _ (held-already : new w.at ≡ false) where
      not_copy : copy w.at ≡ false
      not_copy = rw held-already

      pub passed_stands : Standing memory bodies t rs (passed_cell w) words bits
      passed_stands =
          let c = s.cell in
          let y = s.made in
          record {
            cell = omega arith;
            slot = s.slot;
            slots = s.slots ∙ sym (count_more at new ∙ rw held-already);
            body = s.body;
            copies = s.copies ∙ sym (count_more at copy ∙ rw not_copy);
            made = omega arith;
            staged = s.staged;
          }

    -- ---- a new one

    module _ (is-new : new w.at ≡ true) where
      ranked : rank < count m new
      ranked = count_below new at m l is-new

      slots_left : rank < count e free
      slots_left = omega (arith, ranked, slots_enough)

      slot_below : slot < e
      slot_below = free_below e t w.slot rank s.slot s.slots slots_left

      slot_rank : count slot free ≡ rank
      slot_rank = free_rank e t w.slot rank s.slot s.slots slots_left

      slot_passed : count (slot + 1) free ≡ rank + 1
      slot_passed = free_passed e t w.slot rank s.slot s.slots slots_left

      slot_free_lem : free slot ≡ true
      slot_free_lem = free_holds e t w.slot rank s.slot s.slots slots_left

      -- it lies before the end: from `top` on every slot is free
      slot_early : (top : ℕ) → EndsAt e t top → slot < end_of e (count m new) top
      slot_early top ends = rw (free_nth e t w.slot rank s.slot s.slots) (free_early e t top ends rank (count m new) ranked slots_left)

      module _ (k : ℕ) (kind : kind_for rs w.at ≡ k) where
        copy_here : k ≡ 0 → copy w.at ≡ true
        copy_here z = and_join (new at) (eqb (kind_for rs at) 0) is-new (eq-eqb (kind_for rs at) 0 (kind ∙ z))

        other_here : (k ≡ 0 → ⊥) → copy w.at ≡ false
        other_here z = rw (is-new, ne_eqb (kind_for rs at) 0 (λ q. z (sym kind ∙ q)))

        copied : ℕ
        copied = count w.at copy

        standing_body : count w.body (unmarked used) ≡ count w.at copy
        standing_body = marked_count w.body ∙ s.copies

        left : k ≡ 0 → count w.at copy < count b (unmarked used)
        left z = omega (arith, count_below copy at m l (copy_here z), places_enough, marked_count b)

        pub room_for_cell : RoomToTake memory t rs words bits → RoomForCell e b t used k w words bits
        room_for_cell room =
            let early = slot_early room.top room.ends in
            let r = room.room in
            record {
              slot = slot_below;
              room = (omega (arith, early, r.0), r.1);
              body = λ z. unmarked_below used b w.body (count at copy) s.body standing_body (left z);
            }

        body_is : k ≡ 0 → unmarked_from b used w.body ≡ body_for e b t rs w.at
        unfolding lowest_free
        body_is z =
            unmarked_nth used b w.body (count at copy) s.body standing_body
            ∙ lowest_ext b (unmarked used) (body_free e t) copy copy at (λ x h. free_is x) (λ i h. refl)

        -- its bytes
        pub bytes_here : cell_bytes_of b memory used k w ≡ bytes_at b memory t rs w.at
        bytes_here =
            by_bool (eqb k 0)
            (λ z. rw (z, copy_here (eqb-true k 0 z), body_is (eqb-true k 0 z)))
            (λ z. rw (z, other_here (eqb-false k 0 z)))

        pub bytes_many : cond (eqb k 0) cell_size 0 ≡ length (bytes_at b memory t rs w.at)
        bytes_many =
            by_bool (eqb k 0)
            (λ z. rw (z, copy_here (eqb-true k 0 z)) (sym (length_cell_plan memory at (body_for e b t rs at))))
            (λ z. rw (z, other_here (eqb-false k 0 z)))

        module _ (u lab : ℕ) (asks : Asks rs w.at k u lab)
            (words' bits' : List ℕ) (took : TookEntry true e b t used k u lab w words bits words' bits') where
          -- its entry
          second_is : second_word k u (body_beyond used b k w.body) ≡ taken_second rs (body_for e b t rs w.at) w.at
          second_is =
              second_body k u (body_beyond used b k w.body) (body_for e b t rs at) (λ z. rw (eq-eqb k 0 z) (body_is z))
              ∙ sym (λ i. second_word (asks.kind i) (asks.rule i) (body_for e b t rs at))

          first_is : entry_word (live t) k lab w.at ≡ taken_first t rs w.at
          first_is = sym (λ i. entry_word (live t) (asks.kind i) (asks.label i) at)

          change_is : take_change m e b t rs slot
              ≡ put (taken_first t rs w.at) (taken_second rs (body_for e b t rs w.at) w.at)
          unfolding take_change
          change_is = rw (slot_free_lem, slot_rank, lt-ltb rank (count m new) ranked, nth_of m new at l is-new)

          skipped : (i : ℕ) → w.slot ≤ i → i < slot → take_change m e b t rs i ≡ keep
          unfolding take_change
          skipped i p q = rw (free_miss e t w.slot i p q)

          low : w.slot ≤ slot
          low = free_ge e t w.slot

          staged_now : Stages (slot + 1) (take_change m e b t rs) words' bits'
          staged_now =
              stages_put (stages_skip slot s.staged low skipped) change_is
              (subst (λ (c : Change). Restaged words bits slot c words' bits')
              (λ i. put (first_is i) (second_is i))
              (took.put refl))

          pub took_stands : Standing memory bodies t rs (took_cell e b t used k w) words' bits'
          took_stands =
              let c = s.cell in
              let y = s.made in
              record {
                cell = omega arith;
                slot = omega (arith, slot_below);
                slots = slot_passed ∙ sym (count_more at new ∙ rw is-new);
                body =
                    by_bool (eqb k 0)
                    (λ z. rw z (omega (arith, unmarked_below used b w.body (count at copy) s.body standing_body (left (eqb-true k 0 z)))))
                    (λ z. rw z s.body);
                copies =
                    by_bool (eqb k 0)
                    (λ z. rw z (sym (marked_count (unmarked_from b used w.body + 1)) ∙ unmarked_passed used b w.body (count at copy) s.body standing_body (left (eqb-true k 0 z))
                    ∙ sym (count_more at copy ∙ rw (copy_here (eqb-true k 0 z)))))
                    (λ z. rw z (s.copies ∙ sym (count_more at copy ∙ rw (other_here (eqb-false k 0 z)))));
                made = by_bool (eqb k 0) (λ z. rw z (omega arith)) (λ z. rw z (omega arith));
                staged = staged_now;
              }

-- ---- one cell of a part of the list, new or not

module _ (memory bodies t held used : List ℕ) (rs : List Range) (a : Takeable memory bodies t held used rs) (w : Stand) (words bits : List ℕ)
    (s : Standing memory bodies t rs w words bits) (k u lab : ℕ) (asks : Asks rs w.at k u lab) where
  inside : w.at < cells_of (length memory)
  inside = a.ready.within w.at asks.named

  pub cell_room : RoomToTake memory t rs words bits → lacks held (live t) w.at ≡ true
      → RoomForCell (slots_of (length t)) (bodies_of (length bodies)) t used k w words bits
  cell_room room h =
      room_for_cell memory bodies t held used rs a w words bits s inside (new_is memory bodies t held used rs a w.at asks.named ∙ h) k asks.kind room

  -- where taking stands behind it, and its bytes
  abbrev Turned : (budget : ℕ) → (r : Stand) → (bodies' words' bits' : List ℕ) → Type 0
  Turned budget r bodies' words' bits' = Standing memory bodies t rs r words' bits' × Copied memory t rs budget w r bodies bodies' × (r.at ≡ w.at + 1)

  copied_cell : (budget : ℕ) (r : Stand) (bodies' : List ℕ) → r.at ≡ w.at + 1
      → r.made ≡ w.made + length (bytes_at (bodies_of (length bodies)) memory t rs w.at)
      → bodies' ≡ stores (take (budget - w.made) (bytes_at (bodies_of (length bodies)) memory t rs w.at)) bodies → Copied memory t rs budget w r bodies bodies'
  copied_cell budget r bodies' q p h =
      let one : gather (r.at - w.at) (λ j. bytes_at (bodies_of (length bodies)) memory t rs (w.at + j)) ≡ bytes_at (bodies_of (length bodies)) memory t rs w.at =
      let d : r.at - w.at ≡ 1 = omega arith in
      let z : w.at + 0 ≡ w.at = omega arith in
      ap (λ (x : ℕ). gather x (λ j. bytes_at (bodies_of (length bodies)) memory t rs (w.at + j))) d ∙ ap (bytes_at (bodies_of (length bodies)) memory t rs) z in
      record { on = omega arith; made = rw one p; bytes = rw one h }

  module _ (budget : ℕ) (r : Stand) (bodies' words' bits' : List ℕ) where
    held_turn : lacks held (live t) w.at ≡ false → r ≡ passed_cell w → bodies' ≡ bodies → words' ≡ words → bits' ≡ bits → Turned budget r bodies' words' bits'
    held_turn h q x y z =
        let old : is_new (slots_of (length t)) t rs w.at ≡ false = new_is memory bodies t held used rs a w.at asks.named ∙ h in
        rw (q, x, y, z) (
          passed_stands memory bodies t held used rs a w words bits s inside old,
          copied_cell budget (passed_cell w) bodies refl (rw old (omega arith)) (rw old (stores_none (budget - w.made) bodies)),
          refl,
        )

    new_turn : lacks held (live t) w.at ≡ true → r ≡ took_cell (slots_of (length t)) (bodies_of (length bodies)) t used k w
        → bodies' ≡ stores (take (budget - w.made) (cell_bytes_of (bodies_of (length bodies)) memory used k w)) bodies
        → TookEntry true (slots_of (length t)) (bodies_of (length bodies)) t used k u lab w words bits words' bits' → Turned budget r bodies' words' bits'
    new_turn h q x y =
        let new : is_new (slots_of (length t)) t rs w.at ≡ true = new_is memory bodies t held used rs a w.at asks.named ∙ h in
        let here = bytes_here memory bodies t held used rs a w words bits s inside new k asks.kind in
        let many = bytes_many memory bodies t held used rs a w words bits s inside new k asks.kind in
        rw q (
          took_stands memory bodies t held used rs a w words bits s inside new k asks.kind u lab asks words' bits' y,
          copied_cell budget (took_cell (slots_of (length t)) (bodies_of (length bodies)) t used k w) bodies' refl (ap (λ (v : ℕ). w.made + v) many) (x ∙ rw here),
          refl,
        )

    pub cell_turn : r ≡ cond (lacks held (live t) w.at) (took_cell (slots_of (length t)) (bodies_of (length bodies)) t used k w) (passed_cell w)
        → bodies' ≡ stores (take (budget - w.made) (cond (lacks held (live t) w.at) (cell_bytes_of (bodies_of (length bodies)) memory used k w) [])) bodies
        → TookEntry (lacks held (live t) w.at) (slots_of (length t)) (bodies_of (length bodies)) t used k u lab w words bits words' bits'
        → Standing memory bodies t rs r words' bits' × Copied memory t rs budget w r bodies bodies' × (r.at ≡ w.at + 1)
    cell_turn q x y =
        by_bool (lacks held (live t) w.at)
        (λ h. new_turn h (q ∙ rw h) (x ∙ rw h) (rw h at y))
        (λ h. let k = y.kept h in held_turn h (q ∙ rw h) (x ∙ rw h (sym (stores_none (budget - w.made) bodies))) k.0 k.1)

-- of what a call is lent the lengths alone count
pub same_able : (memory bodies bodies' t held used : List ℕ) (rs : List Range) → length bodies' ≡ length bodies → Takeable memory bodies t held used rs
    → Takeable memory bodies' t held used rs
same_able memory bodies bodies' t held used rs q a =
    let r = a.ready in
    record {
      ready = record { store = rw q r.store; inner = r.inner; within = r.within; kind = r.kind; rests = r.rests; plain = r.plain; rule = r.rule; slots = r.slots; places = rw q r.places };
      holders = a.holders;
      in_use = a.in_use;
      cells = a.cells;
      places = a.places;
    }

pub same_room : (memory t : List ℕ) (rs : List Range) (words bits words' bits' : List ℕ) → length words' ≡ length words → length bits' ≡ length bits
    → RoomToTake memory t rs words bits → RoomToTake memory t rs words' bits'
same_room memory t rs words bits words' bits' p q r = let x = r.room in record { top = r.top; ends = r.ends; room = (omega (arith, x.0, q), omega (arith, x.1, p, q)) }

-- ---- cells that no range names are passed over

module _ (memory bodies t : List ℕ) (rs : List Range) where
  pub skip_stands : (w : Stand) (words bits : List ℕ) → Standing memory bodies t rs w words bits → (c : ℕ) → w.at ≤ c → c ≤ cells_of (length memory)
      → ((x : ℕ) → w.at ≤ x → x < c → named rs x ≡ false)
      → Standing memory bodies t rs (record { at = c; slot = w.slot; body = w.body; made = w.made }) words bits
  skip_stands w words bits s c low high none =
      let y = s.made in
      record {
        cell = high;
        slot = s.slot;
        slots = s.slots ∙ sym (count_stop c w.at (is_new (slots_of (length t)) t rs) low (λ x p q. rw (none x p q)));
        body = s.body;
        copies = s.copies ∙ sym (count_stop c w.at (is_new_copy (slots_of (length t)) t rs) low (λ x p q. rw (none x p q)));
        made = omega arith;
        staged = s.staged;
      }

  pub start_stands : (words bits : List ℕ) → ((f : ℕ → Change) → Stages 0 f words bits)
      → Standing memory bodies t rs (record { at = 0; slot = 0; body = 0; made = 0 }) words bits
  unfolding count
  start_stands words bits blank = record { cell = omega arith; slot = omega arith; slots = refl; body = omega arith; copies = refl; made = omega arith; staged = blank _ }

  -- bodies count by their number alone
  pub same_stands : (bodies' : List ℕ) → length bodies' ≡ length bodies → (w : Stand) (words bits : List ℕ) → Standing memory bodies t rs w words bits
      → Standing memory bodies' t rs w words bits
  same_stands bodies' q w words bits s =
      record {
        cell = s.cell;
        slot = s.slot;
        slots = s.slots;
        body = rw q s.body;
        copies = s.copies;
        made = s.made;
        staged = rw q s.staged;
      }

-- ---- the bytes

module _ (memory t : List ℕ) (rs : List Range) (budget : ℕ) where
  abbrev between : ℕ → (v w : ℕ) → List Store
  between b v w = gather (w - v) (λ j. bytes_at b memory t rs (v + j))

  -- none between a cell and itself, or where nothing is new
  pub copied_none : (v w : Stand) (bodies : List ℕ) → v.at ≤ w.at → w.made ≡ v.made → ((x : ℕ) → v.at ≤ x → x < w.at → named rs x ≡ false)
      → Copied memory t rs budget v w bodies bodies
  copied_none v w bodies low q none =
      let empty : between (bodies_of (length bodies)) v.at w.at ≡ [] =
      gather_none (w.at - v.at) (λ j. bytes_at (bodies_of (length bodies)) memory t rs (v.at + j)) (λ j l. rw (none (v.at + j) (omega arith) (omega arith))) in
      record { on = low; made = rw empty (omega arith); bytes = rw empty (stores_none (budget - v.made) bodies) }

  -- as many bodies as before
  pub copied_length : (v w : Stand) (bodies bodies' : List ℕ) → Copied memory t rs budget v w bodies bodies' → length bodies' ≡ length bodies
  copied_length v w bodies bodies' c = ap length c.bytes ∙ length_stores (take (budget - v.made) (between (bodies_of (length bodies)) v.at w.at)) bodies

  -- one part behind another
  pub copied_join : (v w r : Stand) (b₀ b₁ b₂ : List ℕ) → Copied memory t rs budget v w b₀ b₁ → Copied memory t rs budget w r b₁ b₂ → Copied memory t rs budget v r b₀ b₂
  copied_join v w r b₀ b₁ b₂ x y =
      let same : length b₁ ≡ length b₀ = ap length x.bytes ∙ length_stores (take (budget - v.made) (between (bodies_of (length b₀)) v.at w.at)) b₀ in
      let f : ℕ → List Store = bytes_at (bodies_of (length b₀)) memory t rs in
      let p = x.on in
      let q = y.on in
      let sum : r.at - v.at ≡ (w.at - v.at) + (r.at - w.at) = omega arith in
      let whole : between (bodies_of (length b₀)) v.at r.at ≡ between (bodies_of (length b₀)) v.at w.at ++ between (bodies_of (length b₀)) w.at r.at =
      ap (λ (n : ℕ). gather n (λ j. f (v.at + j))) sum
      ∙ gather_split (λ j. f (v.at + j)) (w.at - v.at) (r.at - w.at)
      ∙ ap (λ (l : List Store). gather (w.at - v.at) (λ j. f (v.at + j)) ++ l)
      (gather_ext (r.at - w.at) (λ j. f (v.at + (w.at - v.at + j))) (λ j. f (w.at + j)) (λ j l. ap f (shift v.at w.at j p))) in
      let made' : r.made ≡ w.made + length (between (bodies_of (length b₀)) w.at r.at) = rw same at y.made in
      let bytes' : b₂ ≡ stores (take (budget - w.made) (between (bodies_of (length b₀)) w.at r.at)) b₁ = rw same at y.bytes in
      record {
        on = omega arith;
        made = rw (whole, length-append (between (bodies_of (length b₀)) v.at w.at) (between (bodies_of (length b₀)) w.at r.at)) (omega (arith, made', x.made));
        bytes =
            let left : budget - w.made ≡ (budget - v.made) - length (between (bodies_of (length b₀)) v.at w.at) = omega (arith, x.made) in
            rw whole
            (bytes' ∙ (λ i. stores (take (left i) (between (bodies_of (length b₀)) w.at r.at)) (x.bytes i))
            ∙ sym (run_take_append store (budget - v.made) (between (bodies_of (length b₀)) v.at w.at) (between (bodies_of (length b₀)) w.at r.at) b₀));
      }
    where
      shift : (a c j : ℕ) → a ≤ c → a + (c - a + j) ≡ c + j
      shift a c j l = omega arith
