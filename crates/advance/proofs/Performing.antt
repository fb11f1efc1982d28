-- A call that no question refuses, from what its code does to its outcome: what each part of the code may rely on, and what all of them leave. Assumes nothing.
use Prim.Native.Nat.{ℕ, ◌+◌, ◌-◌, ◌*◌, ◌%◌, ◌≤◌, ◌<◌}
use mathlib.Core.Bool.{Bool, true, false}
use mathlib.Core.List.{List, [], ◌++◌}
use mathlib.Core.Path.{◌≡◌, sym, ap, ◌∙◌}
use native.Mathlib.Omega.{arith}
use borrow.Author.Tests.{eqb-true, eqb-false}
use lib.Dec.{eqb}
use lib.ListN.{length, take, get_or, get_or-eq_default}
use Rattle.words.specs.Layout.{cell_at, cells_of, bodies_of, slots_of, pairs_at, max_cells, group_at, group_of}
use Rattle.words.specs.Scan.{all, count, nth}
use Rattle.words.specs.Stores.{Store, stores, gather}
use Rattle.words.specs.Cells.{cell_plan}
use Rattle.words.specs.Journal.{journal}
use Rattle.words.proofs.Scan.{by_bool, by_le, all_at, count_stop}
use Rattle.words.proofs.Nth.{nth_holds}
use Rattle.words.proofs.Plans.{nil, stores_none}
use Rattle.words.proofs.Pairs.{journal_none}
use Rattle.table.specs.Entry.{live}
use Rattle.table.specs.Marks.{Blank, CellsOnce, EndsAt, cell_in}
use Rattle.table.specs.Changes.{entry_changes}
use Rattle.table.proofs.Parts.{rule_once}
use Rattle.table.proofs.Rule.{Rule}
use Rattle.search.specs.Free.{slot_free, unmarked, end_of}
use Rattle.search.proofs.Free.{free_early}
use Rattle.changes.specs.Staged.{is_set, Inside, staged, Stages}
use Rattle.changes.proofs.Bits.{bit_none}
use Rattle.changes.proofs.Staging.{stages_ext, stages_words}
use Rattle.model.specs.Answer.{Report, ended}
use Rattle.store.specs.Outcome.{buffers, outcome, leaves}
use Rattle.store.proofs.Checks.{store_lengths}
use Rattle.store.proofs.Raw.{raw_rule}
use Rattle.advance.specs.Advance.{advances, gives, turn_with, change_with, bytes_with, words_with, slot_for, body_for, advance_bytes, advance_words}
use Rattle.advance.specs.Choice.{Choice}
use Rattle.advance.specs.Notes.{by_group, CellBits, Ready, Told, performed, ListedSlots, InOrder, change_to, lacks_at, Givable, GivenListed, Outwards}
use Rattle.advance.proofs.Turning.{turn_depth, gives_deep}
use Rattle.advance.proofs.Choosing.{chosen, slots_enough, slots_chosen}
use Rattle.advance.proofs.Blocks.{by_blank}
use Rattle.advance.proofs.Listing.{plans_length}
use Rattle.advance.proofs.Noting.{turns_front, advances_own, advances_few, bits_count, bits_inside, in_order, listed_inside, room_unmarked, listed_bytes, change_all}
use Rattle.advance.proofs.Given.{give_nothing, given_number, give_all}
use Rattle.advance.proofs.Advanced.{with_bytes, with_words_lem, gives_few, advance_performed}

module _ (memory bodies t used : List ℕ) (ready : Ready (buffers memory bodies t) used) where
  abbrev m : ℕ
  m = cells_of (length memory)

  abbrev b : ℕ
  b = bodies_of (length bodies)

  abbrev e : ℕ
  e = slots_of (length t)

  abbrev f : ℕ → Bool
  f = advances (buffers memory bodies t)

  ok : Rule (cells_of (length memory)) (slots_of (length t)) (bodies_of (length bodies)) t
  ok = raw_rule memory bodies t ready.stands

  pub ready_once : CellsOnce (slots_of (length t)) t (slots_of (length t))
  ready_once = rule_once m e b t ok

  -- as many entries advance as cells, all of them in front of the free ones at the end, and there is a free body for each
  pub ready_front : (top : ℕ) → EndsAt (slots_of (length t)) t top → count (cells_of (length memory)) (advances (buffers memory bodies t)) ≤ top
  ready_front = advances_few memory bodies t ok ready.lives

  pub ready_few : count (cells_of (length memory)) (advances (buffers memory bodies t)) ≤ slots_of (length t)
  ready_few = ready_front e (omega arith, λ i low high. absurd (omega arith))

  pub ready_free : count (cells_of (length memory)) (advances (buffers memory bodies t)) ≤ count (bodies_of (length bodies)) (unmarked used)
  ready_free = room_unmarked m e b t used f ok ready.room ready.marks

  module _ (groups : List ℕ) (bits : CellBits (advances (buffers memory bodies t)) groups) where
    pub ready_count : count max_cells (is_set groups) ≡ count (cells_of (length memory)) (advances (buffers memory bodies t))
    ready_count = bits_count m e b t ok ready.lives f (advances_own (buffers memory bodies t)) groups bits.each (store_lengths _ _ t ready.stands).cells_high

    -- no group behind memory's has a bit
    pub ready_inside : (g : ℕ) → cells_of (length memory) ≤ group_at g → Inside (group_at g) groups
    ready_inside g l c h =
        let inside = bits_inside m e b t ok ready.lives f (advances_own (buffers memory bodies t)) groups bits.each c h in
        omega arith

    pub ready_order : (n : ℕ) (places : List ℕ) → n ≡ count (cells_of (length memory)) (advances (buffers memory bodies t))
        → ListedSlots (slots_of (length t)) t (live t) (is_set groups) (slots_of (length t)) places → InOrder (slots_of (length t)) t (advances (buffers memory bodies t)) n places
    ready_order = in_order m e b t ok ready.lives f (advances_own (buffers memory bodies t)) groups bits.each

  -- how many cells are given outwards, and the slots that they take
  ready_slots : count m (gives (buffers memory bodies t)) ≤ count e (slot_free e t)
  ready_slots = slots_enough m e t (gives (buffers memory bodies t)) ready.slots

  pub ready_room : (given top : ℕ) → given ≡ count (cells_of (length memory)) (gives (buffers memory bodies t)) → EndsAt (slots_of (length t)) t top
      → (k : ℕ) → k < given → nth (slots_of (length t)) (slot_free (slots_of (length t)) t) k < end_of (slots_of (length t)) given top
  ready_room given top number ends k l = free_early e t top ends k given l (let enough = ready_slots in omega arith)

  pub outwards_kept : (given : ℕ) (seen bits bits' : List ℕ) → length bits' ≡ length bits → Outwards (buffers memory bodies t) given seen bits
      → Outwards (buffers memory bodies t) given seen bits'
  outwards_kept given seen bits bits' same out = record {
    kept = out.kept;
    marked = out.marked;
    number = out.number;
    room = λ k l. rw same (out.room k l);
  }

  -- where there are any, there is a parent
  some_parent : (count m (gives (buffers memory bodies t)) ≡ 0 → ⊥) → 2 ≤ live t
  some_parent some =
      let l : 0 < count m (gives (buffers memory bodies t)) = omega (arith, some) in
      gives_deep m e b t ok f (advances_own (buffers memory bodies t)) (nth m (gives (buffers memory bodies t)) 0) (nth_holds m (gives (buffers memory bodies t)) 0 l)

  module _ (n : ℕ) (places : List ℕ) (list : InOrder (slots_of (length t)) t (advances (buffers memory bodies t)) n places)
      (number : n ≡ count (cells_of (length memory)) (advances (buffers memory bodies t))) (given : ℕ) (seen : List ℕ) where
    -- how many cells the list gives outwards
    listed_number : (bits : List ℕ) → Outwards (buffers memory bodies t) given seen bits → (given ≡ 0 → ⊥) → count n (lacks_at e t seen places) ≡ given
    listed_number bits out some =
        given_number m e b t ok (some_parent (λ z. some (out.number ∙ z))) f (advances_own (buffers memory bodies t)) n places seen number list out.marked ∙ sym out.number

    pub ready_givable : (words bits : List ℕ) → Outwards (buffers memory bodies t) given seen bits → 2 * group_at (length bits) ≤ length words
        → Givable (slots_of (length t)) t n given places seen words bits
    ready_givable words bits out long = record {
      kept = out.kept;
      low = ready.lives;
      high = ok.live;
      slot = list.slot;
      depth = λ r l. turn_depth m e b t ok f (advances_own (buffers memory bodies t)) ready.lives (get_or places r 0) (list.goes r l);
      enough = λ some. let same = listed_number bits out some in let few = ready_slots in let is = out.number in omega arith;
      room = λ some k l. out.room k (let same = listed_number bits out some in omega arith);
      long = long;
    }

    -- what was staged before them was the entries that become copies
    pub ready_given : (words bits words' bits' : List ℕ) → Outwards (buffers memory bodies t) given seen bits
        → GivenListed (slots_of (length t)) t n given places seen words bits words' bits'
        → Stages (slots_of (length t)) (change_to (slots_of (length t)) (bodies_of (length bodies)) t used (advances (buffers memory bodies t)) n) words bits
        → Stages (slots_of (length t)) (change_with (cells_of (length memory)) (slots_of (length t)) t (advances (buffers memory bodies t)) (slot_for (buffers memory bodies t)) (body_for (buffers memory bodies t))) words' bits'
    ready_given words bits words' bits' out gave stages =
        let turned = stages_ext stages (change_all memory bodies t ok ready.lives used n places ready.marks number) in
        by_bool (eqb given 0)
        (λ z.
        let q = eqb-true given 0 z in
        let same = gave.none q in
        rw (same.0, same.1) (stages_ext turned (λ i l. sym (give_nothing m e t f (sym out.number ∙ q) (slot_for (buffers memory bodies t)) (turn_with e t f (body_for (buffers memory bodies t))) i))))
        (λ z.
        let some = eqb-false given 0 z in
        stages_ext (gave.some some (turn_with e t f (body_for (buffers memory bodies t))) turned)
        (give_all m e b t ok (some_parent (λ y. some (out.number ∙ y))) f (advances_own (buffers memory bodies t)) n places seen number list out.marked ready_slots (turn_with e t f (body_for (buffers memory bodies t)))))

  module _ (n : ℕ) (places : List ℕ) (list : InOrder (slots_of (length t)) t (advances (buffers memory bodies t)) n places) where
    pub ready_cells : (r : ℕ) → r < n → cell_at (cell_in (slots_of (length t)) t (get_or places r 0)) + 64 ≤ length memory
    ready_cells r l = omega (arith, listed_inside m e b t ok ready.lives f (advances_own (buffers memory bodies t)) n places list r l)

    pub ready_low : (top : ℕ) → EndsAt (slots_of (length t)) t top → (r : ℕ) → r < n → get_or places r 0 < top
    ready_low top ends r l = turns_front e t top ends.0 ends.1 (live t) ready.lives f (get_or places r 0) (list.slot r l) (list.goes r l)

    pub ready_performed : (k steps : ℕ) (b' words changed t' : List ℕ) (hs : List Store) (r : Report) → n ≡ count (cells_of (length memory)) (advances (buffers memory bodies t))
        → b' ≡ stores (take k (gather n (λ r. cell_plan memory (cell_in (slots_of (length t)) t (get_or places r 0)) (nth (bodies_of (length bodies)) (unmarked used) r)))) bodies
        → Stages (slots_of (length t)) (change_with (cells_of (length memory)) (slots_of (length t)) t (advances (buffers memory bodies t)) (slot_for (buffers memory bodies t)) (body_for (buffers memory bodies t))) words changed → hs ≡ []
        → steps ≡ length (journal (pairs_at (slots_of (length t))) (hs ++ entry_changes (slots_of (length t)) (staged words changed)))
        → t' ≡ stores (take (k - 64 * n) (journal (pairs_at (slots_of (length t))) (hs ++ entry_changes (slots_of (length t)) (staged words changed)))) t
        → r ≡ ended (64 * n + steps) 0 k
        → leaves r (buffers memory b' t') ≡ outcome (performed (buffers memory bodies t)) k (buffers memory bodies t)
    unfolding advance_words
    ready_performed k steps b' words changed t' hs r number copied stages none made written told =
        let bs = listed_bytes memory bodies t ok ready.lives used n places ready.marks number list in
        let ws = stages_words none stages in
        advance_performed memory bodies t k (64 * n) steps b' t' r
        (plans_length memory (λ r. cell_in e t (get_or places r 0)) (nth b (unmarked used)) n ∙ ap length bs)
        (copied ∙ ap (λ (ps : List Store). stores (take k ps) bodies) bs)
        (made ∙ ap (λ (ps : List Store). length (journal (pairs_at e) ps)) ws)
        (written ∙ ap (λ (ps : List Store). stores (take (k - 64 * n) (journal (pairs_at e) ps)) t) ws)
        told

  -- where no cell has a bit there is nothing to store
  pub ready_none : (top given : ℕ) (seen bits : List ℕ) → Told (buffers memory bodies t) top given seen bits → all (length bits) (λ k. eqb (get_or bits k 0) 0) ≡ true
      → (k : ℕ) (r : Report) → r ≡ ended 0 0 k → leaves r (buffers memory bodies t) ≡ outcome (performed (buffers memory bodies t)) k (buffers memory bodies t)
  unfolding count advance_bytes advance_words
  ready_none top given seen bits told none k r report =
      advance_performed memory bodies t k 0 0 bodies t r (sym (ap length no_bytes)) (stores_none k bodies ∙ ap (λ (ps : List Store). stores (take k ps) bodies) (sym no_bytes))
      (sym (ap length no_words)) (stores_none (k - 0) t ∙ ap (λ (ps : List Store). stores (take (k - 0) ps) t) (sym no_words)) report
    where
      blank : Blank bits
      blank g =
          by_le (length bits) g
          (λ far. get_or-eq_default bits 0 far)
          (λ near. eqb-true (get_or bits g 0) 0 (all_at (length bits) (λ k. eqb (get_or bits k 0) 0) none g near))

      clear : (c : ℕ) → f c ≡ false
      clear c = sym (told.cells.each c) ∙ bit_none (get_or (by_group seen bits) (group_of c) 0) (c % 64) (by_blank seen bits blank (group_of c))

      zero : count m f ≡ 0
      zero = count_stop m 0 f (omega arith) (λ c l h. clear c)

      nothing_given : count m (gives (buffers memory bodies t)) ≡ 0
      nothing_given = omega (arith, gives_few (buffers memory bodies t), zero)

      choice : Choice (buffers memory bodies t) (slot_for (buffers memory bodies t)) (body_for (buffers memory bodies t))
      choice = record { slots = slots_chosen m e t (gives (buffers memory bodies t)) ready.slots; bodies = chosen m e b t ok f ready.room }

      no_bytes : advance_bytes (buffers memory bodies t) ≡ []
      no_bytes =
          nil (bytes_with (buffers memory bodies t) (body_for (buffers memory bodies t)))
          (with_bytes memory bodies t ready.stands ready.lives (slot_for (buffers memory bodies t)) (body_for (buffers memory bodies t)) choice ∙ ap (λ (n : ℕ). 64 * n) zero)

      no_words : journal (pairs_at e) (advance_words (buffers memory bodies t)) ≡ []
      no_words =
          journal_none (pairs_at e) (words_with (buffers memory bodies t) (slot_for (buffers memory bodies t)) (body_for (buffers memory bodies t)))
          (with_words_lem memory bodies t ready.stands ready.lives (slot_for (buffers memory bodies t)) (body_for (buffers memory bodies t)) choice ∙ (λ i. 2 * (zero i + nothing_given i)))
