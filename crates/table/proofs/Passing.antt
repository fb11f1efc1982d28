-- The pass over the entries: what one more entry, or a run of free ones, does to what is known of those in front. Assumes nothing.
use Prim.Native.Nat.{ℕ, ◌+◌, ◌≤◌, ◌<◌, min}
use mathlib.Core.Bool.{Bool, true, false, ◌&&◌}
use mathlib.Core.List.{List}
use mathlib.Core.Logic.{◌⊎◌, inl, inr}
use mathlib.Core.Path.{◌≡◌, refl, sym, ◌∙◌}
use native.Mathlib.Nat.{not-suc-le-zero}
use native.Mathlib.Omega.{arith}
use borrow.Author.Tests.{eq-eqb, ne_eqb, eqb-true, eqb-false, leb-true, ltb-true}
use lib.ListN.{length}
use lib.Dec.{ltb, leb, eqb}
use Rattle.words.specs.Layout.{max_cells, group_of}
use Rattle.words.specs.Scan.{all}
use Rattle.words.proofs.Scan.{and_split, by_bool, by_le, all_make, all_not, all_ext, all_stop, count_le, count_more, count_stop, true≢}
use Rattle.words.proofs.Nth.{count_below}
use Rattle.table.specs.Entry.{live, word1, word2, depth_of, via_of, pattern_of, unused_of, cell_of, is_pattern}
use Rattle.table.specs.Rule.{head_ok, kind_ok, entry_ok, parent_ok, rule_ok}
use Rattle.marks.specs.Blocks.{block_at, cells_in, taken, Spare, Room}
use Rattle.table.specs.Marks.{Blank, has, cell_in, mark_at, mark_entry, IsCopy, mark_body, body_fits, placed, FreeRun, EndsAt, CellsOnce, PlainBelow, AllBut, Marked, NoVias, parent_told, all_told, rules_below, Passed, PassedAll, RulesPlaced, RulesMarked, AllMarked}
use Rattle.marks.proofs.Digits.{has_none}
use Rattle.marks.proofs.Blocks.{kept_cells, kept_none, taken_none, outside_none, cells_none, cell_one, cell_kept, cell_blocks, cell_outside, room_spare}
use Rattle.table.proofs.Marks.{owns_facts, owns_not, split, marks_none, marks_skip, marked_same, once_same, once_not, once_more, marked_more, parent_told_lem, distinct_none, distinct_more, bodies_more, single_more}
use Rattle.table.proofs.Entry.{pattern_one, pattern_zero}
use Rattle.table.proofs.Rule.{entry_least, entry_used}
use Rattle.table.proofs.Parts.{no_entries, no_cells, no_single, live_small, entries_inner, all_parts}

and_right : (p q r s k : Bool) → (p && (q && (r && (s && k)))) ≡ ((p && (q && (r && s))) && k)
and_right true true true s k = refl
and_right true true false s k = refl
and_right true false r s k = refl
and_right false q r s k = refl

pub placed_facts : (m live w : ℕ) → placed m live w ≡ true → (1 ≤ depth_of w) × (depth_of w ≤ live) × (cell_of w < m)
placed_facts m live w h =
    let s1 = and_split (leb 1 (depth_of w)) _ h in
    let s2 = and_split (leb (depth_of w) live) _ s1.1 in
    (leb-true _ _ s1.0, leb-true _ _ s2.0, ltb-true _ _ (and_split (eqb (unused_of w) 0) (ltb (cell_of w) m) s2.1).1)

-- how many entries follow a rule, over one entry more and over a run of free ones
pub rules_plain : (e : ℕ) (t : List ℕ) (n : ℕ) → is_pattern (word1 e t n) ≡ false → rules_below e t (n + 1) ≡ rules_below e t n
rules_plain e t n p = count_more n _ ∙ rw p

pub rules_more : (e : ℕ) (t : List ℕ) (n : ℕ) → is_pattern (word1 e t n) ≡ true → rules_below e t (n + 1) ≡ rules_below e t n + 1
rules_more e t n p = count_more n _ ∙ rw p

pub rules_bit : (e : ℕ) (t : List ℕ) (n : ℕ) → rules_below e t n + pattern_of (word1 e t n) ≡ rules_below e t (n + 1)
rules_bit e t n =
    by_bool (is_pattern (word1 e t n))
    (λ p. omega (arith, rules_more e t n p, pattern_one (word1 e t n) p))
    (λ p. omega (arith, rules_plain e t n p, pattern_zero (word1 e t n) p))

pub rules_free : (e : ℕ) (t : List ℕ) (n k : ℕ) → n ≤ k → FreeRun e t n k → rules_below e t k ≡ rules_below e t n
rules_free e t n k low free = count_stop k n (λ i. is_pattern (word1 e t i)) low (λ i l h. rw (free i l h).0)

module _ (m e b : ℕ) (t : List ℕ) where
  pub passed_none : (seen used : List ℕ) → Blank seen → Blank used → block_at 1 ≤ length seen → Passed m e b t 0 seen used
  passed_none seen used blank clean room =
      record {
        right = λ i l. absurd (not-suc-le-zero l);
        once = λ i l. absurd (not-suc-le-zero l.0);
        single = distinct_none (IsCopy e t) (word2 e t);
        cells = record { clear = λ d k low h j l. absurd (not-suc-le-zero l.0); found = λ d k h. absurd (true≢ h (rw (cells_none seen blank k) (has_none d))) };
        copies = marks_none (IsCopy e t) (word2 e t) 1 used (λ k h. omega (arith, h, clean k));
        kept = kept_none seen blank room;
        few = omega (arith, taken_none seen blank, count_le 0 (λ i. is_pattern (word1 e t i)));
        outside = outside_none seen blank m;
      }

  -- a free entry is right by itself
  free_right : (i : ℕ) → (word1 e t i ≡ 0) × (word2 e t i ≡ 0) → entry_ok m e b t i ≡ true
  unfolding entry_ok
  free_right i f = rw (f.0, f.1)

  module _ (n : ℕ) (seen used : List ℕ) (p : Passed m e b t n seen used) where
    pub passed_free : (k : ℕ) → n ≤ k → FreeRun e t n k → Passed m e b t k seen used
    passed_free k low free =
        record {
          right = λ i l. by_le n i (λ far. free_right i (free i far l)) (λ near. p.right i near);
          once = λ i l j s less deep.
              by_le n i (λ far. absurd (omega (arith, (free i far l.0).0, deep))) (λ near. p.once i (near, l.1) j (omega (arith, less, near), s.1) less deep);
          single = λ i l j s u. by_le n i (λ far. absurd ((owns_facts _ u).0 (free i far l).0)) (λ near. p.single i near j s u);
          cells = record {
            clear = λ d c deep h j l q.
                by_le n j (λ far. absurd (omega (arith, (free j far l.0).0, q, deep))) (λ near. p.cells.clear d c deep h j (near, l.1) q);
            found = λ d c h. let f = p.cells.found d c h in (f.0, (omega (arith, f.1.0), f.1.1), f.2, f.3);
          };
          copies = record {
            clear = λ c h j l u. by_le n j (λ far. absurd ((owns_facts _ u).0 (free j far l).0)) (λ near. p.copies.clear c h j near u);
            found = λ c h. let f = p.copies.found c h in (f.0, omega (arith, f.1), f.2, f.3);
          };
          kept = p.kept;
          few = omega (arith, p.few, low, rules_free e t n k low free);
          outside = p.outside;
        }

    -- its marks can be read
    pub passed_cells : cells_in seen ≡ max_cells
    passed_cells = kept_cells seen p.kept

    -- one more entry
    module _ (l : n < e) where
      -- that follows a rule: it is not marked yet
      pub passed_rule : entry_ok m e b t n ≡ true → is_pattern (word1 e t n) ≡ true → Passed m e b t (n + 1) seen used
      passed_rule here rule =
          let other = owns_not (word1 e t n) rule in
          let is = pattern_one (word1 e t n) rule in
          let back : (j : ℕ) → PlainBelow e t (n + 1) j → PlainBelow e t n j = λ j k. split n j k.0 (λ q. let y : pattern_of (word1 e t j) ≡ 1 = rw q is in absurd (omega (arith, k.1, y))) (λ near. (near, k.1)) in
          let on : (j : ℕ) → PlainBelow e t n j → PlainBelow e t (n + 1) j = λ j k. (omega (arith, k.0), k.1) in
          record {
            right = λ i s. split n i s (λ q. rw q here) (λ near. p.right i near);
            once = once_same e t (PlainBelow e t n) (PlainBelow e t (n + 1)) on back p.once;
            single = distinct_more (IsCopy e t) (word2 e t) n p.single (λ j k u. absurd (true≢ u other));
            cells = marked_same e t (PlainBelow e t n) (PlainBelow e t (n + 1)) on back seen p.cells;
            copies = marks_skip (IsCopy e t) (word2 e t) 1 n used (λ u. true≢ u other) p.copies;
            kept = p.kept;
            few = omega (arith, p.few, rules_more e t n rule);
            outside = p.outside;
          }

      module _ (plain : is_pattern (word1 e t n) ≡ false) where
        none : pattern_of (word1 e t n) ≡ 0
        none = pattern_zero (word1 e t n) plain

        grow : (j : ℕ) → PlainBelow e t (n + 1) j → (j ≡ n) ⊎ PlainBelow e t n j
        grow j k = split n j k.0 (λ q. inl q) (λ near. inr (near, k.1))

        -- there is room for its block
        pub passed_spare : cell_in e t n < m → Room (n + 1) m seen → Spare seen (group_of (cell_in e t n))
        passed_spare inside room = room_spare seen n m (cell_in e t n) p.kept p.outside (omega (arith, p.few)) inside (omega arith) room

        pub passed_more : entry_ok m e b t n ≡ true → has (depth_of (word1 e t n)) (mark_at seen (word1 e t n)) ≡ false → cell_in e t n < m → Room (n + 1) m seen
            → body_fits (word1 e t n) (word2 e t n) used ≡ true → (IsCopy e t n → word2 e t n < length used)
            → Passed m e b t (n + 1) (mark_entry (word1 e t n) seen) (mark_body (word1 e t n) (word2 e t n) used)
        passed_more here free inside room fits place =
            let spare = passed_spare inside room in
            let new : PlainBelow e t (n + 1) n = (omega arith, none) in
            let on : (j : ℕ) → PlainBelow e t n j → PlainBelow e t (n + 1) j = λ j k. (omega (arith, k.0), k.1) in
            record {
              right = λ i s. split n i s (λ q. rw q here) (λ near. p.right i near);
              once = once_more e t (PlainBelow e t n) (PlainBelow e t (n + 1)) n seen p.cells new grow on free p.once;
              single = (single_more e t n used p.copies true l (λ y. p.single) (λ y. absurd (true≢ refl y))).0 (rw fits);
              cells = marked_more e t (PlainBelow e t n) (PlainBelow e t (n + 1)) n seen p.cells new grow on free (mark_entry (word1 e t n) seen)
                  (cell_one (depth_of (word1 e t n)) (cell_in e t n) (omega arith) seen p.kept spare);
              copies = bodies_more e t n used p.copies place;
              kept = cell_kept (depth_of (word1 e t n)) (cell_in e t n) (omega arith) seen p.kept spare;
              few = omega (arith, cell_blocks (depth_of (word1 e t n)) (cell_in e t n) (omega arith) seen p.kept spare, p.few, rules_plain e t n plain);
              outside = cell_outside (depth_of (word1 e t n)) (cell_in e t n) (omega arith) seen p.kept spare m (omega (arith, inside)) p.outside;
            }

        pub cell_taken : 1 ≤ depth_of (word1 e t n) → has (depth_of (word1 e t n)) (mark_at seen (word1 e t n)) ≡ true → rule_ok m e b t ≡ false
        cell_taken deep h =
            no_cells m e b t (λ ok.
            once_not e t (PlainBelow e t n) (PlainBelow e t (n + 1)) n seen p.cells (λ k. omega (arith, k.0)) (λ j k. omega (arith, k.0, l)) l deep h ok.once)

      pub body_taken : body_fits (word1 e t n) (word2 e t n) used ≡ false → rule_ok m e b t ≡ false
      body_taken h = no_single m e b t ((single_more e t n used p.copies true l (λ y. p.single) (λ y. absurd (true≢ refl y))).1 (rw h))

  -- a free entry whose second word is not 0
  pub free_wrong : (i : ℕ) → word1 e t i ≡ 0 → eqb (word2 e t i) 0 ≡ false → entry_ok m e b t i ≡ false
  unfolding entry_ok
  free_wrong i here h = rw (eq-eqb _ _ here) h

  -- an entry in use, by its two words
  pub entry_parts : (i : ℕ) → (word1 e t i ≡ 0 → ⊥) → entry_ok m e b t i ≡ (placed m (live t) (word1 e t i) && kind_ok b (word1 e t i) (word2 e t i))
  unfolding entry_ok
  entry_parts i z =
      let w = word1 e t i in
      rw (ne_eqb w 0 z) (and_right (leb 1 (depth_of w)) (leb (depth_of w) (live t)) (eqb (unused_of w) 0) (ltb (cell_of w) m) (kind_ok b w (word2 e t i)))

  pub entry_wrong : (n : ℕ) → n < e → entry_ok m e b t n ≡ false → rule_ok m e b t ≡ false
  entry_wrong n l h = no_entries m e b t (all_not e (entry_ok m e b t) n l h)

  -- ---- the end of the pass
  module _ (seen used : List ℕ) (p : Passed m e b t e seen used) (head : head_ok t ≡ true) where
    pub pass_entries : all e (entry_ok m e b t) ≡ true
    pass_entries = all_make e (entry_ok m e b t) p.right

    -- via parent entries asked by the marks of those that follow no rule
    pub pass_told : CellsOnce e t e → all_told e t seen ≡ all e (parent_ok e t)
    pass_told once = all_ext e _ _ (λ i l. parent_told_lem e t seen p.cells once (entries_inner m e b t pass_entries) i l)

    pub pass_wrong : all_told e t seen ≡ false → rule_ok m e b t ≡ false
    pass_wrong h = no_cells m e b t (λ ok. true≢ ok.rests (sym (pass_told ok.once) ∙ h))

    pub pass_right : CellsOnce e t e → all_told e t seen ≡ true → rule_ok m e b t ≡ true
    pass_right once h = all_parts m e b t pass_entries head (record { once = once; rests = sym (pass_told once) ∙ h }) p.single

    -- no entry follows a rule: all are marked
    module _ (none : rules_below e t e ≡ 0) where
      plain_all : (j : ℕ) → j < e → PlainBelow e t e j
      plain_all j l =
          by_bool (is_pattern (word1 e t j))
          (λ q. absurd (omega (arith, none, count_below (λ i. is_pattern (word1 e t i)) j e l q)))
          (λ q. (l, pattern_zero (word1 e t j) q))

      pub alone_once : CellsOnce e t e
      alone_once i l j k = p.once i (plain_all i l) j (plain_all j (omega (arith, k, l))) k

      pub alone_marks : AllMarked e t seen used
      alone_marks = record { cells = marked_same e t (PlainBelow e t e) (λ j. j < e) (λ j k. k.0) plain_all seen p.cells; copies = p.copies; kept = p.kept }

    -- the entries that follow a rule come last
    pub rules_placed : RulesPlaced m e t
    rules_placed i l rule =
        let is = pattern_one (word1 e t i) rule in
        let u = entry_used m e b t i (p.right i l) (λ z. omega (arith, is, z)) in
        (u.low, omega (arith, u.high, live_small m e b t head), u.cell)

    pub rules_start : (top : ℕ) → EndsAt e t top → Room top m seen → taken seen + rules_below e t e ≤ top → RulesMarked e t top 0 seen
    rules_start top ends room few =
        let to : (j : ℕ) → PlainBelow e t e j → AllBut e t 0 j = λ j k. (k.0, λ q. omega (arith, q, k.1)) in
        let from : (j : ℕ) → AllBut e t 0 j → PlainBelow e t e j =
        λ j k. (k.0, by_bool (is_pattern (word1 e t j)) (λ q. absurd (not-suc-le-zero (k.1 (pattern_one _ q)))) (λ q. pattern_zero _ q)) in
        record {
          m = m;
          placed = rules_placed;
          room = room;
          once = once_same e t (PlainBelow e t e) (AllBut e t 0) to from p.once;
          cells = marked_same e t (PlainBelow e t e) (AllBut e t 0) to from seen p.cells;
          kept = p.kept;
          few = omega (arith, few, rules_free e t top e ends.0 ends.1);
          outside = p.outside;
        }

-- ---- the pass over those that follow a rule
module _ (e : ℕ) (t : List ℕ) (top n : ℕ) (seen : List ℕ) (r : RulesMarked e t top n seen) (l : n < top) (high : top ≤ e) where
  -- one that follows none is marked already
  pub rules_skip : is_pattern (word1 e t n) ≡ false → RulesMarked e t top (n + 1) seen
  rules_skip plain =
      let q = pattern_zero (word1 e t n) plain in
      let to : (j : ℕ) → AllBut e t n j → AllBut e t (n + 1) j = λ j k. (k.0, λ y. omega (arith, k.1 y)) in
      let from : (j : ℕ) → AllBut e t (n + 1) j → AllBut e t n j =
      λ j k. (k.0, λ y. split n j (k.1 y) (λ z. let w : pattern_of (word1 e t j) ≡ 0 = rw z q in absurd (omega (arith, w, y))) (λ near. near)) in
      record {
        m = r.m;
        placed = r.placed;
        room = r.room;
        once = once_same e t (AllBut e t n) (AllBut e t (n + 1)) to from r.once;
        cells = marked_same e t (AllBut e t n) (AllBut e t (n + 1)) to from seen r.cells;
        kept = r.kept;
        few = omega (arith, r.few, rules_plain e t n plain);
        outside = r.outside;
      }

  module _ (rule : is_pattern (word1 e t n) ≡ true) where
    is : pattern_of (word1 e t n) ≡ 1
    is = pattern_one (word1 e t n) rule

    not_yet : AllBut e t n n → ⊥
    not_yet k = omega (arith, k.1 is)

    -- it is one of those that are left
    left : rules_below e t n + 1 ≤ rules_below e t top
    left = omega (arith, count_below (λ i. is_pattern (word1 e t i)) n top l rule)

    pub rules_spare : Spare seen (group_of (cell_in e t n))
    rules_spare =
        let place = r.placed n (omega (arith, l, high)) rule in
        room_spare seen (taken seen) r.m (cell_in e t n) r.kept r.outside (omega arith) place.2 (omega arith) (spare_room r.few left r.room)
      where
        spare_room : taken seen + rules_below e t top ≤ top + rules_below e t n → rules_below e t n + 1 ≤ rules_below e t top → Room top r.m seen → Room (taken seen + 1) r.m seen
        spare_room few less room = omega (arith, few, less, room)

    pub rules_taken : has (depth_of (word1 e t n)) (mark_at seen (word1 e t n)) ≡ true → CellsOnce e t e → ⊥
    rules_taken h =
        once_not e t (AllBut e t n) (AllBut e t (n + 1)) n seen r.cells not_yet (λ j k. k.0) (omega (arith, l, high)) (r.placed n (omega (arith, l, high)) rule).0 h

    pub rules_marked : has (depth_of (word1 e t n)) (mark_at seen (word1 e t n)) ≡ false → length (mark_entry (word1 e t n) seen) ≡ length seen
        → RulesMarked e t top (n + 1) (mark_entry (word1 e t n) seen)
    rules_marked free same =
        let new : AllBut e t (n + 1) n = (omega (arith, l, high), λ y. omega arith) in
        let on : (j : ℕ) → AllBut e t n j → AllBut e t (n + 1) j = λ j k. (k.0, λ y. omega (arith, k.1 y)) in
        let grow : (j : ℕ) → AllBut e t (n + 1) j → (j ≡ n) ⊎ AllBut e t n j =
        λ j k. by_bool (eqb j n) (λ z. inl (eqb-true _ _ z)) (λ z. inr (k.0, λ y. let a = k.1 y in let b = eqb-false j n z in omega (arith, a, b))) in
        let place = r.placed n (omega (arith, l, high)) rule in
        record {
          m = r.m;
          placed = r.placed;
          room = rw same r.room;
          once = once_more e t (AllBut e t n) (AllBut e t (n + 1)) n seen r.cells new grow on free r.once;
          cells = marked_more e t (AllBut e t n) (AllBut e t (n + 1)) n seen r.cells new grow on free (mark_entry (word1 e t n) seen)
              (cell_one (depth_of (word1 e t n)) (cell_in e t n) (omega arith) seen r.kept rules_spare);
          kept = cell_kept (depth_of (word1 e t n)) (cell_in e t n) (omega arith) seen r.kept rules_spare;
          few = omega (arith, cell_blocks (depth_of (word1 e t n)) (cell_in e t n) (omega arith) seen r.kept rules_spare, r.few, rules_more e t n rule);
          outside = cell_outside (depth_of (word1 e t n)) (cell_in e t n) (omega arith) seen r.kept rules_spare r.m (omega (arith, place.2)) r.outside;
        }

-- at its end all are marked: a free entry follows no rule
module _ (e : ℕ) (t : List ℕ) (top : ℕ) (seen : List ℕ) (ends : EndsAt e t top) (r : RulesMarked e t top top seen) where
  rules_all : (j : ℕ) → j < e → AllBut e t top j
  rules_all j l = (l, λ y. by_le top j (λ far. absurd (omega (arith, (ends.1 j far l).0, y))) (λ near. near))

  pub rules_once : CellsOnce e t e
  rules_once i l j k = r.once i (rules_all i l) j (rules_all j (omega (arith, k, l))) k

  pub rules_end : Marked e t e seen
  rules_end = marked_same e t (AllBut e t top) (λ j. j < e) (λ j k. k.0) rules_all seen r.cells

-- ---- via parent entries asked and counted: a free entry is none
pub told_stop : (e : ℕ) (t : List ℕ) (top : ℕ) (seen : List ℕ) → EndsAt e t top → all top (λ i. parent_told (word1 e t i) seen) ≡ all_told e t seen
told_stop e t top seen ends = all_stop e top (λ i. parent_told (word1 e t i) seen) ends.0 (λ i low l. rw (ends.1 i low l).0)

pub told_none : (e : ℕ) (t : List ℕ) (vias : ℕ) (seen : List ℕ) → NoVias e t e vias → vias ≡ 0 → all_told e t seen ≡ true
told_none e t vias seen alone none = all_make e (λ i. parent_told (word1 e t i) seen) (λ i l. rw (eq-eqb _ _ (alone none i l)))

pub vias_free : (e : ℕ) (t : List ℕ) (n k vias : ℕ) → n ≤ k → FreeRun e t n k → NoVias e t n vias → NoVias e t k vias
vias_free e t n k vias low free so_far none i l = by_le n i (λ far. omega (arith, (free i far l).0)) (λ near. so_far none i near)

pub vias_more : (e : ℕ) (t : List ℕ) (n vias : ℕ) → NoVias e t n vias → NoVias e t (n + 1) (vias + via_of (word1 e t n))
vias_more e t n vias so_far none i l =
    split n i l (λ q. rw q (omega (arith, none))) (λ near. so_far (omega (arith, none)) i near)

-- the pass ends where all that is left in front of `top` is free
pub passed_all : {m e b : ℕ} {t : List ℕ} {n : ℕ} {seen used : List ℕ} (p : Passed m e b t n seen used) {top vias rules : ℕ} → n ≤ top → FreeRun e t n top
    → EndsAt e t top → NoVias e t n vias → rules ≡ rules_below e t n → PassedAll m e b t top vias rules seen used
passed_all {m} {e} {b} {t} {n} p {top} low near ends alone counted =
    let free : FreeRun e t n e = λ i l h. by_le top i (λ far. ends.1 i far h) (λ k. near i l k) in
    let high : n ≤ e = omega (arith, ends.0) in
    let rules = rules_free e t n e high free in
    record {
      passed = passed_free m e b t n _ _ p e high free;
      alone = vias_free e t n e _ high free alone;
      counted = counted ∙ sym rules;
      few = omega (arith, p.few, rules);
    }

-- the rule asks for no more cells than an entry can name
pub rule_least : (m e b : ℕ) (t : List ℕ) → rule_ok (min m max_cells) e b t ≡ rule_ok m e b t
unfolding rule_ok
rule_least m e b t = rw (all_ext e (entry_ok (min m max_cells) e b t) (entry_ok m e b t) (λ i l. entry_least m e b t i))
