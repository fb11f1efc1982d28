-- The questions on a list of ranges as the code puts them, range by range, up to the whole call's number; and what they leave of the list.
-- Assumes nothing.
use Prim.Native.Nat.{ℕ, zero, suc, ◌+◌, ◌≤◌, ◌<◌}
use Rattle.std.proofs.Common.{drop, drop-cons}
use Rattle.std.proofs.lemmas.List.{take_more, take-append-drop, take_all}
use mathlib.Core.Bool.{Bool, true, false, not, ◌&&◌, ◌||◌}
use mathlib.Core.List.{List, [], ◌∷◌, ◌++◌}
use mathlib.Core.Path.{◌≡◌, refl, sym, ap, ◌∙◌}
use native.Mathlib.Numerals.{add-one}
use native.Mathlib.Omega.{arith}
use borrow.Author.Tests.{le-leb, le-ltb, leb-true, ltb-true, ltb-false, eqb-true, eqb-false, ne_eqb}
use lib.Dec.{leb, ltb, eqb}
use lib.ListN.{length, take}
use Rattle.words.specs.Layout.{cells_of, bodies_of, slots_of, max_cells, cell_at}
use Rattle.words.specs.Scan.{all, count}
use Rattle.words.specs.Cells.{cell_bytes, same_cell}
use Rattle.words.proofs.Scan.{and_split, and_join, or_split, is_false, true≢, all_ext, count_ext, count_le}
use Rattle.patterns.specs.Pattern.{max_rule, pattern}
use Rattle.ranges.specs.declared.Range.{Range}
use Rattle.ranges.specs.Ranges.{list_ok, max_ranges}
use Rattle.ranges.specs.Lists.{no_range, range_of, Within, NoneEmpty}
use Rattle.ranges.proofs.Ranges.{covers_make}
use Rattle.table.specs.Entry.{live, parent, parent_has}
use Rattle.search.specs.Domain.{depth_named}
use Rattle.search.specs.Search.{value_in, ruled_in}
use Rattle.model.specs.State.{State}
use Rattle.model.specs.Answer.{ask}
use Rattle.model.specs.Holdings.{Room, range_ok, ask_range, add_ranges, range_checks, list_checks, room_checks, add_checks}
use Rattle.model.proofs.Ranged.{checks_append, range_asked, list_rest, add_asked}
use Rattle.store.specs.Checks.{store_check, lent, ask_innermost_in}
use Rattle.store.specs.Outcome.{buffers}
use Rattle.store.specs.State.{state_in, state_of}
use Rattle.store.specs.Means.{room_of}
use Rattle.store.proofs.Checks.{ask_yes, ask_rest, ask_go, ask_stop, or_else_go, or_else_stop, or_else_both, store_lengths}
use Rattle.store.proofs.Domains.{state_named, domains_count}
use Rattle.store.proofs.InUse.{entries_in_use, copies_in_use_lem}
use Rattle.store.proofs.Raw.{raw_rule, raw_state}
use Rattle.add.specs.Add.{is_new, is_new_copy, add_check}
use Rattle.add.specs.declared.part.Part.{Part}
use Rattle.add.specs.Walking.{lacks, new_to, fresh_to, parent_check, rule_check, value_check, part_check, room_check, copies_of, PartOf, CellsTold, Counted}
use Rattle.add.proofs.Numbers.{newly_is, bodies_is}
use Rattle.add.proofs.Questions.{fresh_new, part_is, list_then, stops_at, goes_on, counted_more, counted_none}

-- ---- the ranges of a list

module _ (rs : List Range) where
  -- those before the i-th, it, and those behind it
  pub ranges_split : (i : ℕ) → i < length rs → rs ≡ take i rs ++ range_of rs i ∷ drop (i + 1) rs
  ranges_split i l = sym (take-append-drop i rs) ∙ ap (λ (qs : List Range). take i rs ++ qs) (rw add-one (drop-cons rs i no_range l))

  -- question 20, by their number
  pub list_refused_lem : (eqb (length rs) 0 || ltb max_ranges (length rs)) ≡ true → list_ok rs ≡ false
  list_refused_lem h =
      is_false (list_ok rs)
      (λ p.
      let s = and_split (leb 1 (length rs)) (leb (length rs) max_ranges) p in
      let low = leb-true 1 (length rs) s.0 in
      let high = leb-true (length rs) max_ranges s.1 in
      let some : length rs ≡ 0 → ⊥ = omega arith in
      true≢ h (rw (ne_eqb (length rs) 0 some, le-ltb max_ranges (length rs) high)))

  pub list_taken : (eqb (length rs) 0 || ltb max_ranges (length rs)) ≡ false → list_ok rs ≡ true
  list_taken h =
      let s = or_split (eqb (length rs) 0) (ltb max_ranges (length rs)) h in
      let low = eqb-false (length rs) 0 s.0 in
      let high = ltb-false max_ranges (length rs) s.1 in
      and_join (leb 1 (length rs)) (leb (length rs) max_ranges) (le-leb 1 (length rs) (omega arith)) (le-leb (length rs) max_ranges high)

-- ---- the questions on a range go by which of its own cells are new

module _ (memory bodies : List ℕ) (e : ℕ) (t : List ℕ) (new other : ℕ → Bool) (base n : ℕ) (same : (j : ℕ) → j < n → new (base + j) ≡ other (base + j)) where
  all_same : (f : ℕ → Bool) → all n (λ j. not (new (base + j)) || f j) ≡ all n (λ j. not (other (base + j)) || f j)
  all_same f = all_ext n _ _ (λ j l. ap (λ (x : Bool). not x || f j) (same j l))

  parent_same_lem : parent_check memory bodies e t new base n ≡ parent_check memory bodies e t other base n
  unfolding parent_check
  parent_same_lem = λ i.
      ask (all_same (λ j. parent_has e t (live t) (base + j)) i) 11
      (ask (all_same (λ j. same_cell (value_in e t bodies (parent (live t)) (base + j)) (cell_bytes memory (base + j))) i) 12
      (ask (all_same (λ j. not (ruled_in e t (parent (live t)) (base + j))) i) 19 0))

  rule_same : (r : ℕ) → rule_check memory new base n r ≡ rule_check memory other base n r
  unfolding rule_check
  rule_same r = λ i. ask (leb r max_rule && all_same (λ j. same_cell (pattern r) (cell_bytes memory (base + j))) i) 18 0

  values_same : (k r : ℕ) → value_check memory bodies e t new base n k r ≡ value_check memory bodies e t other base n k r
  values_same zero r = refl
  values_same (suc zero) r = parent_same_lem
  values_same (suc (suc k)) r = rule_same r

  pub part_same : (k r l : ℕ) → part_check memory bodies e t new base n k r l ≡ part_check memory bodies e t other base n k r l
  part_same k r l = ap (λ (x : ℕ). ask (leb k 2 && leb l 1) 7 (ask_range (cells_of (length memory)) base n x)) (values_same k r)

pub part_fits : (memory bodies : List ℕ) (e : ℕ) (t : List ℕ) (new : ℕ → Bool) (base n k r l : ℕ) → part_check memory bodies e t new base n k r l ≡ 0
    → base + n ≤ cells_of (length memory)
part_fits memory bodies e t new base n k r l q =
    let ok = ask_yes (range_ok (cells_of (length memory)) base n) 8 _ (omega arith) (ask_rest (leb k 2 && leb l 1) 7 _ (omega arith) q) in
    leb-true (base + n) (cells_of (length memory)) (and_split (leb 1 n) (leb (base + n) (cells_of (length memory))) ok).1

-- ---- range by range

-- what is so of a part that lies in memory: its cells are few
pub part_small : (memory bodies t : List ℕ) → store_check (lent (length memory) (length bodies) t) ≡ 0 → (base n : ℕ) → base + n ≤ cells_of (length memory)
    → (base + n ≤ max_cells) × (cell_at (base + n) ≤ length memory)
part_small memory bodies t good base n fits = let f = store_lengths _ _ t good in (omega (arith, f.cells_high), omega (arith, f.memory_exact))

pub counted_few : (memory bodies t : List ℕ) → store_check (lent (length memory) (length bodies) t) ≡ 0 → (rs : List Range) (new more : ℕ)
    → Counted (cells_of (length memory)) (slots_of (length t)) t rs new more → (new ≤ max_cells) × (more ≤ max_cells)
counted_few memory bodies t good rs new more counted =
    let f = store_lengths _ _ t good in (
      omega (arith, f.cells_high, counted.cells, count_le (cells_of (length memory)) (is_new (slots_of (length t)) t rs)),
      omega (arith, f.cells_high, counted.copies, count_le (cells_of (length memory)) (is_new_copy (slots_of (length t)) t rs)),
    )

module _ (memory bodies t held : List ℕ) (rs : List Range) where
  -- the first i ranges are refused by no question, and so many cells of theirs are new
  pub record Passing (i new more : ℕ) : Type 0 where
    pub passed : list_checks (cells_of (length memory)) memory (take i rs) (state_in (slots_of (length t)) t bodies) 0 ≡ 0
    pub counted : Counted (cells_of (length memory)) (slots_of (length t)) t (take i rs) new more

  -- there are no more of them than cells of memory
  pub passing_few : store_check (lent (length memory) (length bodies) t) ≡ 0 → (i new more : ℕ) → Passing i new more → (new ≤ max_cells) × (more ≤ max_cells)
  passing_few good i new more so_far = counted_few memory bodies t good (take i rs) new more so_far.counted

  -- all of them
  pub passing_all : (i new more : ℕ) → Passing i new more → i ≡ length rs
      → (list_checks (cells_of (length memory)) memory rs (state_in (slots_of (length t)) t bodies) 0 ≡ 0) × Counted (cells_of (length memory)) (slots_of (length t)) t rs new more
  passing_all i new more so_far last =
      let whole : take i rs ≡ rs = ap (λ (n : ℕ). take n rs) last ∙ take_all (length rs) rs (omega arith) in
      (rw whole at so_far.passed, rw whole at so_far.counted)

  pub passing_none : Passing 0 0 0
  passing_none = record { passed = refl; counted = counted_none (cells_of (length memory)) (slots_of (length t)) t }

  module _ (good : store_check (lent (length memory) (length bodies) t) ≡ 0) (inner : 1 ≤ live t) (marks : CellsTold (slots_of (length t)) t held)
      (i : ℕ) (inside : i < length rs) (p : Part) (o : PartOf rs i p) where
    abbrev m : ℕ
    m = cells_of (length memory)

    abbrev e : ℕ
    e = slots_of (length t)

    abbrev s : State
    s = state_in (slots_of (length t)) t bodies

    abbrev r : Range
    r = range_of rs i

    -- which of its cells are new to it: as the code asks, of the ranges that need be asked, and of all before it
    abbrev asked_of : ℕ → Bool
    asked_of = fresh_to held (live t) p.seen.now

    abbrev before_of : ℕ → Bool
    before_of = new_to (slots_of (length t)) t (take i rs)

    agree : (j : ℕ) → j < r.count → asked_of (r.first + j) ≡ before_of (r.first + j)
    agree j l =
        let here = covers_make r (r.first + j) (omega arith) (omega arith) in
        ap (λ (x : Bool). lacks held (live t) (r.first + j) && not x) (o.same (r.first + j) here)
        ∙ ap (λ (f : ℕ → Bool). f (r.first + j)) (fresh_new e t held marks inner (take i rs))

    one_more : take (i + 1) rs ≡ take i rs ++ range_of rs i ∷ []
    one_more = take_more rs i no_range inside

    module _ (x : ℕ)
        (asked : x ≡ part_check memory bodies (slots_of (length t)) t (fresh_to held (live t) p.seen.now) p.range.first p.range.count p.range.kind p.range.rule p.range.label) where
      abbrev checked : Range → ℕ
      checked q = part_check memory bodies e t asked_of q.first q.count q.kind q.rule q.label

      at_range : x ≡ checked r
      at_range = asked ∙ ap checked o.range

      pub part_number : x ≡ range_checks (cells_of (length memory)) memory (range_of rs i) (add_ranges memory (take i rs) (state_in (slots_of (length t)) t bodies)) 0
      part_number =
          at_range
          ∙ part_same memory bodies e t asked_of before_of r.first r.count agree r.kind r.rule r.label
          ∙ part_is memory m e (bodies_of (length bodies)) t bodies (raw_rule memory bodies t good) inner (take i rs) r refl

      -- a no is the list's
      pub passing_stop : (new more : ℕ) → Passing i new more → (x ≡ 0 → ⊥) → x ≡ list_checks (cells_of (length memory)) memory rs (state_in (slots_of (length t)) t bodies) 0
      passing_stop new more so_far ne =
          stops_at m memory (take i rs) (drop (i + 1) rs) r s so_far.passed x part_number ne
          ∙ ap (λ (qs : List Range). list_checks m memory qs s 0) (sym (ranges_split rs i inside))

      -- else its new cells are counted
      pub passing_more : (new more y : ℕ) → Passing i new more → x ≡ 0 → y ≡ count p.range.count (λ j. fresh_to held (live t) p.seen.now (p.range.first + j))
          → (z : ℕ) → z ≡ copies_of p.range.kind y → Passing (i + 1) (new + y) (more + z)
      passing_more new more y so_far none many z copies =
          let fits : r.first + r.count ≤ m = part_fits memory bodies e t asked_of r.first r.count r.kind r.rule r.label (sym at_range ∙ none) in
          let told : y ≡ count r.count (λ j. before_of (r.first + j)) =
          many ∙ ap (λ (q : Range). count q.count (λ j. asked_of (q.first + j))) o.range ∙ count_ext r.count _ _ agree in
          let kind : z ≡ copies_of r.kind y = copies ∙ ap (λ (q : Range). copies_of q.kind y) o.range in
          rw kind
          (record {
            passed = rw one_more (goes_on m memory (take i rs) r s so_far.passed (sym part_number ∙ none));
            counted = rw one_more (counted_more m e t (take i rs) r fits new more y so_far.counted told);
          })

-- ---- those on ranges, and then the rest

module _ (m : ℕ) (memory : List ℕ) (rs : List Range) (s : State) (rest : ℕ) where
  pub list_stop : (x : ℕ) → x ≡ list_checks m memory rs s 0 → (x ≡ 0 → ⊥) → x ≡ list_checks m memory rs s rest
  list_stop x q ne = q ∙ sym (list_then m memory rs s rest ∙ or_else_stop _ _ (λ z. ne (q ∙ z)))

  pub list_go : list_checks m memory rs s 0 ≡ 0 → rest ≡ list_checks m memory rs s rest
  list_go q = sym (list_then m memory rs s rest ∙ or_else_go _ _ q)

-- ---- the whole call's

five_six : (a b : Bool) (rest : ℕ) → (ask a 5 (ask b 6 0) ≡ 0 → ⊥) → ask a 5 (ask b 6 0) ≡ ask a 5 (ask b 6 rest)
five_six true true rest ne = absurd (ne refl)
five_six true false rest ne = refl
five_six false b rest ne = refl

five_six_go : (a b : Bool) (rest : ℕ) → ask a 5 (ask b 6 0) ≡ 0 → rest ≡ ask a 5 (ask b 6 rest)
five_six_go true true rest z = refl
five_six_go true false rest z = absurd (omega arith)
five_six_go false b rest z = absurd (omega arith)

-- a domain is live where 5 and 6 are passed
pub inner_live : (t : List ℕ) (h : ℕ) → ask_innermost_in t h 0 ≡ 0 → 1 ≤ live t
inner_live t h z =
    let some = ltb-true 0 (depth_named t h) (ask_yes (ltb 0 (depth_named t h)) 5 _ (omega arith) z) in
    let last = eqb-true (depth_named t h) (live t) (ask_yes (eqb (depth_named t h) (live t)) 6 0 (omega arith) (ask_rest (ltb 0 (depth_named t h)) 5 _ (omega arith) z)) in
    omega arith

module _ (memory bodies t : List ℕ) (h : ℕ) (rs : List Range) where
  abbrev slots : ℕ
  slots = slots_of (length t)

  abbrev places : ℕ
  places = bodies_of (length bodies)

  abbrev cells : ℕ
  cells = cells_of (length memory)

  abbrev before : State
  before = state_in (slots_of (length t)) t bodies

  abbrev room : Room
  room = room_of (buffers memory bodies t)

  pub check_store : (x : ℕ) → x ≡ store_check (lent (length memory) (length bodies) t) → (x ≡ 0 → ⊥) → x ≡ add_check (buffers memory bodies t) h rs
  unfolding add_check
  check_store x q ne = q ∙ sym (or_else_stop _ _ (λ z. ne (q ∙ z)))

  module _ (good : store_check (lent (length memory) (length bodies) t) ≡ 0) where
    abbrev on_list : ℕ
    on_list = ask (list_ok rs) 20 (list_checks cells memory rs before (room_checks room before (add_ranges memory rs before)))

    on_words : add_check (buffers memory bodies t) h rs ≡ ask_innermost_in t h on_list
    unfolding add_check
    on_words =
        or_else_go _ _ good
        ∙ ap (λ (x : State). add_checks room memory h rs x) (raw_state memory bodies t good)
        ∙ (λ i. ask (ltb 0 (state_named slots t bodies h i)) 5 (ask (eqb (state_named slots t bodies h i) (domains_count slots t bodies i)) 6 on_list))

    pub check_inner : (x : ℕ) → x ≡ ask_innermost_in t h 0 → (x ≡ 0 → ⊥) → x ≡ add_check (buffers memory bodies t) h rs
    check_inner x q ne = q ∙ five_six (ltb 0 (depth_named t h)) (eqb (depth_named t h) (live t)) on_list (λ z. ne (q ∙ z)) ∙ sym on_words

    module _ (in-it : ask_innermost_in t h 0 ≡ 0) where
      reached : on_list ≡ add_check (buffers memory bodies t) h rs
      reached = five_six_go (ltb 0 (depth_named t h)) (eqb (depth_named t h) (live t)) on_list in-it ∙ sym on_words

      pub check_20 : list_ok rs ≡ false → 20 ≡ add_check (buffers memory bodies t) h rs
      check_20 q = sym (ask_stop (list_ok rs) 20 _ q) ∙ reached

      room_is : room_checks room before (add_ranges memory rs before) ≡ room_check slots t places (count cells (is_new slots t rs)) (count cells (is_new_copy slots t rs))
      unfolding room_check
      room_is =
          let ok = raw_rule memory bodies t good in
          let inner = inner_live t h in-it in
          λ i.
          ask (leb (entries_in_use cells slots places t ok bodies i + newly_is slots t bodies inner cells memory rs i) slots) 16
          (ask (leb (copies_in_use_lem cells slots places t ok bodies i + bodies_is slots t bodies inner cells memory rs i) places) 17 0)

      pub check_list : list_ok rs ≡ true
          → (x : ℕ) → x ≡ list_checks (cells_of (length memory)) memory rs (state_in (slots_of (length t)) t bodies)
          (room_check (slots_of (length t)) t (bodies_of (length bodies)) (count (cells_of (length memory)) (is_new (slots_of (length t)) t rs))
          (count (cells_of (length memory)) (is_new_copy (slots_of (length t)) t rs)))
          → x ≡ add_check (buffers memory bodies t) h rs
      check_list ok x q = q ∙ ap (λ (r : ℕ). list_checks cells memory rs before r) (sym room_is) ∙ sym (ask_go (list_ok rs) 20 _ ok) ∙ reached

-- ---- what the questions leave of the list

module _ (memory bodies t : List ℕ) (h : ℕ) (rs : List Range) where
  pub list_facts : add_check (buffers memory bodies t) h rs ≡ 0 → (1 ≤ length rs) × (length rs ≤ max_ranges) × Within (cells_of (length memory)) rs × NoneEmpty rs
  unfolding add_check
  list_facts z =
      let room : Room = room_of (buffers memory bodies t) in
      let state : State = state_of (buffers memory bodies t) in
      let m : ℕ = cells_of (length memory) in
      let both = or_else_both (store_check (lent (length memory) (length bodies) t)) (add_checks room memory h rs state) z in
      let asked = add_asked room memory h rs state both.1 in
      let few = and_split (leb 1 (length rs)) (leb (length rs) max_ranges) asked.few in
      let lies : (i : ℕ) → i < length rs → (1 ≤ (range_of rs i).count) × ((range_of rs i).first + (range_of rs i).count ≤ m) = λ i l.
      let r : Range = range_of rs i in
      let rest = room_checks room state (add_ranges memory rs state) in
      let here = list_rest m memory (take i rs) state _
      (sym (checks_append m memory (take i rs) (r ∷ drop (i + 1) rs) state rest) ∙ ap (λ (qs : List Range). list_checks m memory qs state rest) (sym (ranges_split rs i l)) ∙ asked.ranges) in
      let ok = and_split (leb 1 r.count) (leb (r.first + r.count) m) (range_asked m memory r (add_ranges memory (take i rs) state) _ here).lies in
      (leb-true 1 r.count ok.0, leb-true (r.first + r.count) m ok.1) in
      (leb-true 1 (length rs) few.0, leb-true (length rs) max_ranges few.1, λ i l. (lies i l).1, λ i l. (lies i l).0)
