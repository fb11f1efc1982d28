-- Add's questions on a range as the code puts them, test by test; `new` tells which cells are new. Assumes nothing.
use Prim.Native.Nat.{ℕ, zero, suc, ◌+◌, ◌≤◌, ◌<◌}
use mathlib.Core.Bool.{Bool, true, false, cond, not, ◌&&◌, ◌||◌}
use mathlib.Core.List.{List}
use mathlib.Core.Path.{◌≡◌, refl, sym, ap, ◌∙◌}
use Rattle.std.specs.Prelude.{Result, Ok, Err}
use native.Mathlib.Omega.{arith}
use borrow.Author.Tests.{le-leb, lt-leb, leb-true, not-true, not-false}
use lib.Dec.{leb}
use lib.ListN.{length}
use Rattle.words.specs.Layout.{cells_of, slots_of}
use Rattle.words.specs.Scan.{all, count}
use Rattle.words.specs.Cells.{cell_bytes, same_cell}
use Rattle.words.proofs.Scan.{by_bool, by_le, and_split, and_join, true≢, all_at, all_ext, all_not, all_next, count_le, count_more}
use Rattle.patterns.specs.Pattern.{max_rule, pattern}
use Rattle.table.specs.Entry.{live, word1, parent, find_in, holds_in, parent_has}
use Rattle.table.specs.Marks.{mark_of, has}
use Rattle.marks.proofs.Digits.{has_zero}
use Rattle.table.proofs.Entry.{holds_found, pattern_zero}
use Rattle.search.specs.Search.{source_in, value_in, ruled_in}
use Rattle.search.specs.Free.{is_copy, used_slots, copies}
use Rattle.search.proofs.Free.{slots_all}
use Rattle.search.proofs.Value.{ends_in_own, body_fits_lem}
use Rattle.model.specs.Holdings.{range_ok}
use Rattle.store.specs.Checks.{store_check, lent}
use Rattle.store.specs.declared.answers.Refusal.{Refusal}
use Rattle.store.specs.declared.answers.Refusal.TheVariants.{MemoryDiffers}
use Rattle.store.specs.Answer.{question}
use Rattle.store.proofs.Checks.{ask_go, ask_stop, store_lengths}
use Rattle.store.proofs.Raw.{raw_rule}
use Rattle.add.specs.Walking.{parent_check, rule_check, value_check, part_check, room_check, backed, alike, unruled, told_by, cell_told, range_number, follows, CellsTold, Source}

-- ---- Bools

pub or_fails : (a b : Bool) → (a && b) ≡ true → (not a || not b) ≡ false
or_fails a b h = let s = and_split a b h in rw (s.0, s.1)

pub or_holds : (a b : Bool) → (a && b) ≡ false → (not a || not b) ≡ true
or_holds true b h = ap not h
or_holds false b h = refl

pub or_right : (a b : Bool) → (a || b) ≡ true → a ≡ false → b ≡ true
or_right true b h q = absurd (true≢ refl q)
or_right false b h q = h

pub twice : (b : Bool) → not (not b) ≡ b
twice true = refl
twice false = refl

-- one cell more is counted
pub count_add : (j new : ℕ) (f : ℕ → Bool) → new ≡ count j f → new + cond (f j) 1 0 ≡ count (j + 1) f
count_add j new f q = sym (count_more j f ∙ by_bool (f j) (λ h. rw (h, q)) (λ h. rw (h, q) (omega arith)))

-- ---- questions 16 and 17

module _ (e : ℕ) (t : List ℕ) (b new more : ℕ) where
  pub used_small : used_slots e t ≤ e
  used_small = omega (arith, slots_all e t)

  pub copies_small : copies e t ≤ e
  unfolding copies
  copies_small = count_le e (is_copy e t)

  pub room_16 : e < used_slots e t + new → 16 ≡ room_check e t b new more
  unfolding room_check
  room_16 h = sym (ask_stop _ 16 _ (lt-leb (used_slots e t + new) e h))

  module _ (q16 : used_slots e t + new ≤ e) where
    pub room_17 : b < copies e t + more → 17 ≡ room_check e t b new more
    unfolding room_check
    room_17 h = sym (ask_go _ 16 _ (le-leb (used_slots e t + new) e q16) ∙ ask_stop _ 17 _ (lt-leb (copies e t + more) b h))

    pub room_0 : copies e t + more ≤ b → 0 ≡ room_check e t b new more
    unfolding room_check
    room_0 h = sym (ask_go _ 16 _ (le-leb (used_slots e t + new) e q16) ∙ ask_go _ 17 _ (le-leb (copies e t + more) b h))

-- ---- questions 11, 12 and 19

-- which cells the parent holds: no mark has depth 0, so that without a parent there are none
pub parent_told_lem : (e : ℕ) (t held : List ℕ) → CellsTold e t held → 1 ≤ live t → (c : ℕ) → has (parent (live t)) (mark_of held c) ≡ parent_has e t (live t) c
parent_told_lem e t held m inner c =
    by_le 2 (live t)
    (λ h. rw (le-leb 2 (live t) h) (m (parent (live t)) c (omega arith)))
    (λ h.
    let one : parent (live t) ≡ 0 = omega arith in
    rw (lt-leb 2 (live t) h) (ap (λ (d : ℕ). has d (mark_of held c)) one ∙ has_zero (mark_of held c)))

module _ (memory bodies : List ℕ) (e : ℕ) (t : List ℕ) (new : ℕ → Bool) (base n : ℕ) where
  abbrev pub covered : ℕ → Bool
  covered j = not (new (base + j)) || parent_has e t (live t) (base + j)

  abbrev pub agreed : ℕ → Bool
  agreed j = not (new (base + j)) || same_cell (value_in e t bodies (parent (live t)) (base + j)) (cell_bytes memory (base + j))

  abbrev pub plain : ℕ → Bool
  plain j = not (new (base + j)) || not (ruled_in e t (parent (live t)) (base + j))

  pub parent_11 : all n covered ≡ false → 11 ≡ parent_check memory bodies e t new base n
  unfolding parent_check
  parent_11 h = sym (ask_stop _ 11 _ h)

  pub parent_then : all n covered ≡ true → (q : ℕ) → q ≡ range_number memory bodies e t (live t) new base n → q ≡ parent_check memory bodies e t new base n
  unfolding parent_check range_number
  parent_then p q h = h ∙ sym (ask_go _ 11 _ p)

  -- the same over marks
  pub covered_is : (held : List ℕ) → CellsTold e t held → 1 ≤ live t → all n (λ j. backed held (live t) new (base + j)) ≡ all n covered
  covered_is held m inner =
      all_ext n (λ j. backed held (live t) new (base + j)) covered
      (λ j l. rw (twice (has (parent (live t)) (mark_of held (base + j))), parent_told_lem e t held m inner (base + j)))

-- ---- 12 and 19, cell by cell

-- what one cell tells is an answer of two questions
module _ (a b : Bool) where
  told_no : (why : Refusal) → Err why ≡ cond a (Ok (not b)) (Err MemoryDiffers) → (a ≡ false) × (question why ≡ 12)
  told_no why q = by_bool a (λ h. absurd (never {x = not b} (q ∙ rw h))) (λ h. (h, ap question (same (q ∙ rw h))))
    where
      never : {x : Bool} → ◌≡◌ {A = Result Bool Refusal} (Err why) (Ok x) → ⊥
      never z = let y : ◌≡◌ {A = ℕ} 0 1 = cc in omega arith

      same : ◌≡◌ {A = Result Bool Refusal} (Err why) (Err MemoryDiffers) → why ≡ MemoryDiffers
      same z = cc

  told_yes : (x : Bool) → Ok x ≡ cond a (Ok (not b)) (Err MemoryDiffers) → (a ≡ true) × (x ≡ not b)
  told_yes x q = by_bool a (λ h. (h, same (q ∙ rw h))) (λ h. absurd (never (q ∙ rw h)))
    where
      never : ◌≡◌ {A = Result Bool Refusal} (Ok x) (Err MemoryDiffers) → ⊥
      never z = let y : ◌≡◌ {A = ℕ} 0 1 = cc in omega arith

      same : ◌≡◌ {A = Result Bool Refusal} (Ok x) (Ok (not b)) → x ≡ not b
      same z = cc

not_and : (a b : Bool) → (not a || not b) ≡ not (a && b)
not_and true b = refl
not_and false b = refl

module _ (memory bodies : List ℕ) (e : ℕ) (t : List ℕ) (d : ℕ) (new : ℕ → Bool) (base n : ℕ) where
  abbrev like : ℕ → Bool
  like j = alike memory bodies e t d new (base + j)

  abbrev free : ℕ → Bool
  free j = unruled e t d new (base + j)

  -- the cells in front of the j-th are like, and `ruled` tells whether one of their values comes from a rule
  pub record Numbered (j : ℕ) (ruled : Bool) : Type 0 where
    pub same : all j like ≡ true
    pub told : ruled ≡ not (all j free)

  pub numbered_none : Numbered 0 false
  unfolding all
  numbered_none = record { same = refl; told = refl }

  pub numbered_stop : (j : ℕ) (why : Refusal) → Err why ≡ cell_told memory bodies e t d new (base + j) → j < n → question why ≡ range_number memory bodies e t d new base n
  unfolding range_number
  numbered_stop j why q l = let no = told_no (like j) (free j) why q in no.1 ∙ sym (ask_stop _ 12 _ (all_not n like j l no.0))

  pub numbered_more : (j : ℕ) (ruled x next : Bool) → Numbered j ruled → Ok x ≡ cell_told memory bodies e t d new (base + j) → next ≡ (ruled || x) → Numbered (j + 1) next
  numbered_more j ruled x next so_far q e =
      let yes = told_yes (like j) (free j) x q in
      record {
        same = sym (all_next j like) ∙ rw (so_far.same, yes.0);
        told = e ∙ (λ i. so_far.told i || yes.1 i) ∙ not_and (all j free) (free j) ∙ ap not (all_next j free);
      }

  pub numbered_19 : Numbered n true → 19 ≡ range_number memory bodies e t d new base n
  unfolding range_number
  numbered_19 s = sym (ask_go _ 12 _ s.same ∙ ask_stop (all n free) 19 0 (not-true _ (sym s.told)))

  pub numbered_0 : Numbered n false → 0 ≡ range_number memory bodies e t d new base n
  unfolding range_number
  numbered_0 s = sym (ask_go _ 12 _ s.same ∙ ask_go (all n free) 19 0 (not-false _ (sym s.told)))

-- one cell: not new, or by its value
module _ (memory bodies : List ℕ) (e : ℕ) (t : List ℕ) (d : ℕ) (new : ℕ → Bool) (c : ℕ) where
  pub cell_held : new c ≡ false → Ok false ≡ cell_told memory bodies e t d new c
  cell_held h = rw h

  pub cell_new : new c ≡ true → cell_told memory bodies e t d (λ x. true) c ≡ cell_told memory bodies e t d new c
  cell_new h = rw h

  pub cell_is : (same ruled : Bool) → same ≡ same_cell (value_in e t bodies (parent d) c) (cell_bytes memory c) → ruled ≡ ruled_in e t (parent d) c
      → told_by same ruled ≡ cell_told memory bodies e t d (λ x. true) c
  cell_is same ruled p q = λ i. told_by (p i) ((q ∙ sym (twice (ruled_in e t (parent d) c))) i)

-- ---- question 18

module _ (memory : List ℕ) (new : ℕ → Bool) (base n r : ℕ) where
  abbrev pub fitting : ℕ → Bool
  fitting j = not (new (base + j)) || same_cell (pattern r) (cell_bytes memory (base + j))

  pub rule_high : max_rule < r → 18 ≡ rule_check memory new base n r
  unfolding rule_check
  rule_high h = sym (ask_stop _ 18 0 (ap (λ (x : Bool). x && all n fitting) (lt-leb r max_rule h)))

  module _ (low : r ≤ max_rule) where
    pub rule_unlike : all n fitting ≡ false → 18 ≡ rule_check memory new base n r
    unfolding rule_check
    rule_unlike h = sym (ask_stop _ 18 0 ((λ i. le-leb r max_rule low i && h i)))

    pub rule_like : all n fitting ≡ true → 0 ≡ rule_check memory new base n r
    unfolding rule_check
    rule_like h = sym (ask_go _ 18 0 (and_join _ _ (le-leb r max_rule low) h))

  pub follows_is : (v : List ℕ) → v ≡ pattern r → all n (λ j. follows memory v new (base + j)) ≡ all n fitting
  follows_is v q = ap (λ (x : List ℕ). all n (λ j. follows memory x new (base + j))) q

-- ---- the questions on values, by the kind

module _ (memory bodies : List ℕ) (e : ℕ) (t : List ℕ) (new : ℕ → Bool) (base n k r : ℕ) where
  pub value_copy : k ≡ 0 → 0 ≡ value_check memory bodies e t new base n k r
  value_copy z = sym (ap (λ (x : ℕ). value_check memory bodies e t new base n x r) z)

  pub value_parent : k ≡ 1 → parent_check memory bodies e t new base n ≡ value_check memory bodies e t new base n k r
  value_parent z = sym (ap (λ (x : ℕ). value_check memory bodies e t new base n x r) z)

  -- all those on the range
  module _ (l : ℕ) where
    pub part_7 : (leb k 2 && leb l 1) ≡ false → 7 ≡ part_check memory bodies e t new base n k r l
    part_7 h = sym (ask_stop _ 7 _ h)

    module _ (yes7 : (leb k 2 && leb l 1) ≡ true) where
      pub part_8 : range_ok (cells_of (length memory)) base n ≡ false → 8 ≡ part_check memory bodies e t new base n k r l
      part_8 h = sym (ask_go _ 7 _ yes7 ∙ ask_stop _ 8 _ h)

      pub part_then : range_ok (cells_of (length memory)) base n ≡ true → value_check memory bodies e t new base n k r ≡ part_check memory bodies e t new base n k r l
      part_then h = sym (ask_go _ 7 _ yes7 ∙ ask_go _ 8 _ h)

pub value_rule : (memory bodies : List ℕ) (e : ℕ) (t : List ℕ) (new : ℕ → Bool) (base n k r : ℕ) → (k ≡ 0 → ⊥) → (k ≡ 1 → ⊥)
    → rule_check memory new base n r ≡ value_check memory bodies e t new base n k r
value_rule memory bodies e t new base n zero r a b = absurd (a refl)
value_rule memory bodies e t new base n (suc zero) r a b = absurd (b refl)
value_rule memory bodies e t new base n (suc (suc k)) r a b = refl

-- ---- a table that passes questions 1 to 4 is right as it stands

module _ (memory bodies t : List ℕ) (yes : store_check (lent (length memory) (length bodies) t) ≡ 0) where
  -- the copy behind a cell that a domain holds
  pub source_of : (d c : ℕ) → 1 ≤ d → find_in (slots_of (length t)) t d c < slots_of (length t) → Source (slots_of (length t)) t bodies d c
  source_of d c low h =
      let e : ℕ = slots_of (length t) in
      let i = source_in (slots_of (length t)) t d c in
      let k = ends_in_own _ (slots_of (length t)) _ t (raw_rule memory bodies t yes) d c low h in
      record {
        slot = k.slot;
        fits = λ p.
            let f = body_fits_lem _ e _ t (raw_rule memory bodies t yes) i (record { slot = k.slot; used = k.used; copy = k.own; plain = pattern_zero (word1 e t i) p }) in
            omega (arith, (store_lengths _ _ t yes).bodies_exact, f);
      }

  -- where the parent holds every new cell
  pub sources : (new : ℕ → Bool) (base n : ℕ) → 1 ≤ live t → all n (covered memory bodies (slots_of (length t)) t new base n) ≡ true
      → (j : ℕ) → j < n → new (base + j) ≡ true → Source (slots_of (length t)) t bodies (parent (live t)) (base + j)
  sources new base n inner a j l fresh =
      let e : ℕ = slots_of (length t) in
      let has = or_right (not (new (base + j))) (parent_has e t (live t) (base + j)) (all_at n (covered memory bodies e t new base n) a j l) (ap not fresh) in
      let s = and_split (leb 2 (live t)) (holds_in e t (parent (live t)) (base + j)) has in
      let two = leb-true 2 (live t) s.0 in
      source_of (parent (live t)) (base + j) (omega arith) (holds_found e t (parent (live t)) (base + j) s.1)
