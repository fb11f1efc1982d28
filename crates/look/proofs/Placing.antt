-- Where the bytes of a cell stand: the words say it as the model does. And what the code of look cites. Assumes nothing.
use Prim.Native.Nat.{ℕ, zero, suc, ◌+◌, ◌≤◌, ◌<◌}
use mathlib.Core.Bool.{true, false}
use mathlib.Core.List.{List}
use mathlib.Core.Option.{Option, none, some}
use mathlib.Core.Path.{◌≡◌, refl, sym, ap, subst, ◌∙◌}
use native.Mathlib.Omega.{arith}
use borrow.Author.Tests.{leb-true, ltb-true}
use lib.Dec.{ltb}
use lib.ListN.{length}
use Rattle.words.specs.Layout.{cell_at, cells_of, bodies_of, slots_of, pairs_at, max_slots, max_live}
use Rattle.words.specs.Cells.{cell_bytes}
use Rattle.words.proofs.Scan.{by_bool}
use Rattle.patterns.specs.Pattern.{max_rule}
use Rattle.table.specs.Entry.{live, word1, word2, is_pattern}
use Rattle.table.proofs.Entry.{pattern_one}
use Rattle.table.specs.Marks.{CellsOnce, EndsAt, Reached}
use Rattle.search.specs.Search.{held_from, source_from, value_in, HasSource}
use Rattle.search.specs.Holders.{value_from}
use Rattle.search.specs.Domain.{depth_named}
use Rattle.search.proofs.Behind.{from_own, from_slot, from_fits}
use Rattle.model.specs.Answer.{done, ask, or_else}
use Rattle.model.specs.Holdings.{range_ok, held_rule}
use Rattle.model.specs.Restore.{Looked, looked_by, looked, outermost, restored_cell}
use Rattle.store.specs.Outcome.{Buffers, buffers}
use Rattle.store.specs.Checks.{store_check, lent, lent_of}
use Rattle.store.specs.State.{state_of}
use Rattle.store.proofs.Checks.{ask_yes, ask_rest, or_else_both, store_lengths}
use Rattle.store.proofs.Means.{by_check}
use Rattle.store.proofs.Raw.{raw_named, check_rule, live_within}
use Rattle.store.proofs.Checked.{checked_once, checked_ends}
use Rattle.store.proofs.Outermost.{store_bytes, store_rule, store_none}
use Rattle.std.specs.Prelude.{Result, IsErrAnd}
use Rattle.std.proofs.lemmas.Result.{err_from_is_err_and}
use Rattle.table.specs.declared.lent.Sound.{Sound}
use Rattle.store.specs.declared.answers.Refusal.{Refusal}
use Rattle.store.specs.Answer.{question}
use Rattle.store.specs.Lent.{SoundOf}
use Rattle.store.proofs.Refused.{question_no}
use Rattle.look.specs.declared.Place.{Place}
use Rattle.look.specs.Look.{placed, Placed, Refused, Memory, Bodies, Rule, look_check, place_shown, place_in, placed_by, look_place, place_report, place_part, place_rule, PlaceWithin, shown_at, or_look_refused, look_means}

-- ---- the place in the words of a table

module _ (e : ℕ) (t : List ℕ) (d c : ℕ) where
  -- by the cases of the search
  pub data PlaceFound : Type 0 where
    in_memory : held_from e t d c ≡ false → place_in e t d c ≡ Memory (cell_at c) → PlaceFound
    in_bodies_lem : held_from e t d c ≡ true → is_pattern (word1 e t (source_from e t d c)) ≡ false → place_in e t d c ≡ Bodies (cell_at (word2 e t (source_from e t d c))) → PlaceFound
    in_rule : held_from e t d c ≡ true → is_pattern (word1 e t (source_from e t d c)) ≡ true → place_in e t d c ≡ Rule (word2 e t (source_from e t d c)) → PlaceFound

  pub place_found : PlaceFound
  unfolding place_in value_from
  place_found =
      by_bool (held_from e t d c)
      (λ p. by_bool (is_pattern (word1 e t (source_from e t d c))) (λ r. in_rule p r (rw (p, r))) (λ r. in_bodies_lem p r (rw (p, r))))
      (λ p. in_memory p (rw p))

-- ---- the questions

range_below : (m c : ℕ) → range_ok m c 1 ≡ true → c < m
range_below m c h = omega (arith, leb-true (c + 1) m h)

-- questions 5 and 8, of words
abbrev asked : (memory : ℕ) → List ℕ → (h c : ℕ) → ℕ
asked memory t h c = ask (ltb 0 (depth_named t h)) 5 (ask (range_ok (cells_of memory) c 1) 8 0)

-- what passed questions tell
pub record Accepted (memory bodies : ℕ) (t : List ℕ) (h c : ℕ) : Type 0 where
  pub store : store_check (lent memory bodies t) ≡ 0
  pub live : 1 ≤ depth_named t h
  pub cell : c < cells_of memory

module _ (memory bodies : ℕ) (t : List ℕ) (h c : ℕ) where
  pub check_passed : look_check (lent memory bodies t) h c ≡ 0 → Accepted memory bodies t h c
  unfolding look_check
  check_passed q =
      let both = or_else_both (store_check (lent memory bodies t)) (asked memory t h c) q in
      let five = ask_yes (ltb 0 (depth_named t h)) 5 (ask (range_ok (cells_of memory) c 1) 8 0) (omega arith) both.1 in
      let rest = ask_rest (ltb 0 (depth_named t h)) 5 (ask (range_ok (cells_of memory) c 1) 8 0) (omega arith) both.1 in
      record {
        store = both.0;
        live = ltb-true 0 (depth_named t h) five;
        cell = range_below (cells_of memory) c (ask_yes (range_ok (cells_of memory) c 1) 8 0 (omega arith) rest);
      }

-- ---- the place that look finds

-- in a table that passes the questions, the chain of the first holder ends in an entry, a copy's body fits, and a rule is one that there is
module _ (memory bodies : ℕ) (t : List ℕ) (h c : ℕ) (p : Accepted memory bodies t h c) where
  found_slot : HasSource (slots_of (length t)) t (depth_named t h) c
  found_slot = from_slot (cells_of memory) (slots_of (length t)) (bodies_of bodies) t (check_rule memory bodies t p.store) (depth_named t h) c p.live

  module _ (held : held_from (slots_of (length t)) t (depth_named t h) c ≡ true) where
    found_body : is_pattern (word1 (slots_of (length t)) t (source_from (slots_of (length t)) t (depth_named t h) c)) ≡ false
        → word2 (slots_of (length t)) t (source_from (slots_of (length t)) t (depth_named t h) c) < bodies_of bodies
    found_body = from_fits (cells_of memory) (slots_of (length t)) (bodies_of bodies) t (check_rule memory bodies t p.store) (depth_named t h) c p.live held

    found_rule : is_pattern (word1 (slots_of (length t)) t (source_from (slots_of (length t)) t (depth_named t h) c)) ≡ true
        → word2 (slots_of (length t)) t (source_from (slots_of (length t)) t (depth_named t h) c) ≤ max_rule
    found_rule r =
        let ok = check_rule memory bodies t p.store in
        let o = from_own (cells_of memory) (slots_of (length t)) (bodies_of bodies) t ok (depth_named t h) c p.live held in
        (ok.used (source_from (slots_of (length t)) t (depth_named t h) c) o.slot o.used).rule (pattern_one _ r)

-- what a `?` hands on is placed as the refusal that it was given
placed_on : (r : Result Place Refusal) (why : Refusal) → IsErrAnd r (λ w. w ≡ why) → placed r ≡ Refused (question why)
placed_on r why back = let p = err_from_is_err_and r back in rw (p.1, p.2)

module _ (h c : ℕ) (b : Buffers) where
  pub look_refused_lem : (r : Result Place Refusal) (why : Refusal) → IsErrAnd r (λ w. w ≡ why) → question why ≡ look_check (lent_of b) h c → placed r ≡ look_place h c b
  unfolding look_place
  look_refused_lem r why back e = placed_on r why back ∙ go (question why) e (question_no why)
    where
      go : (q : ℕ) → q ≡ look_check (lent_of b) h c → (q ≡ 0 → ⊥) → Refused q ≡ placed_by (look_check (lent_of b) h c) (place_in (slots_of (length b.table)) b.table (depth_named b.table h) c)
      go zero z n = absurd (n refl)
      go (suc q) z n = rw (sym z)

  pub look_placed : look_check (lent_of b) h c ≡ 0
      → look_place h c b ≡ place_in (slots_of (length b.table)) b.table (depth_named b.table h) c
  unfolding look_place
  look_placed pass = rw pass

  -- in the table that the questions hand out
  pub look_found : (top d : ℕ) (s : Sound) (p : Placed) → 0 ≡ look_check (lent_of b) h c → SoundOf b.table top s → d ≡ depth_named b.table h
      → p ≡ place_in s.entries.slots s.entries.words.now d c → p ≡ look_place h c b
  look_found top d s p pass of r q = q ∙ (λ i. place_in (of.slots i) (of.words i) (r i) c) ∙ sym (look_placed (sym pass))

  pub look_room : (top d : ℕ) (s : Sound) → 0 ≡ look_check (lent_of b) h c → SoundOf b.table top s → d ≡ depth_named b.table h
      → (1 ≤ d) × HasSource s.entries.slots s.entries.words.now d c
  look_room top d s pass of r =
      let p = check_passed (length b.memory) (length b.bodies) b.table h c (sym pass) in
      rw (of.slots, of.words, r) (p.live, found_slot (length b.memory) (length b.bodies) b.table h c p)

-- ---- what look means

shown_memory : (b : Buffers) (c : ℕ) (rule : Option ℕ) (part : List ℕ) → rule ≡ none → cell_bytes b.memory c ≡ part → shown_at (Memory (cell_at c)) b ≡ looked_by 0 rule part
shown_memory b c rule part n h = rw n (λ i. record { report = done 0 0; part = h i; rule = none })

shown_bodies : (b : Buffers) (k : ℕ) (rule : Option ℕ) (part : List ℕ) → rule ≡ none → cell_bytes b.bodies k ≡ part → shown_at (Bodies (cell_at k)) b ≡ looked_by 0 rule part
shown_bodies b k rule part n h = rw n (λ i. record { report = done 0 0; part = h i; rule = none })

shown_rule : (b : Buffers) (k : ℕ) (rule : Option ℕ) (part : List ℕ) → rule ≡ some k → shown_at (Rule k) b ≡ looked_by 0 rule part
shown_rule b k rule part n = rw n

module _ (memory bodies t : List ℕ) (h c : ℕ) (yes : store_check (lent (length memory) (length bodies) t) ≡ 0) (live : 1 ≤ depth_named t h) where
  abbrev b : Buffers
  b = buffers memory bodies t

  abbrev part : List ℕ
  part = restored_cell (depth_named t h) (state_of (buffers memory bodies t)) memory c

  -- of the state: the rule that the first holder follows
  abbrev told : Option ℕ
  told = held_rule (outermost (depth_named t h) c (state_of (buffers memory bodies t)))

  shown_by : PlaceFound (slots_of (length t)) t (depth_named t h) c → shown_at (place_in (slots_of (length t)) t (depth_named t h) c) (buffers memory bodies t) ≡ looked_by 0 told part
  unfolding value_in
  shown_by (in_memory p q) =
      ap (λ (x : Placed). shown_at x b) q
      ∙ shown_memory b c told part (ap held_rule (store_none memory bodies t yes (depth_named t h) c live p)) (sym (rw p at (store_bytes memory bodies t yes (depth_named t h) c live (cell_bytes memory c))))
  shown_by (in_bodies_lem p r q) =
      let bytes = store_bytes memory bodies t yes (depth_named t h) c live (cell_bytes memory c) in
      ap (λ (x : Placed). shown_at x b) q
      ∙ shown_bodies b (word2 (slots_of (length t)) t (source_from (slots_of (length t)) t (depth_named t h) c)) told part
      (store_rule memory bodies t yes (depth_named t h) c live p ∙ rw r) (sym (rw (p, r) at bytes))
  shown_by (in_rule p r q) =
      ap (λ (x : Placed). shown_at x b) q
      ∙ shown_rule b (word2 (slots_of (length t)) t (source_from (slots_of (length t)) t (depth_named t h) c)) told part (store_rule memory bodies t yes (depth_named t h) c live p ∙ rw r)

  pub place_shown_lem : shown_at (place_in (slots_of (length t)) t (depth_named t h) c) (buffers memory bodies t)
      ≡ looked_by 0 (held_rule (outermost (depth_named t h) c (state_of (buffers memory bodies t)))) (restored_cell (depth_named t h) (state_of (buffers memory bodies t)) memory c)
  place_shown_lem = shown_by (place_found (slots_of (length t)) t (depth_named t h) c)

asked_live : (memory : ℕ) (t : List ℕ) (h c : ℕ) → asked memory t h c ≡ 0 → 1 ≤ depth_named t h
asked_live memory t h c q =
    ltb-true 0 (depth_named t h) (ask_yes (ltb 0 (depth_named t h)) 5 (ask (range_ok (cells_of memory) c 1) 8 0) (omega arith) q)

-- the place that look finds shows what look means
pub look_means_lem : (h c : ℕ) (b : Buffers) → shown_at (look_place h c b) b ≡ look_means h c b
unfolding look_place look_means look_check
look_means_lem h c b =
    let m : ℕ = cells_of (length b.memory) in
    let place : Placed = place_in (slots_of (length b.table)) b.table (depth_named b.table h) c in
    by_check (λ q. shown_at (placed_by (or_else q (asked (length b.memory) b.table h c)) (place_in (slots_of (length b.table)) b.table (depth_named b.table h) c)) b
    ≡ or_look_refused q (looked (cells_of (length b.memory)) h c (state_of b) b.memory))
    (store_check (lent_of b))
    (λ n e. refl)
    (λ yes.
    subst (λ (d : ℕ). shown_at (placed_by (asked (length b.memory) b.table h c) (place_in (slots_of (length b.table)) b.table (depth_named b.table h) c)) b
    ≡ looked_by (ask (ltb 0 d) 5 (ask (range_ok (cells_of (length b.memory)) c 1) 8 0)) (held_rule (outermost d c (state_of b))) (restored_cell d (state_of b) b.memory c))
    (sym (raw_named b.memory b.bodies b.table yes h))
    (by_check (λ q. shown_at (placed_by q (place_in (slots_of (length b.table)) b.table (depth_named b.table h) c)) b
    ≡ looked_by q (held_rule (outermost (depth_named b.table h) c (state_of b))) (restored_cell (depth_named b.table h) (state_of b) b.memory c))
    (asked (length b.memory) b.table h c)
    (λ n e. refl)
    (λ e. place_shown_lem b.memory b.bodies b.table h c yes (asked_live (length b.memory) b.table h c e))))

-- ---- the part that look shows

-- the 64 bytes at a place lie in their buffer
module _ (h c : ℕ) (b : Buffers) where
  within_by : Accepted (length b.memory) (length b.bodies) b.table h c → PlaceFound (slots_of (length b.table)) b.table (depth_named b.table h) c
      → PlaceWithin (place_in (slots_of (length b.table)) b.table (depth_named b.table h) c) b
  within_by p (in_memory free q) =
      let f = store_lengths (length b.memory) (length b.bodies) b.table p.store in
      subst (λ (x : Placed). PlaceWithin x b) (sym q) (omega (arith, f.memory_exact, p.cell))
  within_by p (in_bodies_lem held r q) =
      let f = store_lengths (length b.memory) (length b.bodies) b.table p.store in
      subst (λ (x : Placed). PlaceWithin x b) (sym q) (omega (arith, f.bodies_exact, found_body (length b.memory) (length b.bodies) b.table h c p held r))
  within_by p (in_rule held r q) =
      subst (λ (x : Placed). PlaceWithin x b) (sym q) (found_rule (length b.memory) (length b.bodies) b.table h c p held r)

  place_within : Accepted (length b.memory) (length b.bodies) b.table h c → PlaceWithin (place_in (slots_of (length b.table)) b.table (depth_named b.table h) c) b
  place_within p = within_by p (place_found (slots_of (length b.table)) b.table (depth_named b.table h) c)

  pub look_within : PlaceWithin (look_place h c b) b
  unfolding look_place
  look_within = go (look_check (lent_of b) h c) refl
    where
      go : (q : ℕ) → look_check (lent_of b) h c ≡ q
          → PlaceWithin (placed_by q (place_in (slots_of (length b.table)) b.table (depth_named b.table h) c)) b
      go zero e = place_within (check_passed (length b.memory) (length b.bodies) b.table h c e)
      go (suc n) e = tt

  -- so a place that is look's meets its other clauses
  module _ (p : Placed) (e : p ≡ look_place h c b) where
    pub placed_means : shown_at p b ≡ look_means h c b
    placed_means = ap (λ (x : Placed). shown_at x b) e ∙ look_means_lem h c b

    pub placed_within : PlaceWithin p b
    placed_within = subst (λ (x : Placed). PlaceWithin x b) (sym e) look_within

  pub part_shown : (p q : Placed) (part : List ℕ) → p ≡ q → p ≡ look_place h c b → shown_at p b ≡ look_means h c b → part ≡ place_part q b
      → (part ≡ place_part (look_place h c b) b) × (part ≡ (look_means h c b).part)
  part_shown p q part same found means e =
      let here : part ≡ place_part p b = e ∙ ap (λ (x : Placed). place_part x b) (sym same) in
      (here ∙ ap (λ (x : Placed). place_part x b) found, here ∙ ap (λ (l : Looked). l.part) means)

-- what the clause says of the place that the code has
pub memory_within : (b : Buffers) (p : Placed) (at : ℕ) → p ≡ Memory at → PlaceWithin p b → at + 64 ≤ length b.memory
memory_within b p at q w = subst (λ (x : Placed). PlaceWithin x b) q w

pub bodies_within : (b : Buffers) (p : Placed) (at : ℕ) → p ≡ Bodies at → PlaceWithin p b → at + 64 ≤ length b.bodies
bodies_within b p at q w = subst (λ (x : Placed). PlaceWithin x b) q w
