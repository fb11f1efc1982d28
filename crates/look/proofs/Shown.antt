-- What look tells: the 64 bytes that restore of the same handle leaves in that cell, shown from bodies or told as a rule where a domain from the
-- named one inwards holds the cell, else shown from memory. Assumes nothing.
use Prim.Native.Nat.{ℕ, ◌+◌, ◌*◌, ◌≤◌, ◌<◌}
use mathlib.Core.Bool.{true, cond}
use mathlib.Core.List.{List}
use mathlib.Core.Option.{Option, none, some}
use mathlib.Core.Path.{◌≡◌, refl, sym, ap, subst, ◌∙◌}
use native.Mathlib.Omega.{arith}
use lib.Dec.{ltb}
use lib.ListN.{length, get_or, take, drop, length-take, length-drop}
use lib.Seq.{ext_get_or, get_or-take, get_or-drop}
use Rattle.words.specs.Layout.{cell_at, cells_of, slots_of}
use Rattle.words.specs.Stores.{tab}
use Rattle.words.specs.Cells.{cell_bytes}
use Rattle.words.proofs.Scan.{true≢}
use Rattle.words.proofs.Plans.{length_tab, get_or_tab}
use Rattle.words.proofs.Cells.{cell_bytes_length}
use Rattle.patterns.specs.Pattern.{pattern}
use Rattle.patterns.proofs.Bytes.{pattern_length}
use Rattle.table.specs.Entry.{word2}
use Rattle.search.specs.Search.{held_from, source_from, value_in, bytes_from}
use Rattle.search.specs.Domain.{depth_named}
use Rattle.model.specs.State.{Holding, State}
use Rattle.model.specs.Holdings.{named, is_held, held_rule, is_live, range_ok}
use Rattle.model.specs.Restore.{Looked, bytes_told, cell_of_byte, place_in_cell, outermost, restored_cell, restored_byte, restored_memory}
use Rattle.store.specs.Outcome.{Buffers}
use Rattle.store.specs.Checks.{store_check, lent_of}
use Rattle.store.specs.State.{slots, state_of}
use Rattle.store.proofs.Checks.{or_else_go, ask_go, store_lengths}
use Rattle.store.proofs.Raw.{raw_named}
use Rattle.store.proofs.Outermost.{store_held, store_bytes, store_rule, store_none}
use Rattle.look.specs.Look.{Placed, Refused, Memory, Bodies, Rule, look_check, place_in, look_place, place_part, PlaceWithin, shown_at, look_means, place_of_rule, place_of, place_by_state}
use Rattle.look.proofs.Placing.{PlaceFound, in_memory, in_bodies_lem, in_rule, place_found, Accepted, check_passed, look_placed, look_means_lem, look_within}

-- look's number, of its buffers
abbrev pub checked : (h c : ℕ) → Buffers → ℕ
checked h c b = look_check (lent_of b) h c

-- ---- the length of the part

part_length : (s : List ℕ) (at : ℕ) → at + 64 ≤ length s → length (take 64 (drop at s)) ≡ 64
part_length s at l = simp (length-take, length-drop) (omega arith)

-- "when it is refused, the part has length 0", and so it has where a rule is told; else 64
abbrev pub length_at : Placed → ℕ
length_at (Refused n) = 0
length_at (Memory at) = 64
length_at (Bodies at) = 64
length_at (Rule r) = 0

place_length : (p : Placed) (b : Buffers) → PlaceWithin p b → length (place_part p b) ≡ length_at p
place_length (Refused n) b w = refl
place_length (Memory at) b w = part_length b.memory at w
place_length (Bodies at) b w = part_length b.bodies at w
place_length (Rule r) b w = refl

pub look_length : (h c : ℕ) (b : Buffers) → length (look_means h c b).part ≡ length_at (look_place h c b)
look_length h c b = ap (λ (l : Looked). length l.part) (sym (look_means_lem h c b)) ∙ place_length (look_place h c b) b (look_within h c b)

-- ---- what restore leaves in a cell

-- cell c of restored memory, where its value has 64 bytes
pub restored_cell_lem : (d c : ℕ) (s : State) (memory : List ℕ) → cell_at c + 64 ≤ length memory → length (restored_cell d s memory c) ≡ 64
    → cell_bytes (restored_memory d s memory) c ≡ restored_cell d s memory c
unfolding restored_memory
restored_cell_lem d c s memory fits long =
    ext_get_or 0 (cell_bytes whole c) (restored_cell d s memory c) (size ∙ sym long) (λ j l. each j (omega (arith, size)))
  where
    whole : List ℕ
    whole = tab (length memory) (restored_byte d s memory)

    size : length (cell_bytes whole c) ≡ 64
    size = cell_bytes_length whole c (omega (arith, length_tab (restored_byte d s memory) (length memory), fits))

    each : (j : ℕ) → j < 64 → get_or (cell_bytes whole c) j 0 ≡ get_or (restored_cell d s memory c) j 0
    each j l =
        let cell : cell_of_byte (cell_at c + j) ≡ c = omega arith in
        let place : place_in_cell (cell_at c + j) ≡ j = omega arith in
        get_or-take 64 (drop (cell_at c) whole) j 0 l
        ∙ get_or-drop (cell_at c) whole j 0
        ∙ get_or_tab (restored_byte d s memory) (length memory) (cell_at c + j) 0 (omega arith)
        ∙ (λ i. get_or (restored_cell d s memory (cell i)) (place i) 0)

module _ (h c : ℕ) (b : Buffers) (pass : checked h c b ≡ 0) where
  passed : Accepted (length b.memory) (length b.bodies) b.table h c
  passed = check_passed (length b.memory) (length b.bodies) b.table h c pass

  exact : length b.memory ≡ 64 * cells_of (length b.memory)
  exact = (store_lengths (length b.memory) (length b.bodies) b.table passed.store).memory_exact

  abbrev e : ℕ
  e = slots_of (length b.table)

  abbrev d : ℕ
  d = depth_named b.table h

  abbrev left : List ℕ
  left = restored_cell (depth_named b.table h) (state_of b) b.memory c

  bytes : left ≡ cond (held_from e b.table d c) (bytes_from e b.table b.bodies d c) (cell_bytes b.memory c)
  bytes = store_bytes b.memory b.bodies b.table passed.store d c passed.live (cell_bytes b.memory c)

  -- what is told of a place, and that it has 64 bytes
  record Told : Type 0 where
    same : bytes_told (look_means h c b) ≡ left
    size : length left ≡ 64

  told_at : (p : Placed) (v : List ℕ) → place_in e b.table d c ≡ p → bytes_told (shown_at p b) ≡ v → left ≡ v → length v ≡ 64 → Told
  told_at p v q r s l =
      record {
        same = ap bytes_told (sym (look_means_lem h c b) ∙ ap (λ (x : Placed). shown_at x b) (look_placed h c b pass ∙ q)) ∙ r ∙ sym s;
        size = ap length s ∙ l;
      }

  told_by : PlaceFound e b.table d c → Told
  unfolding value_in
  told_by (in_memory p q) =
      told_at (Memory (cell_at c)) (cell_bytes b.memory c) q refl (rw p at bytes) (cell_bytes_length b.memory c (omega (arith, exact, passed.cell)))
  told_by (in_bodies_lem p r q) =
      let k = word2 e b.table (source_from e b.table d c) in
      let within = subst (λ (x : Placed). PlaceWithin x b) (look_placed h c b pass ∙ q) (look_within h c b) in
      told_at (Bodies (cell_at k)) (cell_bytes b.bodies k) q refl (rw (p, r) at bytes) (cell_bytes_length b.bodies k within)
  told_by (in_rule p r q) =
      let k = word2 e b.table (source_from e b.table d c) in
      told_at (Rule k) (pattern k) q refl (rw (p, r) at bytes) (pattern_length k)

  told : Told
  told = told_by (place_found e b.table d c)

  -- "the 64 bytes that restore would leave there"
  pub look_restores : bytes_told (look_means h c b) ≡ cell_bytes (restored_memory (named h (state_of b)) (state_of b) b.memory) c
  look_restores =
      subst (λ (x : ℕ). bytes_told (look_means h c b) ≡ cell_bytes (restored_memory x (state_of b) b.memory) c)
      (sym (raw_named b.memory b.bodies b.table passed.store h))
      (told.same ∙ sym (restored_cell_lem d c (state_of b) b.memory (omega (arith, exact, passed.cell)) told.size))

-- ---- "a part of the lent bodies, or of the lent memory where nobody from that domain inwards holds the cell": which of them, and at which offset

asked_yes : (h c : ℕ) (b : Buffers) → store_check (lent_of b) ≡ 0 → is_live h (state_of b) ≡ true
    → range_ok (cells_of (length b.memory)) c 1 ≡ true → checked h c b ≡ 0
unfolding look_check
asked_yes h c b pass live range =
    let five : ltb 0 (depth_named b.table h) ≡ true = ap (ltb 0) (sym (raw_named b.memory b.bodies b.table pass h)) ∙ live in
    or_else_go _ _ pass ∙ ask_go _ _ _ five ∙ ask_go _ _ _ range

pub look_tells : (h c : ℕ) (b : Buffers) → store_check (lent_of b) ≡ 0 → is_live h (state_of b) ≡ true
    → range_ok (cells_of (length b.memory)) c 1 ≡ true → look_place h c b ≡ place_by_state h c b
look_tells h c b store live range = found ∙ ap place (sym same)
  where
    pass : checked h c b ≡ 0
    pass = asked_yes h c b store live range

    same : named h (state_of b) ≡ depth_named b.table h
    same = raw_named b.memory b.bodies b.table store h

    -- the place by the state, of a domain at depth d
    place : ℕ → Placed
    place d = place_of c (outermost d c (state_of b)) (word2 (slots b) b.table (source_from (slots b) b.table d c))

    live-there : 1 ≤ (depth_named b.table h)
    live-there = (passed h c b pass).live

    -- what is held tells the place by its rule
    by-holding : (o : Option Holding) (k : ℕ) (r : Option ℕ) → is_held o ≡ true → held_rule o ≡ r → place_of_rule r k ≡ place_of c o k
    by-holding none k r held is = absurd (true≢ held refl)
    by-holding (some x) k r held is = ap (λ (y : Option ℕ). place_of_rule y k) (sym is)

    found-by : PlaceFound (slots b) b.table (depth_named b.table h) c → place_in (slots b) b.table (depth_named b.table h) c ≡ place (depth_named b.table h)
    found-by (in_memory p q) =
        q ∙ ap (λ (o : Option Holding). place_of c o (word2 (slots b) b.table (source_from (slots b) b.table (depth_named b.table h) c)))
        (sym (store_none b.memory b.bodies b.table store (depth_named b.table h) c live-there p))
    found-by (in_bodies_lem p r q) =
        q ∙ by-holding (outermost (depth_named b.table h) c (state_of b)) (word2 (slots b) b.table (source_from (slots b) b.table (depth_named b.table h) c)) none
        (store_held b.memory b.bodies b.table store (depth_named b.table h) c live-there ∙ p) (store_rule b.memory b.bodies b.table store (depth_named b.table h) c live-there p ∙ rw r)
    found-by (in_rule p r q) =
        q ∙ by-holding (outermost (depth_named b.table h) c (state_of b)) (word2 (slots b) b.table (source_from (slots b) b.table (depth_named b.table h) c))
        (some (word2 (slots b) b.table (source_from (slots b) b.table (depth_named b.table h) c)))
        (store_held b.memory b.bodies b.table store (depth_named b.table h) c live-there ∙ p) (store_rule b.memory b.bodies b.table store (depth_named b.table h) c live-there p ∙ rw r)

    found : look_place h c b ≡ place (depth_named b.table h)
    found = look_placed h c b pass ∙ found-by (place_found (slots b) b.table (depth_named b.table h) c)
