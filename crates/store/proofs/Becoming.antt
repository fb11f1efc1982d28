-- One law for every call that stages stores of the head and a change of each entry: what the call says of each slot by itself gives that the
-- new table is right and what it stands for. Assumes nothing.
use Prim.Native.Nat.{ℕ, zero, suc, ◌≤◌, ◌<◌}
use mathlib.Core.Bool.{true, false}
use mathlib.Core.List.{List, ◌++◌}
use mathlib.Core.Logic.{◌⊎◌, inl, inr, ⊎_elim}
use mathlib.Core.Option.{Option, none, some}
use mathlib.Core.Path.{◌≡◌, refl, sym, ap, subst, ◌∙◌}
use native.Mathlib.Nat.{not-suc-le-zero}
use native.Mathlib.Omega.{arith}
use borrow.Author.Tests.{eqb-true, eqb-false}
use lib.Dec.{eqb}
use lib.ListN.{length}
use Rattle.words.specs.Layout.{pairs_at, handle_at, max_live}
use Rattle.words.specs.Stores.{Store, stores, tab}
use Rattle.words.specs.Cells.{cell_bytes}
use Rattle.words.proofs.Scan.{by_bool, by_le, true≢}
use Rattle.words.proofs.Plans.{Each, tab_below}
use Rattle.patterns.specs.Pattern.{max_rule, pattern}
use Rattle.table.specs.Entry.{live, next_handle, handle, word1, word2, depth_of, writable_of, via_of, pattern_of, unused_of, cell_of, owns_body, parent, names, find_in, holds_in, writable}
use Rattle.table.specs.Changes.{Change, keep, put, new_first, new_second, entry_changes}
use Rattle.table.proofs.Entry.{names_make, find_hit, find_miss, find_some, holds_true, holds_found, holds_none}
use Rattle.table.proofs.Made.{Made, same_made, writable_made}
use Rattle.table.proofs.Rule.{Rule, Used, Apart}
use Rattle.table.proofs.Single.{only_one, find_self}
use Rattle.table.proofs.Entries.{first_staged, second_staged}
use Rattle.table.proofs.Head.{Remain, remain_handles}
use Rattle.search.specs.Search.{value_in}
use Rattle.search.specs.Free.{body_free}
use Rattle.search.proofs.Free.{body_unused}
use Rattle.search.proofs.Value.{Copy, body_fits_lem}
use Rattle.model.specs.State.{Label, read_only, read_write, copy, via_parent, by_rule, Holding}
use Rattle.model.specs.Holdings.{value_or, rule_of, held_rule}
use Rattle.store.specs.State.{label_of, kind_of, ValueIs, of_copy, of_rule, of_parent, HoldingIs, nothing, entry, held_in, domain_in, state_in}
use Rattle.store.proofs.State.{bit, value_is, value_only, holding_only}
use Rattle.table.proofs.Marks.{owns_make, owns_facts}

-- what is held by copy, via parent, and by a rule
abbrev pub by_copy : Label → List ℕ → Option Holding
by_copy l bytes = some (record { label = l; kind = copy; value = bytes })

abbrev pub by_parent : Label → List ℕ → Option Holding
by_parent l bytes = some (record { label = l; kind = via_parent; value = bytes })

abbrev pub following : Label → (rule : ℕ) → Option Holding
following l r = some (record { label = l; kind = by_rule r; value = pattern r })

-- of holdings g: what slot i's depth, and its parent, hold of slot i's cell
abbrev pub at_slot : ℕ → List ℕ → (g : ℕ → ℕ → Option Holding) → ℕ → Option Holding
at_slot e t g i = g (depth_of (word1 e t i)) (cell_of (word1 e t i))

abbrev pub at_parent : ℕ → List ℕ → (g : ℕ → ℕ → Option Holding) → ℕ → Option Holding
at_parent e t g i = g (parent (depth_of (word1 e t i))) (cell_of (word1 e t i))

-- what slot i tells, with label l
abbrev pub told : ℕ → (t bodies : List ℕ) → ℕ → Label → Option Holding
told e t bodies i l =
    some (record { label = l; kind = kind_of (word1 e t i) (word2 e t i); value = value_in e t bodies (depth_of (word1 e t i)) (cell_of (word1 e t i)) })

-- what a slot that follows a rule tells
pub told_rule : (m e b : ℕ) (t bodies : List ℕ) → Rule m e b t → (i : ℕ) (l : Label) → i < e → 1 ≤ depth_of (word1 e t i) → via_of (word1 e t i) ≡ 0
    → pattern_of (word1 e t i) ≡ 1 → told e t bodies i l ≡ following l (word2 e t i)
told_rule m e b t bodies ok i l h deep v p =
    let w = word1 e t i in
    let value : value_in e t bodies (depth_of w) (cell_of w) ≡ pattern (word2 e t i) =
    sym (value_only m e b t ok bodies deep (of_rule h (names_make e t (depth_of w) (cell_of w) w refl refl) v p)) in
    rw (v, p, value)

-- an entry that follows no rule has none in its kind
pub plain_kind : (w v : ℕ) → pattern_of w ≡ 0 → rule_of (kind_of w v) ≡ none
plain_kind w v p = by_bool (eqb (via_of w) 1) (λ z. rw z) (λ z. rw (z, p))

-- no slot
abbrev pub Never : ℕ → ℕ → Type 0
Never i x = ⊥

-- ---- what a call owes

-- a table t with bodies `old`, for m cells, with e entry slots and b bodies. Afterwards n domains live, the bodies are `new`, and the domain at
-- depth d holds `held d c` of cell c. The call says besides: a copy of slot i that takes no free body has the body that slot `origin i` had;
-- `Comes i c`: slot i comes to cell c at a depth that lacked it; `Takes i v`: slot i takes the free body v
module _ (m e b : ℕ) (t old new : List ℕ) (n : ℕ) (held : ℕ → ℕ → Option Holding) (origin : ℕ → ℕ) (Comes Takes : ℕ → ℕ → Type 0) where
  -- slot i keeps its depth, cell, kind and body, and has label l
  pub record Stays (i : ℕ) (l : Label) : Type 0 where
    pub high : depth_of (word1 e t i) ≤ n
    pub holding : at_slot e t held i ≡ told e t old i l
    -- via parent: the parent holds what it held
    pub outer : via_of (word1 e t i) ≡ 1 → at_parent e t held i ≡ at_parent e t (held_in e t old) i
    -- else: the body, or the rule, is its own
    pub home : via_of (word1 e t i) ≡ 0 → origin i ≡ i

  -- where slot i is with first word x: where it was; or it came, and left no place of a domain that lives
  pub data Place (i x : ℕ) : Type 0 where
    there : (word1 e t i ≡ 0 → ⊥) → depth_of x ≡ depth_of (word1 e t i) → cell_of x ≡ cell_of (word1 e t i) → Place i x
    came : Comes i (cell_of x) → holds_in e t (depth_of x) (cell_of x) ≡ false → (depth_of (word1 e t i) ≤ n → depth_of (word1 e t i) ≡ 0) → Place i x

  -- where its value is with words x and v: in a body that a slot had, in one that was free, in a rule, or with the parent, which holds it by none
  pub data Value (i x v : ℕ) : Type 0 where
    had : via_of x ≡ 0 → pattern_of x ≡ 0 → Copy e t (origin i) → v ≡ word2 e t (origin i) → held (depth_of x) (cell_of x) ≡ told e t old (origin i) (label_of x) → Value i x v
    took : via_of x ≡ 0 → pattern_of x ≡ 0 → Takes i v → v < b → body_free e t v ≡ true → held (depth_of x) (cell_of x) ≡ by_copy (label_of x) (cell_bytes new v) → Value i x v
    follows : via_of x ≡ 0 → pattern_of x ≡ 1 → v ≤ max_rule → held (depth_of x) (cell_of x) ≡ following (label_of x) v → Value i x v
    rests : via_of x ≡ 1 → pattern_of x ≡ 0 → v ≡ 0 → 2 ≤ depth_of x → (h : Holding) → held (parent (depth_of x)) (cell_of x) ≡ some h → rule_of h.kind ≡ none
        → held (depth_of x) (cell_of x) ≡ by_parent (label_of x) h.value → Value i x v

  -- slot i in use with words x and v
  pub record Full (i x v : ℕ) : Type 0 where
    pub low : 1 ≤ depth_of x
    pub high : depth_of x ≤ n
    pub spare : unused_of x ≡ 0
    pub cell : cell_of x < m
    pub place : Place i x
    pub value : Value i x v

  -- what becomes of slot i by its change; of a slot in use the call may know that it was right, and what it told
  pub data Fate (i : ℕ) : Change → Type 0 where
    keeps : (Used m e b t i → at_slot e t (held_in e t old) i ≡ told e t old i (label_of (word1 e t i)) → Stays i (label_of (word1 e t i))) → Fate i keep
    -- read-only becomes read-write
    raises : 1 ≤ depth_of (word1 e t i) → writable_of (word1 e t i) ≡ 0
        → (Used m e b t i → at_slot e t (held_in e t old) i ≡ told e t old i read_only → Stays i read_write)
        → Fate i (put (writable (word1 e t i)) (word2 e t i))
    frees : (1 ≤ depth_of (word1 e t i) → depth_of (word1 e t i) ≤ n → at_slot e t held i ≡ none) → Fate i (put 0 0)
    -- a slot in use gets other words, and a free one its words
    turns : {x v : ℕ} → 1 ≤ depth_of (word1 e t i)
        → (Used m e b t i → at_slot e t (held_in e t old) i ≡ told e t old i (label_of (word1 e t i)) → Full i x v) → Fate i (put x v)
    fills : {x v : ℕ} → Full i x v → Fate i (put x v)

  -- the call stores hs in the head, and the change f i of each entry i
  pub record Becomes (hs : List Store) (f : ℕ → Change) : Type 0 where
    pub right : Rule m e b t
    pub long : pairs_at e ≤ length t
    pub low : Each (λ s. s.at < handle_at max_live) hs
    -- words 4, 5 and 8 to 15
    pub head : Remain n t (stores (hs ++ entry_changes e f) t)
    -- bodies in use keep their bytes
    pub spared : (i : ℕ) → Copy e t i → cell_bytes new (word2 e t i) ≡ cell_bytes old (word2 e t i)
    -- each slot by itself
    pub fate : (i : ℕ) → i < e → Fate i (f i)
    -- what was not held is not held, or a slot comes there
    pub lacked : (d c : ℕ) → 1 ≤ d → d ≤ n → holds_in e t d c ≡ false
        → (held d c ≡ none) ⊎ ((i : ℕ) × (i < e) × (names d c (new_first (f i) (word1 e t i)) ≡ true))
    -- no two slots have a body from one slot, come to one cell, or take one body
    pub own : (i j : ℕ) → i < e → j < e → Copy e (stores (hs ++ entry_changes e f) t) i → Copy e (stores (hs ++ entry_changes e f) t) j → origin i ≡ origin j → i ≡ j
    pub cells : (i j c : ℕ) → i < e → j < e → Comes i c → Comes j c → i ≡ j
    pub bodies : (i j v : ℕ) → i < e → j < e → Takes i v → Takes j v → i ≡ j

  -- ---- the law

  module _ (hs : List Store) (f : ℕ → Change) (B : Becomes hs f) where
    abbrev u : List ℕ
    u = stores (hs ++ entry_changes e f) t

    firsts : (i : ℕ) → i < e → word1 e u i ≡ new_first (f i) (word1 e t i)
    firsts i l = first_staged e f hs B.low t B.long i l

    seconds : (i : ℕ) → i < e → word2 e u i ≡ new_second (f i) (word2 e t i)
    seconds i l = second_staged e f hs B.low t B.long i l

    -- ---- what a slot in use told

    module _ (i : ℕ) (l : i < e) (k : Used m e b t i) where
      abbrev w : ℕ
      w = word1 e t i

      in_use : word1 e t i ≡ 0 → ⊥
      in_use z = let deep = k.low in omega arith

      self : names (depth_of (word1 e t i)) (cell_of (word1 e t i)) (word1 e t i) ≡ true
      self = names_make e t (depth_of w) (cell_of w) w refl refl

      tells : at_slot e t (held_in e t old) i ≡ told e t old i (label_of (word1 e t i))
      unfolding held_in
      tells =
          let here = find_self m e b t B.right i l in_use in
          rw (holds_true e t (depth_of w) (cell_of w) (omega arith), here)

      copy_value : via_of (word1 e t i) ≡ 0 → pattern_of (word1 e t i) ≡ 0 → value_in e t old (depth_of (word1 e t i)) (cell_of (word1 e t i)) ≡ cell_bytes old (word2 e t i)
      copy_value z p = sym (value_only m e b t B.right old k.low (of_copy l self z p))

      via_value : via_of (word1 e t i) ≡ 1 → value_in e t old (depth_of (word1 e t i)) (cell_of (word1 e t i)) ≡ value_in e t old (parent (depth_of (word1 e t i))) (cell_of (word1 e t i))
      via_value z =
          let v : via_of w ≡ 0 → ⊥ = λ y. omega arith in
          let two = k.inner v in
          sym (value_only m e b t B.right old k.low
          (of_parent l self z (value_is m e b t B.right old (parent (depth_of w)) (cell_of w) (omega arith) (B.right.outer i l v))))

      -- what the parent of a via parent slot held, by no rule
      outer_held : via_of (word1 e t i) ≡ 1 → (h : Holding) × (at_parent e t (held_in e t old) i ≡ some h) × (rule_of h.kind ≡ none)
          × (h.value ≡ value_in e t old (depth_of (word1 e t i)) (cell_of (word1 e t i)))
      unfolding held_in
      outer_held z =
          let v : via_of w ≡ 0 → ⊥ = λ y. omega arith in
          let j : ℕ = find_in e t (parent (depth_of w)) (cell_of w) in (
            record { label = label_of (word1 e t j); kind = kind_of (word1 e t j) (word2 e t j); value = value_in e t old (parent (depth_of w)) (cell_of w) },
            rw (holds_true e t (parent (depth_of w)) (cell_of w) (B.right.outer i l v)),
            plain_kind (word1 e t j) (word2 e t j) (B.right.outer_plain i l v),
            sym (via_value z),
          )

      -- a slot that stays, with first word x: another label at the most
      module _ (x label : ℕ) (lab : Label) (s : Stays i lab) (made : Made x (depth_of (word1 e t i)) label (via_of (word1 e t i)) (pattern_of (word1 e t i)) (unused_of (word1 e t i)) (cell_of (word1 e t i)))
          (lb : label_of x ≡ lab) where
        stay_copy : via_of (word1 e t i) ≡ 0 → pattern_of (word1 e t i) ≡ 0 → Value i x (word2 e t i)
        stay_copy v p =
            let h = s.home v in
            had (made.kind ∙ v) (made.rule ∙ p) (subst (Copy e t) (sym h) (record { slot = l; used = in_use; copy = v; plain = p })) (ap (word2 e t) (sym h))
            (rw (made.depth, made.cell, lb, h) s.holding)

        stay_rule : via_of (word1 e t i) ≡ 0 → pattern_of (word1 e t i) ≡ 1 → Value i x (word2 e t i)
        stay_rule v p =
            follows (made.kind ∙ v) (made.rule ∙ p) (k.rule p)
            (rw (made.depth, made.cell, lb) (s.holding ∙ told_rule m e b t old B.right i lab l k.low v p))

        stay_via : via_of (word1 e t i) ≡ 1 → (h : Holding) → at_parent e t (held_in e t old) i ≡ some h → rule_of h.kind ≡ none
            → h.value ≡ value_in e t old (depth_of (word1 e t i)) (cell_of (word1 e t i)) → Value i x (word2 e t i)
        stay_via v h o n q =
            let ne : via_of w ≡ 0 → ⊥ = λ y. omega arith in
            rests (made.kind ∙ v) (made.rule ∙ k.plain ne) (k.second ne) (rw made.depth (k.inner ne)) h (rw (made.depth, made.cell) (s.outer v ∙ o)) n
            (rw (made.depth, made.cell, lb) (s.holding ∙ rw (v, q)))

        stay_full : Full i x (word2 e t i)
        stay_full =
            record {
              low = rw made.depth k.low;
              high = rw made.depth s.high;
              spare = made.rest ∙ k.spare;
              cell = rw made.cell k.cell;
              place = there in_use made.depth made.cell;
              value = by_bool (eqb (via_of w) 0)
                  (λ z.
                  let v = eqb-true (via_of w) 0 z in
                  by_bool (eqb (pattern_of w) 0) (λ p. stay_copy v (eqb-true (pattern_of w) 0 p)) (λ p. let q = eqb-false (pattern_of w) 0 p in stay_rule v (omega (arith, q))))
                  (λ z. let v = bit w (eqb-false (via_of w) 0 z) in let o = outer_held v in stay_via v o.0 o.1 o.2 o.3);
            }

    -- ---- every slot afterwards

    data Slot (i : ℕ) : Type 0 where
      empty : word1 e u i ≡ 0 → word2 e u i ≡ 0 → Slot i
      full : Full i (word1 e u i) (word2 e u i) → Slot i

    full_of : (i x v : ℕ) → word1 e u i ≡ x → word2 e u i ≡ v → Full i x v → Slot i
    full_of i x v p q h = full (rw (p, q) h)

    slot_by : (i : ℕ) (c : Change) → i < e → Fate i c → word1 e u i ≡ new_first c (word1 e t i) → word2 e u i ≡ new_second c (word2 e t i) → Slot i
    slot_by i c l (keeps g) p q =
        by_bool (eqb (word1 e t i) 0)
        (λ z. let y = eqb-true (word1 e t i) 0 z in empty (p ∙ y) (q ∙ B.right.free i l y))
        (λ z.
        let k = B.right.used i l (eqb-false (word1 e t i) 0 z) in
        full_of i (word1 e t i) (word2 e t i) p q
        (stay_full i l k (word1 e t i) (writable_of (word1 e t i)) (label_of (word1 e t i)) (g k (tells i l k)) (same_made (word1 e t i)) refl))
    slot_by i c l (raises deep low g) p q =
        let k = B.right.used i l (λ z. omega (arith, deep, z)) in
        let made = writable_made (word1 e t i) low in
        full_of i (writable (word1 e t i)) (word2 e t i) p q
        (stay_full i l k (writable (word1 e t i)) 1 read_write (g k (tells i l k ∙ rw low)) made (rw made.label))
    slot_by i c l (frees g) p q = empty p q
    slot_by i c l (turns {x} {v} deep g) p q =
        let k = B.right.used i l (λ z. omega (arith, deep, z)) in
        full_of i x v p q (g k (tells i l k))
    slot_by i c l (fills {x} {v} h) p q = full_of i x v p q h

    slot : (i : ℕ) → i < e → Slot i
    slot i l = slot_by i (f i) l (B.fate i l) (firsts i l) (seconds i l)

    -- ---- what is not held

    leaves_place : (i x : ℕ) → Used m e b t i → Place i x → word1 e u i ≡ x → depth_of (word1 e t i) ≤ n
        → (names (depth_of (word1 e t i)) (cell_of (word1 e t i)) (word1 e u i) ≡ true) ⊎ (at_slot e t held i ≡ none)
    leaves_place i x k (there a dp cl) p h = inl (rw p (names_make e t (depth_of (word1 e t i)) (cell_of (word1 e t i)) x dp cl))
    leaves_place i x k (came a lacks left) p h = absurd (never (depth_of (word1 e t i)) k.low (left h))
      where
        never : (d : ℕ) → 1 ≤ d → d ≡ 0 → ⊥
        never d a z = omega arith

    leaves : (i : ℕ) (c : Change) → i < e → (k : Used m e b t i) → Fate i c → word1 e u i ≡ new_first c (word1 e t i) → depth_of (word1 e t i) ≤ n
        → (names (depth_of (word1 e t i)) (cell_of (word1 e t i)) (word1 e u i) ≡ true) ⊎ (at_slot e t held i ≡ none)
    leaves i c l k (keeps g) p h = inl (rw p (self i l k))
    leaves i c l k (raises deep low g) p h =
        let made = writable_made (word1 e t i) low in
        inl (rw p (names_make e t (depth_of (word1 e t i)) (cell_of (word1 e t i)) _ made.depth made.cell))
    leaves i c l k (frees g) p h = inr (g k.low h)
    leaves i c l k (turns {x} {v} deep g) p h = leaves_place i x k (g k (tells i l k)).place p h
    leaves i c l k (fills {x} {v} s) p h = leaves_place i x k s.place p h

    gone : (d c : ℕ) → 1 ≤ d → d ≤ n → ((i : ℕ) → i < e → names d c (word1 e u i) ≡ false) → held d c ≡ none
    gone d c low high miss =
        by_bool (holds_in e t d c)
        (λ p. let h = holds_found e t d c p in let hit = find_hit e t d c h in left (find_in e t d c) h hit.0 hit.1)
        (λ p. ⊎_elim (λ z. z) (λ s. absurd (true≢ (rw (firsts s.0 s.1) s.2) (miss s.0 s.1))) (B.lacked d c low high p))
      where
        left : (i : ℕ) → i < e → depth_of (word1 e t i) ≡ d → cell_of (word1 e t i) ≡ c → held d c ≡ none
        left i l p q =
            let k = B.right.used i l (λ z. omega (arith, p, z)) in
            rw (← p, ← q)
            (⊎_elim (λ z. absurd (true≢ z (rw (p, q) (miss i l)))) (λ z. z) (leaves i (f i) l k (B.fate i l) (firsts i l) (omega arith)))

    found : (d c : ℕ) (h : Holding) → 1 ≤ d → d ≤ n → held d c ≡ some h → find_in e u d c < e
    found d c h low high q =
        by_bool (holds_in e u d c) (λ p. holds_found e u d c p)
        (λ p.
        let lacks = holds_none e u d c p in
        absurd (never (held d c) h (gone d c low high (λ i l. find_miss e u d c i (omega arith))) q))
      where
        never : (o : Option Holding) (h : Holding) → o ≡ none → o ≡ some h → ⊥
        never o h p q = let z : ◌≡◌ {A = ℕ} 0 1 = cc in omega arith

    -- ---- the rule

    both : (w : ℕ) → w ≡ 0 → w ≡ 1 → ⊥
    both w p q = omega arith

    module _ (i x v : ℕ) where
      value_fits : Value i x v → via_of x ≡ 0 → pattern_of x ≡ 0 → v < b
      value_fits (had a p k q h) z y = rw q (body_fits_lem m e b t B.right (origin i) k)
      value_fits (took a p k l r h) z y = l
      value_fits (follows a p l h) z y = absurd (both (pattern_of x) y p)
      value_fits (rests a p q l h o n r) z y = absurd (both (via_of x) z a)

      value_rule : Value i x v → pattern_of x ≡ 1 → v ≤ max_rule
      value_rule (had a p k q h) z = absurd (both (pattern_of x) p z)
      value_rule (took a p k l r h) z = absurd (both (pattern_of x) p z)
      value_rule (follows a p l h) z = l
      value_rule (rests a p q l h o n r) z = absurd (both (pattern_of x) p z)

      -- what rests on a parent
      record Resting : Type 0 where
        second : v ≡ 0
        inner : 2 ≤ depth_of x
        plain : pattern_of x ≡ 0
        outer : Holding
        held_there : held (parent (depth_of x)) (cell_of x) ≡ some outer
        unruled : rule_of outer.kind ≡ none

      value_via : Value i x v → (via_of x ≡ 0 → ⊥) → Resting
      value_via (had a p k q h) z = absurd (z a)
      value_via (took a p k l r h) z = absurd (z a)
      value_via (follows a p l h) z = absurd (z a)
      value_via (rests a p q l h o n r) z = record { second = q; inner = l; plain = p; outer = h; held_there = o; unruled = n }

      -- one that is not held by a rule follows none
      value_plain : Value i x v → held_rule (held (depth_of x) (cell_of x)) ≡ none → pattern_of x ≡ 0
      value_plain (had a p k q h) z = p
      value_plain (took a p k l r h) z = p
      value_plain (follows a p l h) z = absurd (some_none v (sym (ap held_rule h) ∙ z))
        where
          some_none : (r : ℕ) → ◌≡◌ {A = Option ℕ} (some r) none → ⊥
          some_none r q = let y : ◌≡◌ {A = ℕ} 0 1 = cc in omega arith
      value_plain (rests a p q l h o n r) z = p

    new_used : (i : ℕ) → Full i (word1 e u i) (word2 e u i) → Used m e b u i
    new_used i h =
        record {
          low = h.low;
          high = rw B.head.live h.high;
          spare = h.spare;
          cell = h.cell;
          copy = value_fits i (word1 e u i) (word2 e u i) h.value;
          rule = value_rule i (word1 e u i) (word2 e u i) h.value;
          second = λ z. (value_via i (word1 e u i) (word2 e u i) h.value z).second;
          inner = λ z. (value_via i (word1 e u i) (word2 e u i) h.value z).inner;
          plain = λ z. (value_via i (word1 e u i) (word2 e u i) h.value z).plain;
        }

    new_outer : (i : ℕ) → Full i (word1 e u i) (word2 e u i) → (via_of (word1 e u i) ≡ 0 → ⊥) → find_in e u (parent (depth_of (word1 e u i))) (cell_of (word1 e u i)) < e
    new_outer i h z =
        let s = value_via i (word1 e u i) (word2 e u i) h.value z in
        let two = s.inner in
        let high = h.high in
        found (parent (depth_of (word1 e u i))) (cell_of (word1 e u i)) s.outer (omega arith) (omega arith) s.held_there

    -- two copies with one body are one slot
    old_body : (i j : ℕ) → Copy e t i → Copy e t j → word2 e t i ≡ word2 e t j → i ≡ j
    old_body i j p q h =
        by_bool (eqb i j) (λ z. eqb-true i j z)
        (λ z.
        by_le i j
        (λ l. absurd ((B.right.apart_from j q.slot i (omega (arith, eqb-false i j z)) q.used p.used).bodies (owns i p) (owns j q) h))
        (λ l. absurd ((B.right.apart_from i p.slot j l p.used q.used).bodies (owns j q) (owns i p) (sym h))))
      where
        owns : (i : ℕ) → Copy e t i → owns_body (word1 e t i) ≡ true
        owns i k = owns_make (word1 e t i) k.used k.copy k.plain

    taken_body : (v j : ℕ) → body_free e t v ≡ true → Copy e t j → v ≡ word2 e t j → ⊥
    taken_body v j r k q = body_unused e t v r j k.slot (owns_make _ k.used k.copy k.plain) (sym q)

    -- a copy's body, by where it comes from
    data Bodied (i v : ℕ) : Type 0 where
      kept_body : Copy e t (origin i) → v ≡ word2 e t (origin i) → Bodied i v
      new_body : Takes i v → body_free e t v ≡ true → Bodied i v

    bodied : (i x v : ℕ) → Value i x v → via_of x ≡ 0 → pattern_of x ≡ 0 → Bodied i v
    bodied i x v (had a p k q h) z y = kept_body k q
    bodied i x v (took a p k l r h) z y = new_body k r
    bodied i x v (follows a p l h) z y = absurd (both (pattern_of x) y p)
    bodied i x v (rests a p q l h o n r) z y = absurd (both (via_of x) z a)

    one_body : (i j v : ℕ) → Copy e u i → Copy e u j → Bodied i v → Bodied j v → i ≡ j
    one_body i j v ci cj (kept_body k q) (kept_body k' q') = B.own i j ci.slot cj.slot ci cj (old_body (origin i) (origin j) k k' (sym q ∙ q'))
    one_body i j v ci cj (kept_body k q) (new_body k' r') = absurd (taken_body v (origin i) r' k q)
    one_body i j v ci cj (new_body k r) (kept_body k' q') = absurd (taken_body v (origin j) r k' q')
    one_body i j v ci cj (new_body k r) (new_body k' r') = B.bodies i j v ci.slot cj.slot k k'

    -- two slots of one depth and cell are one
    taken_place : (x j : ℕ) → j < e → holds_in e t (depth_of x) (cell_of x) ≡ false → depth_of x ≡ depth_of (word1 e t j) → cell_of x ≡ cell_of (word1 e t j) → ⊥
    taken_place x j l lacks p q =
        let le = find_some e t (depth_of x) (cell_of x) j l (sym p) (sym q) in
        let none = holds_none e t (depth_of x) (cell_of x) lacks in
        omega arith

    one_place : (i j x y : ℕ) → i < e → j < e → Place i x → Place j y → depth_of x ≡ depth_of y → cell_of x ≡ cell_of y → i ≡ j
    one_place i j x y li lj (there a p q) (there a' p' q') d c =
        only_one m e b t B.right i j (depth_of x) (cell_of x) (rw p (B.right.used i li a).low) li lj
        (names_make e t (depth_of x) (cell_of x) (word1 e t i) (sym p) (sym q)) (names_make e t (depth_of x) (cell_of x) (word1 e t j) (sym (d ∙ p')) (sym (c ∙ q')))
    one_place i j x y li lj (there a p q) (came k lacks left) d c = absurd (taken_place y i li lacks (sym d ∙ p) (sym c ∙ q))
    one_place i j x y li lj (came k lacks left) (there a p q) d c = absurd (taken_place x j lj lacks (d ∙ p) (c ∙ q))
    one_place i j x y li lj (came k lacks left) (came k' lacks' left') d c = B.cells i j (cell_of x) li lj k (rw c k')

    new_apart : (i j : ℕ) → i < e → j < i → (word1 e u i ≡ 0 → ⊥) → (word1 e u j ≡ 0 → ⊥) → Full i (word1 e u i) (word2 e u i) → Full j (word1 e u j) (word2 e u j) → Apart e u j i
    new_apart i j l h ui uj p q =
        let lj : j < e = omega arith in
        record {
          cells = λ d c. below j i h (one_place j i (word1 e u j) (word1 e u i) lj l q.place p.place d c);
          bodies = λ oj oi w.
              let a = owns_facts (word1 e u j) oj in
              let c = owns_facts (word1 e u i) oi in
              below j i h
              (one_body j i (word2 e u i) (record { slot = lj; used = uj; copy = a.1; plain = a.2 }) (record { slot = l; used = ui; copy = c.1; plain = c.2 })
              (bodied j (word1 e u j) (word2 e u i) (rw w at q.value) a.1 a.2) (bodied i (word1 e u i) (word2 e u i) p.value c.1 c.2));
        }
      where
        below : (j i : ℕ) → j < i → j ≡ i → ⊥
        below j i h q = omega arith

    -- what is in use is put there
    in_slot : (i : ℕ) → (word1 e u i ≡ 0 → ⊥) → Slot i → Full i (word1 e u i) (word2 e u i)
    in_slot i h (empty p q) = absurd (h p)
    in_slot i h (full s) = s

    -- what a via parent slot rests on follows no rule
    new_outer_plain : (i : ℕ) → Full i (word1 e u i) (word2 e u i) → (via_of (word1 e u i) ≡ 0 → ⊥)
        → pattern_of (word1 e u (find_in e u (parent (depth_of (word1 e u i))) (cell_of (word1 e u i)))) ≡ 0
    new_outer_plain i h z =
        let s = value_via i (word1 e u i) (word2 e u i) h.value z in
        let d = parent (depth_of (word1 e u i)) in
        let c = cell_of (word1 e u i) in
        let j = find_in e u d c in
        let l = new_outer i h z in
        let hit = find_hit e u d c l in
        let two = s.inner in
        let full = in_slot j (λ y. omega (arith, hit.0, y, two)) (slot j l) in
        value_plain j (word1 e u j) (word2 e u j) full.value (rw (hit.0, hit.1) (ap held_rule s.held_there ∙ s.unruled))

    new_free : (i : ℕ) → word1 e u i ≡ 0 → Slot i → word2 e u i ≡ 0
    new_free i z (empty p q) = q
    new_free i z (full s) = let low = s.low in absurd (never (word1 e u i) low z)
      where
        never : (w : ℕ) → 1 ≤ depth_of w → w ≡ 0 → ⊥
        never w l z = omega arith

    rule : Rule m e b u
    rule =
        record {
          live = rw B.head.live (omega (arith, B.head.fewer, B.right.live));
          next = rw B.head.next B.right.next;
          handles = remain_handles n t u B.right.handles B.head;
          free = λ i l z. new_free i z (slot i l);
          used = λ i l h. new_used i (in_slot i h (slot i l));
          outer = λ i l v. new_outer i (in_slot i (λ z. v (ap via_of z)) (slot i l)) v;
          outer_plain = λ i l v. new_outer_plain i (in_slot i (λ z. v (ap via_of z)) (slot i l)) v;
          apart_from = λ i l j h x y. new_apart i j l h x y (in_slot i x (slot i l)) (in_slot j y (slot j (omega arith)));
        }

    -- ---- the holdings

    -- what slot i tells of its depth and cell, where the parent's values are known
    record Tells (d c i : ℕ) : Type 0 where
      bytes : List ℕ
      holding : held d c ≡ some (record { label = label_of (word1 e u i); kind = kind_of (word1 e u i) (word2 e u i); value = bytes })
      value : ValueIs e u new d c bytes

    slot_tells : (d c i : ℕ) → i < e → depth_of (word1 e u i) ≡ d → cell_of (word1 e u i) ≡ c → Value i (word1 e u i) (word2 e u i)
        → ((h : Holding) → 1 ≤ parent d → held (parent d) c ≡ some h → ValueIs e u new (parent d) c h.value) → Tells d c i
    slot_tells d c i l p q (had a y k s h) rec =
        let j = B.right.used (origin i) k.slot k.used in
        let same : value_in e t old (depth_of (word1 e t (origin i))) (cell_of (word1 e t (origin i))) ≡ cell_bytes new (word2 e u i) =
        copy_value (origin i) k.slot j k.copy k.plain ∙ sym (B.spared (origin i) k) ∙ ap (cell_bytes new) (sym s) in
        record { bytes = cell_bytes new (word2 e u i); holding = rw (← p, ← q) (h ∙ rw (a, y, k.copy, k.plain, same)); value = of_copy l (names_make e u d c (word1 e u i) p q) a y }
    slot_tells d c i l p q (took a y k s r h) rec =
        record { bytes = cell_bytes new (word2 e u i); holding = rw (← p, ← q) (h ∙ rw (a, y)); value = of_copy l (names_make e u d c (word1 e u i) p q) a y }
    slot_tells d c i l p q (follows a y s h) rec =
        record { bytes = pattern (word2 e u i); holding = rw (← p, ← q) (h ∙ rw (a, y)); value = of_rule l (names_make e u d c (word1 e u i) p q) a y }
    slot_tells d c i l p q (rests a y s two h o n r) rec =
        record {
          bytes = h.value;
          holding = rw (← p, ← q) (r ∙ rw a);
          value = of_parent l (names_make e u d c (word1 e u i) p q) a (rec h (omega (arith, p)) (rw (p, q) at o));
        }

    tells_at : (d c : ℕ) → 1 ≤ d → find_in e u d c < e
        → ((h : Holding) → 1 ≤ parent d → held (parent d) c ≡ some h → ValueIs e u new (parent d) c h.value) → Tells d c (find_in e u d c)
    tells_at d c low l rec =
        let i = find_in e u d c in
        let hit = find_hit e u d c l in
        slot_tells d c i l hit.0 hit.1 (in_slot i (λ z. omega (arith, hit.0, z)) (slot i l)).value rec

    valued : (k d c : ℕ) (h : Holding) → d ≤ k → 1 ≤ d → d ≤ n → held d c ≡ some h → ValueIs e u new d c h.value
    valued zero d c h le low high q = absurd (not-suc-le-zero (never d low le))
      where
        never : (d : ℕ) → 1 ≤ d → d ≤ 0 → 1 ≤ 0
        never d a z = omega arith
    valued (suc k) d c h le low high q =
        let s = tells_at d c low (found d c h low high q) (λ g one r. valued k (parent d) c g (omega arith) one (omega arith) r) in
        subst (λ (v : List ℕ). ValueIs e u new d c v) (ap (value_or h.value) (sym s.holding ∙ q)) s.value

    holds : (d c : ℕ) → 1 ≤ d → d ≤ n → HoldingIs e u new d c (held d c)
    holds d c low high =
        by_bool (holds_in e u d c)
        (λ p.
        let l = holds_found e u d c p in
        let hit = find_hit e u d c l in
        let s = tells_at d c low l (λ g one r. valued d (parent d) c g (omega arith) one (omega arith) r) in
        subst (λ (o : Option Holding). HoldingIs e u new d c o) (sym s.holding) (entry l (names_make e u d c (word1 e u (find_in e u d c)) hit.0 hit.1) s.value))
        (λ p.
        let lacks = holds_none e u d c p in
        let miss : (i : ℕ) → i < e → names d c (word1 e u i) ≡ false = λ i l. find_miss e u d c i (omega arith) in
        subst (λ (o : Option Holding). HoldingIs e u new d c o) (sym (gone d c low high miss)) (nothing miss))

    held_is : (d c : ℕ) → 1 ≤ d → d ≤ n → held_in e u new d c ≡ held d c
    held_is d c low high = sym (holding_only m e b u rule new low (holds d c low high))

    state_is : state_in e u new ≡ record { next = next_handle t; domains = tab n (λ k. record { handle = handle t k; holds = held (suc k) }) }
    unfolding state_in
    state_is =
        let doms : tab (live u) (domain_in e u new) ≡ tab n (λ k. record { handle = handle t k; holds = held (suc k) }) =
        ap (λ (x : ℕ). tab x (domain_in e u new)) B.head.live
        ∙ tab_below (domain_in e u new) (λ k. record { handle = handle t k; holds = held (suc k) }) n
        (λ k l i. record { handle = B.head.kept k l i; holds = λ c. held_is (suc k) c (omega arith) (omega arith) i }) in
        λ i. record { next = B.head.next i; domains = doms i }

-- ---- as the calls cite it

module _ {m e b n : ℕ} {t old new : List ℕ} {held : ℕ → ℕ → Option Holding} {origin : ℕ → ℕ} {Comes Takes : ℕ → ℕ → Type 0} {hs : List Store} {f : ℕ → Change}
    (B : Becomes m e b t old new n held origin Comes Takes hs f) where
  pub becomes_rule : Rule m e b (stores (hs ++ entry_changes e f) t)
  becomes_rule = rule m e b t old new n held origin Comes Takes hs f B

  pub becomes_held : (d c : ℕ) → 1 ≤ d → d ≤ n → held_in e (stores (hs ++ entry_changes e f) t) new d c ≡ held d c
  becomes_held = held_is m e b t old new n held origin Comes Takes hs f B

  pub becomes_state : state_in e (stores (hs ++ entry_changes e f) t) new ≡ record { next = next_handle t; domains = tab n (λ k. record { handle = handle t k; holds = held (suc k) }) }
  becomes_state = state_is m e b t old new n held origin Comes Takes hs f B
