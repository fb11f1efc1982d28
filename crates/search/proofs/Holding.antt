-- What the answers of the search inwards say: of the first holder, and of the value that it has. Assumes nothing.
use Rattle.std.proofs.Common.{◌≡◌, ℕ, ◌+◌, ◌<◌, ◌≤◌, true, false, List, length, Some, None, sym, ap, ◌∙◌, arith}
use Rattle.std.proofs.lemmas.Option.{none-some, cond_some}
use Rattle.words.specs.Layout.{bodies_of}
use Rattle.words.proofs.Scan.{by_bool, not_lt}
use Rattle.table.specs.Entry.{live, word1, word2, depth_of, cell_of, is_pattern, find_in}
use Rattle.table.proofs.Entry.{find_hit, holds_found, pattern_zero}
use Rattle.table.proofs.Rule.{Rule as Right}
use Rattle.search.specs.Search.{steps_in, held_from, source_in, source_from, own_value, value_in, bytes_from, HasSource}
use Rattle.search.specs.Holders.{holder_in, value_of, value_bytes, BodyWithin, held_by, value_from}
use Rattle.search.specs.declared.holders.Holder.{Holder}
use Rattle.search.specs.declared.holders.Held.{Held}
use Rattle.search.specs.declared.holders.Value.TheVariants.{Body, Rule}
use Rattle.search.proofs.Behind.{steps_within, steps_hold, from_own, at_here, held_here}
use Rattle.search.proofs.Value.{Own, body_fits_lem}

-- ---- the value of an entry of its own

-- its bytes, by its two words
pub own_bytes : (bodies : List ℕ) (w v : ℕ) → value_bytes bodies (value_of w v) ≡ own_value bodies w v
own_bytes bodies w v = by_bool (is_pattern w) (λ p. rw p) (λ p. rw p)

-- in a table that is right its body, where it has one, is one of the bodies
pub own_within : (m e : ℕ) (bodies t : List ℕ) → Right m e (bodies_of (length bodies)) t → (i : ℕ) → Own e t i → BodyWithin bodies (value_of (word1 e t i) (word2 e t i))
own_within m e bodies t ok i own =
    by_bool (is_pattern (word1 e t i)) (λ p. rw p tt)
    (λ p.
    let inside = body_fits_lem m e (bodies_of (length bodies)) t ok i (record { slot = own.slot; used = own.used; copy = own.own; plain = pattern_zero (word1 e t i) p }) in
    rw p (omega (arith, inside)))

module _ (e : ℕ) (t : List ℕ) (d c : ℕ) where
  -- ---- the first holder

  pub nobody_held : holder_in e t d c ≡ None → held_from e t d c ≡ false
  unfolding holder_in
  nobody_held h = by_bool (held_from e t d c) (λ p. absurd (none-some _ (sym (rw p at h)))) (λ p. p)

  pub record HolderFacts (h : Holder) : Type 0 where
    pub held : held_from e t d c ≡ true
    pub depth : h.depth ≡ d + steps_in e t d c
    pub entry : h.entry ≡ find_in e t h.depth c
    pub slot : h.entry < e
    pub live : h.depth ≤ live t

  pub holder_facts : (h : Holder) → holder_in e t d c ≡ Some h → HolderFacts h
  unfolding holder_in
  holder_facts h q =
      let s = cond_some (held_from e t d c) (record { depth = d + steps_in e t d c; entry = find_in e t (d + steps_in e t d c) c }) h q in
      let at : d + steps_in e t d c ≡ h.depth = ap (λ (x : Holder). x.depth) s.1 in
      let found : find_in e t (d + steps_in e t d c) c ≡ h.entry = ap (λ (x : Holder). x.entry) s.1 in
      record {
        held = s.0;
        depth = sym at;
        entry = sym found ∙ ap (λ (x : ℕ). find_in e t x c) at;
        slot = rw (← found) (holds_found e t (d + steps_in e t d c) c (steps_hold e t d c s.0));
        live = rw (← at) (steps_within e t d c s.0);
      }

  -- ---- the value

  pub value_none : held_from e t d c ≡ false → value_from e t d c ≡ None
  unfolding value_from
  value_none h = rw h

  pub value_some : held_from e t d c ≡ true → value_from e t d c ≡ Some (held_by (d + steps_in e t d c) (word1 e t (source_from e t d c)) (word2 e t (source_from e t d c)))
  unfolding value_from
  value_some h = rw h

  -- ---- the answer of the search for it, by the holder and the entry at the end of its chain

  pub no_holder : holder_in e t d c ≡ None → value_from e t d c ≡ None
  no_holder h = value_none (nobody_held h)

  module _ (h : Holder) (q : holder_in e t d c ≡ Some h) where
    facts : HolderFacts h
    facts = holder_facts h q

    pub holder_slot : h.entry < e
    holder_slot = facts.slot

    hit : (depth_of (word1 e t h.entry) ≡ h.depth) × (cell_of (word1 e t h.entry) ≡ c)
    hit = rw facts.entry (find_hit e t h.depth c (rw (← facts.entry) facts.slot))

    pub holder_used : 1 ≤ d → 1 ≤ depth_of (word1 e t h.entry)
    holder_used low = omega (arith, hit.0, facts.depth)

    -- the end of its chain
    chain : source_in e t (depth_of (word1 e t h.entry)) (cell_of (word1 e t h.entry)) ≡ source_from e t d c
    chain = rw (hit.0, hit.1, facts.depth)

    pub chain_ends : HasSource e t d c → source_in e t (depth_of (word1 e t h.entry)) (cell_of (word1 e t h.entry)) ≡ e → ⊥
    chain_ends fits none = not_lt _ e (fits facts.held) (omega (arith, chain, none))

    pub value_there : (s : ℕ) → s ≡ source_in e t (depth_of (word1 e t h.entry)) (cell_of (word1 e t h.entry))
        → value_from e t d c ≡ Some (held_by h.depth (word1 e t s) (word2 e t s))
    value_there s at = rw (at, chain, facts.depth) (value_some facts.held)

  -- ---- what the answer says

  pub none_held : value_from e t d c ≡ None → held_from e t d c ≡ false
  none_held h = by_bool (held_from e t d c) (λ p. absurd (none-some _ (sym h ∙ value_some p))) (λ p. p)

  pub record ValueFacts (h : Held) : Type 0 where
    pub held : held_from e t d c ≡ true
    pub depth : h.depth ≡ d + steps_in e t d c
    pub value : h.value ≡ value_of (word1 e t (source_from e t d c)) (word2 e t (source_from e t d c))

  pub value_facts : (h : Held) → value_from e t d c ≡ Some h → ValueFacts h
  unfolding value_from
  value_facts h q =
      let s = cond_some (held_from e t d c) (held_by (d + steps_in e t d c) (word1 e t (source_from e t d c)) (word2 e t (source_from e t d c))) h q in
      record { held = s.0; depth = ap (λ (x : Held). x.depth) (sym s.1); value = ap (λ (x : Held). x.value) (sym s.1) }

  -- the value's bytes are those that the first holder has of the cell
  pub held_bytes : (bodies : List ℕ) (h : Held) → value_from e t d c ≡ Some h → value_bytes bodies h.value ≡ bytes_from e t bodies d c
  unfolding value_in
  held_bytes bodies h q = ap (value_bytes bodies) (value_facts h q).value ∙ own_bytes bodies (word1 e t (source_from e t d c)) (word2 e t (source_from e t d c))

  -- a body, or a rule
  pub body_facts : (h : Held) (k : ℕ) → value_from e t d c ≡ Some h → h.value ≡ Body k → (is_pattern (word1 e t (source_from e t d c)) ≡ false) × (k ≡ word2 e t (source_from e t d c))
  body_facts h k q is =
      let v = sym is ∙ (value_facts h q).value in
      by_bool (is_pattern (word1 e t (source_from e t d c)))
      (λ p. absurd (let z = rw p at v in cc))
      (λ p. let z = rw p at v in (p, cc))

  pub rule_facts : (h : Held) (k : ℕ) → value_from e t d c ≡ Some h → h.value ≡ Rule k → (is_pattern (word1 e t (source_from e t d c)) ≡ true) × (k ≡ word2 e t (source_from e t d c))
  rule_facts h k q is =
      let v = sym is ∙ (value_facts h q).value in
      by_bool (is_pattern (word1 e t (source_from e t d c)))
      (λ p. let z = rw p at v in (p, cc))
      (λ p. absurd (let z = rw p at v in cc))

-- in a table that is right the value's body, where it has one, is one of the bodies
pub held_within : (m e : ℕ) (bodies t : List ℕ) → Right m e (bodies_of (length bodies)) t → (d c : ℕ) → 1 ≤ d → (h : Held) → value_from e t d c ≡ Some h → BodyWithin bodies h.value
held_within m e bodies t ok d c low h q =
    let f = value_facts e t d c h q in
    rw f.value (own_within m e bodies t ok (source_from e t d c) (from_own m e (bodies_of (length bodies)) t ok d c low f.held))

-- where the domain at depth d itself holds the cell, with an entry at the end of its chain, the search ends there
pub value_here : (e : ℕ) (t : List ℕ) (d c : ℕ) → d ≤ live t → source_in e t d c < e → value_from e t d c ≡ Some (held_by d (word1 e t (source_in e t d c)) (word2 e t (source_in e t d c)))
value_here e t d c l s =
    let at = at_here e t d c l s in
    value_some e t d c (held_here e t d c l s) ∙ (λ j. Some (held_by (at j) (word1 e t (source_in e t (at j) c)) (word2 e t (source_in e t (at j) c))))
