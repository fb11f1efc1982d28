-- The first holder of a cell from a domain inwards: what the model finds in the state of a table is what the search over the table's words finds.
-- Assumes nothing.
use Prim.Native.Nat.{ℕ, suc, ◌+◌, ◌-◌, ◌≤◌, ◌<◌}
use mathlib.Core.Bool.{true, false, cond}
use mathlib.Core.List.{List}
use mathlib.Core.Option.{none, some}
use mathlib.Core.Path.{◌≡◌, refl, sym, ap, ◌∙◌}
use native.Mathlib.Omega.{arith}
use borrow.Author.Tests.{eqb-true, eqb-false}
use lib.Dec.{eqb}
use lib.ListN.{length}
use Rattle.words.specs.Layout.{cells_of, bodies_of, slots_of}
use Rattle.words.specs.Scan.{first}
use Rattle.words.proofs.Scan.{by_bool, first_ext}
use Rattle.table.specs.Entry.{live, word1, word2, via_of, is_pattern, find_in, holds_in}
use Rattle.table.proofs.Entry.{find_hit, holds_found, pattern_none}
use Rattle.table.proofs.Rule.{Rule}
use Rattle.search.specs.Search.{steps_in, held_from, source_in, source_from, value_in, bytes_from}
use Rattle.search.proofs.Value.{source_own_at, source_rule}
use Rattle.search.proofs.Behind.{steps_within, steps_past, steps_hold}
use Rattle.model.specs.State.{State}
use Rattle.model.specs.Holdings.{holding_at, is_held, held_rule, value_or}
use Rattle.model.specs.Restore.{outermost}
use Rattle.model.proofs.Views.{outermost_search}
use Rattle.store.specs.Outcome.{buffers}
use Rattle.store.specs.Checks.{store_check, lent}
use Rattle.store.specs.State.{held_in, state_in, state_of}
use Rattle.store.proofs.Domains.{domains_count, state_holding, state_past, held_holds}
use Rattle.store.proofs.Raw.{raw_state, check_rule}

-- ---- of the words of any table

module _ (e : ℕ) (t : List ℕ) (d c : ℕ) where
  module _ (bodies : List ℕ) (low : 1 ≤ d) where
    abbrev s : State
    s = state_in e t bodies

    held_at : (k : ℕ) → k < suc (live t) - d → is_held (holding_at s.domains (d + k) c) ≡ holds_in e t (d + k) c
    held_at k l = ap is_held (state_holding e t bodies (d + k) c (omega arith) (omega arith)) ∙ held_holds e t bodies (d + k) c

    same_steps : first (suc (length s.domains) - d) (λ k. is_held (holding_at s.domains (d + k) c)) ≡ steps_in e t d c
    unfolding steps_in
    same_steps =
        ap (λ (n : ℕ). first (suc n - d) (λ k. is_held (holding_at s.domains (d + k) c))) (domains_count e t bodies)
        ∙ first_ext (suc (live t) - d) (λ k. is_held (holding_at s.domains (d + k) c)) (λ k. holds_in e t (d + k) c) held_at

    outermost_at : outermost d c s ≡ holding_at s.domains (d + steps_in e t d c) c
    outermost_at = outermost_search d c s low ∙ ap (λ (k : ℕ). holding_at s.domains (d + k) c) same_steps

    -- what the first holder holds
    pub outermost_found : held_from e t d c ≡ true → outermost d c (state_in e t bodies) ≡ held_in e t bodies (d + steps_in e t d c) c
    outermost_found h = outermost_at ∙ state_holding e t bodies (d + steps_in e t d c) c (omega arith) (steps_within e t d c h)

    pub outermost_none : held_from e t d c ≡ false → outermost d c (state_in e t bodies) ≡ none
    outermost_none h = outermost_at ∙ state_past e t bodies (d + steps_in e t d c) c (steps_past e t d c h)

    -- is there one?
    pub outermost_held : is_held (outermost d c (state_in e t bodies)) ≡ held_from e t d c
    outermost_held =
        by_bool (held_from e t d c)
        (λ h. ap is_held (outermost_found h) ∙ held_holds e t bodies (d + steps_in e t d c) c ∙ steps_hold e t d c h ∙ sym h)
        (λ h. ap is_held (outermost_none h) ∙ sym h)

    -- its value
    held_value : (v : List ℕ) (x : ℕ) → holds_in e t x c ≡ true → value_or v (held_in e t bodies x c) ≡ value_in e t bodies x c
    unfolding held_in
    held_value v x h = rw h

    pub outermost_value : (v : List ℕ) → held_from e t d c ≡ true → value_or v (outermost d c (state_in e t bodies)) ≡ bytes_from e t bodies d c
    outermost_value v h = ap (value_or v) (outermost_found h) ∙ held_value v (d + steps_in e t d c) (steps_hold e t d c h)

    pub outermost_other : (v : List ℕ) → held_from e t d c ≡ false → value_or v (outermost d c (state_in e t bodies)) ≡ v
    outermost_other v h = ap (value_or v) (outermost_none h)

    pub outermost_bytes : (v : List ℕ) → value_or v (outermost d c (state_in e t bodies)) ≡ cond (held_from e t d c) (bytes_from e t bodies d c) v
    outermost_bytes v = by_bool (held_from e t d c) (λ h. rw h (outermost_value v h)) (λ h. rw h (outermost_other v h))

-- ---- of a right table: the rule that the first holder follows, if it follows one

module _ (m e b : ℕ) (t : List ℕ) (ok : Rule m e b t) (bodies : List ℕ) where
  -- what the domain at depth x holds by a rule: a via parent entry follows none, and rests on none
  pub held_rule_lem : (x c : ℕ) → 1 ≤ x → holds_in e t x c ≡ true → held_rule (held_in e t bodies x c) ≡ cond (is_pattern (word1 e t (source_in e t x c))) (some (word2 e t (source_in e t x c))) none
  unfolding held_in
  held_rule_lem x c low h =
      let l = holds_found e t x c h in
      let i = find_in e t x c in
      let same = source_rule m e b t ok x c low l in
      by_bool (eqb (via_of (word1 e t i)) 0)
      (λ z.
      let v = eqb-true (via_of (word1 e t i)) 0 z in
      let own = source_own_at e t x c i (omega arith) refl l v in
      by_bool (is_pattern (word1 e t i)) (λ p. rw (h, v, own, p)) (λ p. rw (h, v, own, p)))
      (λ z.
      let v = eqb-false (via_of (word1 e t i)) 0 z in
      let hit = find_hit e t x c l in
      let plain = (ok.used i l (λ w. omega (arith, w, hit.0, low))).plain v in
      let one : via_of (word1 e t i) ≡ 1 = omega (arith, v) in
      rw (h, one, pattern_none (word1 e t (source_in e t x c)) (same ∙ plain)))

  pub outermost_rule : (d c : ℕ) → 1 ≤ d → held_from e t d c ≡ true
      → held_rule (outermost d c (state_in e t bodies)) ≡ cond (is_pattern (word1 e t (source_from e t d c))) (some (word2 e t (source_from e t d c))) none
  outermost_rule d c low h =
      ap held_rule (outermost_found e t d c bodies low h) ∙ held_rule_lem (d + steps_in e t d c) c (omega arith) (steps_hold e t d c h)

-- ---- of lent buffers that pass questions 1 to 4, by the words of the table as it is lent

module _ (memory bodies t : List ℕ) (yes : store_check (lent (length memory) (length bodies) t) ≡ 0) (d c : ℕ) (low : 1 ≤ d) where
  pub store_held : is_held (outermost d c (state_of (buffers memory bodies t))) ≡ held_from (slots_of (length t)) t d c
  store_held = ap (λ (s : State). is_held (outermost d c s)) (raw_state memory bodies t yes) ∙ outermost_held (slots_of (length t)) t d c bodies low

  pub store_bytes : (v : List ℕ) → value_or v (outermost d c (state_of (buffers memory bodies t)))
      ≡ cond (held_from (slots_of (length t)) t d c) (bytes_from (slots_of (length t)) t bodies d c) v
  store_bytes v = ap (λ (s : State). value_or v (outermost d c s)) (raw_state memory bodies t yes) ∙ outermost_bytes (slots_of (length t)) t d c bodies low v

  pub store_rule : held_from (slots_of (length t)) t d c ≡ true → held_rule (outermost d c (state_of (buffers memory bodies t)))
      ≡ cond (is_pattern (word1 (slots_of (length t)) t (source_from (slots_of (length t)) t d c))) (some (word2 (slots_of (length t)) t (source_from (slots_of (length t)) t d c))) none
  store_rule h =
      ap (λ (s : State). held_rule (outermost d c s)) (raw_state memory bodies t yes)
      ∙ outermost_rule (cells_of (length memory)) (slots_of (length t)) (bodies_of (length bodies)) t (check_rule (length memory) (length bodies) t yes) bodies d c low h

  pub store_none : held_from (slots_of (length t)) t d c ≡ false → outermost d c (state_of (buffers memory bodies t)) ≡ none
  store_none h = ap (outermost d c) (raw_state memory bodies t yes) ∙ outermost_none (slots_of (length t)) t d c bodies low h
