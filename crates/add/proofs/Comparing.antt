-- The value of a cell that a domain holds, by the entry that has it, and what the cell tells of it. Assumes nothing.
use Prim.Native.Nat.{ℕ, ◌+◌, ◌≤◌}
use mathlib.Core.Bool.{true, false}
use mathlib.Core.List.{List}
use mathlib.Core.Path.{◌≡◌, sym, ap, ◌∙◌}
use native.Mathlib.Omega.{arith}
use lib.ListN.{length}
use Rattle.words.specs.Layout.{cell_at, cell_size}
use Rattle.words.specs.Cells.{cell_bytes}
use Rattle.words.proofs.Scan.{by_bool}
use Rattle.words.proofs.Cells.{first_cell}
use Rattle.patterns.specs.Pattern.{pattern}
use Rattle.patterns.proofs.Bytes.{pattern_length}
use Rattle.table.specs.Entry.{word1, word2, is_pattern}
use Rattle.search.specs.Search.{source_in, value_in, ruled_in}
use Rattle.search.specs.Holders.{value_of}
use Rattle.search.specs.declared.holders.Value.TheVariants.{Body, Rule}
use Rattle.add.specs.Walking.{Source}

module _ (w v k : ℕ) where
  body_not_rule : Body k ≡ Rule v → ⊥
  body_not_rule q = let z : ◌≡◌ {A = ℕ} 0 1 = cc in omega arith

  rule_not_body : Rule k ≡ Body v → ⊥
  rule_not_body q = let z : ◌≡◌ {A = ℕ} 0 1 = cc in omega arith

  same_body : Body k ≡ Body v → k ≡ v
  same_body q = cc

  same_rule : Rule k ≡ Rule v → k ≡ v
  same_rule q = cc

  -- by its words an entry has a body, or a rule
  own_body : Body k ≡ value_of w v → (is_pattern w ≡ false) × (k ≡ v)
  own_body q = by_bool (is_pattern w) (λ p. absurd (body_not_rule (q ∙ rw p))) (λ p. (p, same_body (q ∙ rw p)))

  own_rule : Rule k ≡ value_of w v → (is_pattern w ≡ true) × (k ≡ v)
  own_rule q = by_bool (is_pattern w) (λ p. (p, same_rule (q ∙ rw p))) (λ p. absurd (rule_not_body (q ∙ rw p)))

module _ (bodies : List ℕ) (e : ℕ) (t : List ℕ) (d c i : ℕ) (at : i ≡ source_in e t d c) (k : ℕ) where
  -- a body lies in the bodies, and is what is held
  module _ (q : Body k ≡ value_of (word1 e t i) (word2 e t i)) where
    facts : (is_pattern (word1 e t (source_in e t d c)) ≡ false) × (k ≡ word2 e t (source_in e t d c))
    facts = rw at at (own_body (word1 e t i) (word2 e t i) k q)

    pub body_within : Source e t bodies d c → cell_at k + cell_size ≤ length bodies
    body_within s = omega (arith, s.fits facts.0, facts.1)

    pub body_value : cell_bytes bodies k ≡ value_in e t bodies d c
    unfolding value_in
    body_value = rw facts.0 (ap (cell_bytes bodies) facts.1)

    pub body_plain : false ≡ ruled_in e t d c
    body_plain = sym facts.0

  -- a rule's bytes are
  module _ (q : Rule k ≡ value_of (word1 e t i) (word2 e t i)) where
    rule_facts : (is_pattern (word1 e t (source_in e t d c)) ≡ true) × (k ≡ word2 e t (source_in e t d c))
    rule_facts = rw at at (own_rule (word1 e t i) (word2 e t i) k q)

    pub rule_value : (bytes : List ℕ) → bytes ≡ pattern k → cell_bytes bytes 0 ≡ value_in e t bodies d c
    unfolding value_in
    rule_value bytes p =
        let long : length bytes ≡ 64 = ap length p ∙ pattern_length k in
        first_cell bytes long ∙ p ∙ rw rule_facts.0 (ap pattern rule_facts.1)

    pub rule_ruled : true ≡ ruled_in e t d c
    rule_ruled = sym rule_facts.0
