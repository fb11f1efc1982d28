-- Laws of the value of a held cell: the copy or the rule behind a via parent chain, and its bytes. Assumes nothing.
use Rattle.std.proofs.Common.{◌≡◌, ℕ, zero, suc, ◌-◌, ◌<◌, ◌≤◌, eqb, List, sym, refl, ap, ◌∙◌, not-suc-le-zero, arith, eq-eqb, ne_eqb, eqb-true}
use borrow.Author.Tests.{eqb-false}
use Rattle.words.specs.Cells.{cell_bytes}
use Rattle.words.proofs.Scan.{by_bool}
use Rattle.table.specs.Entry.{word1, word2, depth_of, cell_of, via_of, pattern_of, is_pattern, parent, find_in, holds_in}
use Rattle.table.proofs.Entry.{find_hit, holds_true, holds_false, holds_found, pattern_zero}
use Rattle.table.proofs.Rule.{Rule}
use Rattle.search.specs.Search.{source_in, own_value, value_in}

-- ---- one domain further out at a time
module _ (e : ℕ) (t : List ℕ) where
  pub source_none : (d c : ℕ) → e ≤ find_in e t (suc d) c → source_in e t (suc d) c ≡ e
  unfolding source_in
  source_none d c h = rw (holds_false e t (suc d) c h)

  pub source_own : (d c : ℕ) → find_in e t (suc d) c < e → via_of (word1 e t (find_in e t (suc d) c)) ≡ 0 → source_in e t (suc d) c ≡ find_in e t (suc d) c
  unfolding source_in
  source_own d c h v = rw (holds_true e t (suc d) c h, eq-eqb _ _ v)

  pub source_via : (d c : ℕ) → find_in e t (suc d) c < e → (via_of (word1 e t (find_in e t (suc d) c)) ≡ 0 → ⊥) → source_in e t (suc d) c ≡ source_in e t d c
  unfolding source_in
  source_via d c h v = rw (holds_true e t (suc d) c h, ne_eqb _ _ v)

  -- the same of a depth above 0 and the entry found there
  pub source_none_at : (d c : ℕ) → 0 < d → e ≤ find_in e t d c → source_in e t d c ≡ e
  source_none_at zero c l h = absurd (not-suc-le-zero l)
  source_none_at (suc d) c l h = source_none d c h

  pub source_own_at : (d c i : ℕ) → 0 < d → i ≡ find_in e t d c → i < e → via_of (word1 e t i) ≡ 0 → source_in e t d c ≡ i
  source_own_at zero c i l q h v = absurd (not-suc-le-zero l)
  source_own_at (suc d) c i l q h v = source_own d c (rw q at h) (rw q at v) ∙ sym q

  pub source_via_at : (d c i : ℕ) → 0 < d → i ≡ find_in e t d c → i < e → (via_of (word1 e t i) ≡ 0 → ⊥) → source_in e t d c ≡ source_in e t (d - 1) c
  source_via_at zero c i l q h v = absurd (not-suc-le-zero l)
  source_via_at (suc d) c i l q h v = source_via d c (rw q at h) (rw q at v) ∙ ap (λ (x : ℕ). source_in e t x c) (omega arith)

  pub source_zero : (d c : ℕ) → d ≤ 0 → source_in e t d c ≡ e
  unfolding source_in
  source_zero zero c l = refl
  source_zero (suc d) c l = absurd (not-suc-le-zero l)

  -- the value of a copy is its body, and of a rule its bytes; of via parent, what the next domain out holds
  pub value_own : (bodies : List ℕ) (d c : ℕ) → find_in e t (suc d) c < e → via_of (word1 e t (find_in e t (suc d) c)) ≡ 0
      → value_in e t bodies (suc d) c ≡ own_value bodies (word1 e t (find_in e t (suc d) c)) (word2 e t (find_in e t (suc d) c))
  unfolding value_in
  value_own bodies d c h v = rw (source_own d c h v)

  pub value_via : (bodies : List ℕ) (d c : ℕ) → find_in e t (suc d) c < e → (via_of (word1 e t (find_in e t (suc d) c)) ≡ 0 → ⊥) → value_in e t bodies (suc d) c ≡ value_in e t bodies d c
  unfolding value_in
  value_via bodies d c h v = rw (source_via d c h v)

-- ---- an entry in use with a value of its own: a copy, or one that follows a rule
pub record Own (e : ℕ) (t : List ℕ) (i : ℕ) : Type 0 where
  pub slot : i < e
  pub used : word1 e t i ≡ 0 → ⊥
  pub own : via_of (word1 e t i) ≡ 0

pub record Copy (e : ℕ) (t : List ℕ) (i : ℕ) : Type 0 where
  pub slot : i < e
  pub used : word1 e t i ≡ 0 → ⊥
  pub copy : via_of (word1 e t i) ≡ 0
  pub plain : pattern_of (word1 e t i) ≡ 0

-- ---- in a table that is right there is one behind every held cell
module _ (m e b : ℕ) (t : List ℕ) (ok : Rule m e b t) where
  -- the parent of a via parent entry holds the cell, at a depth that there is, and by no rule
  record Outer (d c : ℕ) : Type 0 where
    deep : 1 ≤ d
    held : find_in e t d c < e
    plain : pattern_of (word1 e t (find_in e t d c)) ≡ 0

  outer_of : (d c : ℕ) → find_in e t (suc d) c < e → (via_of (word1 e t (find_in e t (suc d) c)) ≡ 0 → ⊥) → Outer d c
  outer_of d c h v =
      let i = find_in e t (suc d) c in
      let hit = find_hit e t (suc d) c h in
      let u = ok.used i h (λ w. v (rw w)) in
      let out : parent (depth_of (word1 e t i)) ≡ d = omega (arith, hit.0) in
      let there : find_in e t (parent (depth_of (word1 e t i))) (cell_of (word1 e t i)) ≡ find_in e t d c = λ j. find_in e t (out j) (hit.1 j) in
      record { deep = omega (arith, hit.0, u.inner v); held = rw there at (ok.outer i h v); plain = rw there at (ok.outer_plain i h v) }

  pub ends_in_own : (d c : ℕ) → 1 ≤ d → find_in e t d c < e → Own e t (source_in e t d c)
  ends_in_own zero c l h = absurd (not-suc-le-zero l)
  ends_in_own (suc d) c l h =
      let i = find_in e t (suc d) c in
      let hit = find_hit e t (suc d) c h in
      by_bool (eqb (via_of (word1 e t i)) 0)
      (λ z.
      rw (source_own e t d c h (eqb-true _ _ z))
      (record { slot = h; used = λ w. omega (arith, hit.0, w); own = eqb-true _ _ z }))
      (λ z.
      let v = eqb-false (via_of (word1 e t i)) 0 z in
      let o = outer_of d c h v in
      rw (source_via e t d c h v) (ends_in_own d c o.deep o.held))

  -- "in a table via parent never rests on a rule": the value of a cell comes from a rule where it is held by that rule, and nowhere else
  pub source_rule : (d c : ℕ) → 1 ≤ d → find_in e t d c < e → pattern_of (word1 e t (source_in e t d c)) ≡ pattern_of (word1 e t (find_in e t d c))
  source_rule zero c l h = absurd (not-suc-le-zero l)
  source_rule (suc d) c l h =
      let i = find_in e t (suc d) c in
      by_bool (eqb (via_of (word1 e t i)) 0)
      (λ z. rw (source_own e t d c h (eqb-true _ _ z)))
      (λ z.
      let v = eqb-false (via_of (word1 e t i)) 0 z in
      let o = outer_of d c h v in
      rw (source_via e t d c h v) (source_rule d c o.deep o.held ∙ o.plain ∙ sym ((ok.used i h (λ w. v (rw w))).plain v)))

  pub body_fits_lem : (i : ℕ) → Copy e t i → word2 e t i < b
  body_fits_lem i k = (ok.used i k.slot k.used).copy k.copy k.plain

-- ---- what reads the same from a depth outwards has the same value there
module _ (e : ℕ) (t u : List ℕ) (c : ℕ) where
  -- the look-ups of the cell are the same, and what they find is of the same kind
  pub record SameReads (d : ℕ) : Type 0 where
    pub finds : (x : ℕ) → 1 ≤ x → x ≤ d → find_in e u x c ≡ find_in e t x c
    pub kinds : (x : ℕ) → 1 ≤ x → x ≤ d → find_in e t x c < e → via_of (word1 e u (find_in e t x c)) ≡ via_of (word1 e t (find_in e t x c))

  outer_reads : (d : ℕ) → SameReads (suc d) → SameReads d
  outer_reads d h = record { finds = λ x l k. h.finds x l (omega arith); kinds = λ x l k. h.kinds x l (omega arith) }

  pub source_ext : (d : ℕ) → SameReads d → source_in e u d c ≡ source_in e t d c
  unfolding source_in holds_in
  source_ext zero h = refl
  source_ext (suc d) h =
      rw (h.finds (suc d) (omega arith) (omega arith), source_ext d (outer_reads d h))
      (by_bool (holds_in e t (suc d) c)
      (λ p. rw (p, h.kinds (suc d) (omega arith) (omega arith) (holds_found e t (suc d) c p)))
      (λ p. rw p))

  -- in a table that is right: where every entry with a value of its own keeps its words, and every body in use its bytes
  pub value_kept : (m b : ℕ) → Rule m e b t → (old new : List ℕ)
      → ((i : ℕ) → Own e t i → pattern_of (word1 e u i) ≡ pattern_of (word1 e t i))
      → ((i : ℕ) → Own e t i → word2 e u i ≡ word2 e t i)
      → ((i : ℕ) → Copy e t i → cell_bytes new (word2 e t i) ≡ cell_bytes old (word2 e t i))
      → (d : ℕ) → 1 ≤ d → find_in e t d c < e → SameReads d → value_in e u new d c ≡ value_in e t old d c
  unfolding value_in
  value_kept m b ok old new p w s d l held h =
      let i = source_in e t d c in
      let k = ends_in_own m e b t ok d c l held in
      by_bool (is_pattern (word1 e t i))
      (λ z. rw (source_ext d h, w i k, p i k, z))
      (λ z. rw (source_ext d h, w i k, p i k, z) (s i (record { slot = k.slot; used = k.used; copy = k.own; plain = pattern_zero (word1 e t i) z })))
