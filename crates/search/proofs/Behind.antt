-- The value behind the first holder of a cell: what the search's answer says, what the code cites, and that a table that is right has it.
-- Assumes nothing.
use Rattle.std.proofs.Common.{◌≡◌, ℕ, suc, ◌+◌, ◌-◌, ◌<◌, ◌≤◌, Bool, true, false, not, List, sym, ap, ◌∙◌, subst, not-suc-le-zero, arith, ltb-false, ltb-true, lt-ltb}
use borrow.Author.Tests.{not-true, not-false}
use Rattle.words.specs.Scan.{first}
use Rattle.words.proofs.Scan.{first_at_lem, first_hit, by_bool, by_le, is_false, not_lt}
use Rattle.table.specs.Entry.{live, word1, word2, is_via, via_of, is_pattern, find_in, holds_in}
use Rattle.table.proofs.Entry.{holds_true, holds_found, via_some, via_zero, pattern_zero}
use Rattle.table.proofs.Rule.{Rule}
use Rattle.search.specs.Search.{steps_in, held_from, source_in, source_from, HasSource}
use Rattle.search.proofs.Value.{Own, ends_in_own, body_fits_lem, source_none_at, source_own_at, source_via_at, source_zero}

module _ (e : ℕ) (t : List ℕ) (d c : ℕ) where
  -- the first holder is one of the live domains, and it holds the cell
  pub steps_within : held_from e t d c ≡ true → d + steps_in e t d c ≤ live t
  steps_within h = omega (arith, ltb-true (steps_in e t d c) (suc (live t) - d) h)

  pub steps_past : held_from e t d c ≡ false → live t < d + steps_in e t d c
  steps_past h = omega (arith, ltb-false (steps_in e t d c) (suc (live t) - d) h)

  pub steps_hold : held_from e t d c ≡ true → holds_in e t (d + steps_in e t d c) c ≡ true
  unfolding steps_in
  steps_hold h = first_hit (suc (live t) - d) (λ k. holds_in e t (d + k) c) (ltb-true (first (suc (live t) - d) (λ k. holds_in e t (d + k) c)) (suc (live t) - d) h)

-- ---- in a table that is right the chain of the first holder ends in an entry, and if that is a copy its body fits

module _ (m e b : ℕ) (t : List ℕ) (ok : Rule m e b t) (d c : ℕ) (low : 1 ≤ d) where
  pub from_own : held_from e t d c ≡ true → Own e t (source_from e t d c)
  from_own h = ends_in_own m e b t ok (d + steps_in e t d c) c (omega arith) (holds_found e t (d + steps_in e t d c) c (steps_hold e t d c h))

  pub from_slot : HasSource e t d c
  from_slot h = (from_own h).slot

  pub from_fits : held_from e t d c ≡ true → is_pattern (word1 e t (source_from e t d c)) ≡ false → word2 e t (source_from e t d c) < b
  from_fits h p =
      let o = from_own h in
      body_fits_lem m e b t ok (source_from e t d c)
      (record { slot = o.slot; used = o.used; copy = o.own; plain = pattern_zero (word1 e t (source_from e t d c)) p })

-- ---- where the domain at depth d itself holds the cell, with an entry at the end of its chain, the search ends there

module _ (e : ℕ) (t : List ℕ) (d c : ℕ) (l : d ≤ live t) (s : source_in e t d c < e) where
  pub source_deep : 1 ≤ d
  source_deep =
      by_le d 0
      (λ z. absurd (not_lt (source_in e t d c) e s (subst (λ (y : ℕ). e ≤ y) (sym (source_zero e t d c z)) (omega arith))))
      (λ z. z)

  pub source_holds : holds_in e t d c ≡ true
  source_holds =
      by_le e (find_in e t d c)
      (λ z. absurd (not_lt (source_in e t d c) e s (subst (λ (y : ℕ). e ≤ y) (sym (source_none_at e t d c source_deep z)) (omega arith))))
      (holds_true e t d c)

  steps_here : steps_in e t d c ≡ 0
  unfolding steps_in
  steps_here =
      let here : d + 0 ≡ d = omega arith in
      first_at_lem (suc (live t) - d) (λ k. holds_in e t (d + k) c) 0 (omega arith) (λ j z. absurd (not-suc-le-zero z)) (λ _. rw here source_holds)

  pub at_here : d + steps_in e t d c ≡ d
  at_here = omega (arith, steps_here)

  pub held_here : held_from e t d c ≡ true
  held_here = lt-ltb (steps_in e t d c) (suc (live t) - d) (omega (arith, steps_here))

  pub source_here : HasSource e t d c
  source_here h = subst (λ (y : ℕ). source_in e t y c < e) (sym at_here) s
