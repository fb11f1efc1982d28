-- Which domain a handle names. Assumes nothing.
use Rattle.std.proofs.Common.{◌≡◌, ℕ, ◌+◌, ◌-◌, ◌<◌, ◌≤◌, false, not, eqb, ltb, List, Option, Some, None, sym, ◌∙◌, add-one, arith, ltb-true, le-ltb, lt-ltb, eq-eqb, ne_eqb, eqb-true}
use Rattle.std.specs.Bool.{then_some}
use borrow.Author.Tests.{eqb-false}
use Rattle.words.proofs.Scan.{first_at_lem, by_bool, not_lt}
use Rattle.table.specs.Entry.{live, handle}
use Rattle.search.specs.Domain.{place_of, depth_named, Named}
use Rattle.search.proofs.From.{Failing, FirstOf}

-- ---- the depth that a handle names
module _ (t : List ℕ) (h : ℕ) where
  pub named_innermost : h ≡ 0 → depth_named t h ≡ live t
  unfolding depth_named
  named_innermost z = rw (eq-eqb h 0 z)

  pub named_at : (h ≡ 0 → ⊥) → (k : ℕ) → k < live t → ((j : ℕ) → j < k → eqb (handle t j) h ≡ false) → handle t k ≡ h → depth_named t h ≡ k + 1
  unfolding depth_named
  named_at u k l none here =
      let at : place_of t h ≡ k = first_at_lem (live t) (λ j. eqb (handle t j) h) k (omega arith) none (λ _. eq-eqb _ _ here) in
      rw (ne_eqb h 0 u, at, lt-ltb k (live t) l) (sym (add-one k))

  pub named_none : (h ≡ 0 → ⊥) → ((j : ℕ) → j < live t → eqb (handle t j) h ≡ false) → depth_named t h ≡ 0
  unfolding depth_named
  named_none u none =
      let at : place_of t h ≡ live t = first_at_lem (live t) (λ j. eqb (handle t j) h) (live t) (omega arith) none (λ l. absurd (not_lt _ _ l (omega arith))) in
      rw (ne_eqb h 0 u, at, le-ltb (live t) (live t) (omega arith))

  pub depth_small : depth_named t h ≤ live t
  unfolding depth_named
  depth_small =
      by_bool (eqb h 0) (λ z. rw z (omega arith))
      (λ z.
      by_bool (ltb (place_of t h) (live t))
      (λ y. rw (z, y) (ltb-true (place_of t h) (live t) y))
      (λ y. rw (z, y) (omega arith)))

  -- the search's two answers: the innermost domain, if there is one, and the first depth at which a domain has the handle
  pub named_live : h ≡ 0 → Named t h (then_some (not (eqb (live t) 0)) (live t))
  named_live z =
      let is = named_innermost z in
      by_bool (eqb (live t) 0)
      (λ y. rw y (is ∙ eqb-true (live t) 0 y))
      (λ y. rw y (omega (arith, eqb-false (live t) 0 y), sym is))

  lower : (n : ℕ) → Failing (λ d. eqb (handle t (d - 1)) h) 1 n → (j : ℕ) → j + 1 < n → eqb (handle t j) h ≡ false
  lower n none j l = let back : j + 1 - 1 ≡ j = omega arith in rw back at (none (j + 1) (omega arith) l)

  pub named_first : (h ≡ 0 → ⊥) → (r : Option ℕ) → FirstOf (λ d. eqb (handle t (d - 1)) h) 1 (live t + 1) r → Named t h r
  named_first u None none = named_none u (λ j l. lower (live t + 1) none j (omega arith))
  named_first u (Some d) f =
      let back : d - 1 + 1 ≡ d = omega (arith, f.0) in
      (f.0, sym (named_at u (d - 1) (omega (arith, f.0, f.1)) (λ j l. lower d f.3 j (omega (arith, f.0, l))) (eqb-true _ _ f.2) ∙ back))
