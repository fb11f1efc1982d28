-- Questions 5 and 6, which several calls are put. Assumes nothing.
use Prim.Native.Nat.{ℕ, ◌≤◌}
use mathlib.Core.Bool.{Bool, true, false}
use mathlib.Core.List.{List}
use mathlib.Core.Path.{◌≡◌, refl, sym, ◌∙◌}
use native.Mathlib.Omega.{arith}
use borrow.Author.Tests.{ltb-true, eqb-true}
use lib.Dec.{ltb, eqb}
use Rattle.table.specs.Entry.{live}
use Rattle.search.specs.Domain.{depth_named}
use Rattle.model.specs.Answer.{ask, or_else}
use Rattle.store.specs.Checks.{ask_innermost_in}
use Rattle.store.proofs.Checks.{ask_yes, ask_rest, or_else_go, or_else_stop}

-- ---- 5 and 6

two_asked : (a b : Bool) (rest : ℕ) → ask a 5 (ask b 6 rest) ≡ or_else (ask a 5 (ask b 6 0)) rest
two_asked true true rest = refl
two_asked true false rest = refl
two_asked false b rest = refl

module _ (t : List ℕ) (h : ℕ) where
  -- the two by themselves, and then the rest
  pub innermost_no : (r rest : ℕ) → r ≡ ask_innermost_in t h 0 → (r ≡ 0 → ⊥) → r ≡ ask_innermost_in t h rest
  innermost_no r rest e ne =
      e ∙ sym (or_else_stop _ rest (λ z. ne (e ∙ z))) ∙ sym (two_asked (ltb 0 (depth_named t h)) (eqb (depth_named t h) (live t)) rest)

  pub innermost_then : (r rest : ℕ) → r ≡ ask_innermost_in t h 0 → r ≡ 0 → rest ≡ ask_innermost_in t h rest
  innermost_then r rest e z =
      sym (or_else_go _ rest (sym e ∙ z)) ∙ sym (two_asked (ltb 0 (depth_named t h)) (eqb (depth_named t h) (live t)) rest)

  -- what they tell
  pub innermost_named : (r : ℕ) → r ≡ ask_innermost_in t h 0 → r ≡ 0 → (depth_named t h ≡ live t) × (1 ≤ live t)
  innermost_named r e z =
      let lives = ltb-true 0 (depth_named t h) (ask_yes (ltb 0 (depth_named t h)) 5 _ (omega arith) (sym e ∙ z)) in
      let inner = eqb-true (depth_named t h) (live t) (ask_yes (eqb (depth_named t h) (live t)) 6 0 (omega arith) (ask_rest (ltb 0 (depth_named t h)) 5 _ (omega arith) (sym e ∙ z))) in
      (inner, omega (arith, lives, inner))
