-- A right table has one entry for each depth and cell, and it is the one that is found. Assumes nothing.
use Prim.Native.Nat.{ℕ, ◌≤◌, ◌<◌}
use mathlib.Core.Bool.{true}
use mathlib.Core.List.{List}
use mathlib.Core.Path.{◌≡◌, refl, sym, ◌∙◌}
use native.Mathlib.Omega.{arith}
use borrow.Author.Tests.{eqb-true, eqb-false, ltb-true, ltb-false}
use lib.Dec.{ltb, eqb}
use Rattle.words.proofs.Scan.{by_bool}
use Rattle.table.specs.Entry.{word1, names, depth_of, cell_of, find_in}
use Rattle.table.proofs.Entry.{find_hit, find_some, names_both, names_make}
use Rattle.table.proofs.Rule.{Rule}

module _ (m e b : ℕ) (t : List ℕ) (ok : Rule m e b t) where
  pub only_one : (i j d c : ℕ) → 1 ≤ d → i < e → j < e → names d c (word1 e t i) ≡ true → names d c (word1 e t j) ≡ true → i ≡ j
  only_one i j d c low li lj p q =
      let ni = names_both e t d c (word1 e t i) p in
      let nj = names_both e t d c (word1 e t j) q in
      by_bool (eqb i j) (λ z. eqb-true i j z)
      (λ z.
      by_bool (ltb i j)
      (λ y. absurd ((ok.apart_from j lj i (ltb-true i j y) (λ w. omega (arith, w, nj.0)) (λ w. omega (arith, w, ni.0))).cells (ni.0 ∙ sym nj.0) (ni.1 ∙ sym nj.1)))
      (λ y. absurd ((ok.apart_from i li j (omega (arith, ltb-false i j y, eqb-false i j z)) (λ w. omega (arith, w, ni.0)) (λ w. omega (arith, w, nj.0))).cells (nj.0 ∙ sym ni.0) (nj.1 ∙ sym ni.1))))

  -- an entry in use is the one that is found
  pub find_self : (i : ℕ) → i < e → (word1 e t i ≡ 0 → ⊥) → find_in e t (depth_of (word1 e t i)) (cell_of (word1 e t i)) ≡ i
  find_self i l u =
      let d = depth_of (word1 e t i) in
      let c = cell_of (word1 e t i) in
      let le = find_some e t d c i l refl refl in
      let h = find_hit e t d c (omega arith) in
      only_one (find_in e t d c) i d c (ok.used i l u).low (omega arith) l (names_make e t d c _ h.0 h.1) (names_make e t d c _ refl refl)
