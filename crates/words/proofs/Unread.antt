-- What the effective table does not read: unused pairs, and the words that pending pairs replace. Assumes nothing.
use Prim.Native.Nat.{ℕ, zero, suc, ◌+◌, ◌*◌, ◌≤◌, ◌<◌}
use mathlib.Core.Bool.{true}
use mathlib.Core.List.{List, [], ◌∷◌}
use mathlib.Core.Path.{◌≡◌, sym, ap, ◌∙◌}
use native.Mathlib.Nat.{not-suc-le-zero, le_of_suc-le-suc}
use native.Mathlib.Omega.{arith}
use borrow.Author.Tests.{eqb-true, eqb-false}
use lib.Dec.{eqb}
use lib.ListN.{length, get_or, set, take}
use lib.Seq.{get_or-set_other, take-set-le, set_comm, set-set}
use Rattle.words.specs.Layout.{pending_at}
use Rattle.words.specs.Stores.{Store, ◌≔◌, store, stores}
use Rattle.words.specs.Journal.{pair_at, pairs, pending, names_ok, effective}
use Rattle.words.proofs.Scan.{by_bool}
use Rattle.words.proofs.Plans.{Each, each_map, stores_set, tab_below, get_or_tab}
use Rattle.words.proofs.Pairs.{pairs_same, length_pairs}
use Rattle.words.proofs.Names.{names_below}

-- a word that a plan stores anyway may have held anything before
stores_over : (ps : List Store) (t : List ℕ) (w v j : ℕ) → j < length ps → (get_or ps j (0 ≔ 0)).at ≡ w → stores ps (set t w v) ≡ stores ps t
stores_over [] t w v j l e = absurd (not-suc-le-zero l)
stores_over (p ∷ ps) t w v zero l e =
    ap (λ (x : ℕ). stores ps (set (set t x v) p.at p.val)) (sym e)
    ∙ ap (stores ps) (set-set t p.at v p.val)
stores_over (p ∷ ps) t w v (suc j) l e =
    by_bool (eqb p.at w)
    (λ z.
    let q : p.at ≡ w = eqb-true p.at w z in
    ap (λ (x : ℕ). stores ps (set (set t x v) p.at p.val)) (sym q)
    ∙ ap (stores ps) (set-set t p.at v p.val))
    (λ z.
    let ne = eqb-false p.at w z in
    ap (stores ps) (set_comm t w p.at v p.val (λ q. ne (sym q)))
    ∙ stores_over ps (store p t) w v j (le_of_suc-le-suc l) e)

module _ (first : ℕ) (t : List ℕ) (front : pending_at < first) where
  -- a store past the pending pairs
  pub unused_pair : (i v : ℕ) → first + 2 * pending t ≤ i → names_ok first 0 (pairs t first (pending t)) ≡ true → effective first (set t i v) ≡ effective first t
  unfolding effective pairs
  unused_pair i v far names =
      let p : ℕ = pending t in
      let count : pending (set t i v) ≡ pending t = get_or-set_other t i pending_at v 0 (λ q. omega arith) in
      let same : pairs (set t i v) first p ≡ pairs t first p =
      tab_below (pair_at (set t i v) first) (pair_at t first) p (λ j l.
      let a : get_or (set t i v) (first + 2 * j) 0 ≡ get_or t (first + 2 * j) 0 = get_or-set_other t i (first + 2 * j) v 0 (λ q. omega arith) in
      let b : get_or (set t i v) (first + 2 * j + 1) 0 ≡ get_or t (first + 2 * j + 1) 0 = get_or-set_other t i (first + 2 * j + 1) v 0 (λ q. omega arith) in
      rw (a, b)) in
      let apart : Each (λ s. s.at ≡ i → ⊥) (pairs t first p) =
      each_map (λ s. s.at < first) (λ s. s.at ≡ i → ⊥) (pairs t first p) (λ s l q. omega arith) (names_below first 0 (pairs t first p) front names) in
      rw (count, same, stores_set (pairs t first p) t i v apart)
      (ap (take first) (set_comm (stores (pairs t first p) t) i pending_at v 0 (λ q. omega arith))
      ∙ take-set-le first (set (stores (pairs t first p) t) pending_at 0) i v (omega arith))

  -- a store into a word that pending pair j replaces
  pub replaced_word : (j v : ℕ) → j < pending t → get_or t (first + 2 * j) 0 < first → (get_or t (first + 2 * j) 0 ≡ pending_at → ⊥)
      → effective first (set t (get_or t (first + 2 * j) 0) v) ≡ effective first t
  unfolding effective pairs
  replaced_word j v l low other =
      let p : ℕ = pending t in
      let w : ℕ = get_or t (first + 2 * j) 0 in
      let count : pending (set t w v) ≡ pending t = get_or-set_other t w pending_at v 0 (λ q. other (sym q)) in
      let same : pairs (set t w v) first p ≡ pairs t first p = pairs_same (set t w v) t first p (λ i h. get_or-set_other t w i v 0 (λ q. omega arith)) in
      let named : (get_or (pairs t first p) j (0 ≔ 0)).at ≡ w = ap (λ (s : Store). s.at) (get_or_tab (pair_at t first) p j (0 ≔ 0) l) in
      rw (count, same, stores_over (pairs t first p) t w v j (rw (length_pairs t first p) l) named)
