-- Live entries and copies in use: as many in the words of a right table as in the state that it stands for. Assumes nothing.
use Prim.Native.Nat.{ℕ, zero, suc, ◌+◌, ◌-◌, ◌≤◌, ◌<◌}
use mathlib.Core.Bool.{Bool, true, not, ◌&&◌, ◌||◌, and-true}
use mathlib.Core.List.{List}
use mathlib.Core.Option.{Option}
use mathlib.Core.Path.{◌≡◌, refl, sym, ap, ◌∙◌}
use native.Mathlib.Omega.{arith}
use borrow.Author.Tests.{eq-eqb, ne_eqb, eqb-true, eqb-false, lt-ltb, le-ltb}
use lib.Dec.{ltb, eqb}
use lib.ListN.{drop}
use Rattle.words.specs.Scan.{count}
use Rattle.words.specs.Stores.{tab_from}
use Rattle.words.proofs.Scan.{by_bool, by_le, count_ext, count_none}
use Rattle.table.specs.Entry.{live, word1, word2, depth_of, via_of, pattern_of, find_in, holds_in}
use Rattle.table.proofs.Rule.{Rule}
use Rattle.search.specs.Free.{slot_free, used_slots, copies}
use Rattle.search.proofs.Counts.{count_entries}
use Rattle.model.specs.State.{Holding}
use Rattle.model.specs.Holdings.{is_held, has_body, held_in_body, count_held, live_entries, copies_in_use}
use Rattle.store.specs.State.{kind_of, held_in, domain_in, state_in}
use Rattle.store.proofs.Domains.{held_holds}

-- ---- counts

-- numbers above x: the next one, and those above it
above : (x y : ℕ) → ltb x y ≡ (eqb y (suc x) || ltb (suc x) y)
above x y =
    by_bool (eqb y (suc x))
    (λ z. let q = eqb-true y (suc x) z in rw z (lt-ltb x y (omega arith)))
    (λ z.
    let ne = eqb-false y (suc x) z in
    rw z
    (by_le y x
    (λ l. le-ltb x y l ∙ sym (le-ltb (suc x) y (omega arith)))
    (λ l. lt-ltb x y l ∙ sym (lt-ltb (suc x) y (omega (arith, ne))))))

count_above : (n x : ℕ) (f : ℕ → ℕ) (p : ℕ → Bool)
    → count n (λ i. ltb x (f i) && p i) ≡ count n (λ i. eqb (f i) (suc x) && p i) + count n (λ i. ltb (suc x) (f i) && p i)
unfolding count
count_above zero x f p = refl
count_above (suc n) x f p =
    let rest : count n (λ i. ltb x (f i) && p i) ≡ count n (λ i. eqb (f i) (suc x) && p i) + count n (λ i. ltb (suc x) (f i) && p i) =
    count_above n x f p in
    by_bool (p n)
    (λ w.
    by_bool (eqb (f n) (suc x))
    (λ z.
    let q = eqb-true (f n) (suc x) z in
    rw (above x (f n), z, le-ltb (suc x) (f n) (omega arith), w, rest) (omega arith))
    (λ z. rw (above x (f n), z, w, rest) (by_bool (ltb (suc x) (f n)) (λ y. rw y (omega arith)) (λ y. rw y))))
    (λ w. rw (above x (f n), w, rest) (by_bool (eqb (f n) (suc x)) (λ y. rw y (by_bool (ltb (suc x) (f n)) (λ v. rw v) (λ v. rw v))) (λ y. rw y (by_bool (ltb (suc x) (f n)) (λ v. rw v) (λ v. rw v)))))

drop_tab : {A : Type 0} (g : ℕ → A) (at x n : ℕ) → drop x (tab_from g at n) ≡ tab_from g (at + x) (n - x)
drop_tab g at zero n =
    let a : at ≡ at + 0 = omega arith in
    let b : n ≡ n - 0 = omega arith in
    λ i. tab_from g (a i) (b i)
drop_tab g at (suc x) zero = let b : 0 ≡ 0 - suc x = omega arith in λ i. tab_from g (at + suc x) (b i)
drop_tab g at (suc x) (suc n) =
    let a : suc at + x ≡ at + suc x = omega arith in
    let b : n - x ≡ suc n - suc x = omega arith in
    drop_tab g (suc at) x n ∙ (λ i. tab_from g (a i) (b i))

-- ---- entries, as cells of domains

kind_body : (w v : ℕ) → has_body (kind_of w v) ≡ (eqb (via_of w) 0 && eqb (pattern_of w) 0)
kind_body w v =
    by_bool (eqb (via_of w) 0)
    (λ z.
    let q = eqb-true (via_of w) 0 z in
    by_bool (eqb (pattern_of w) 0)
    (λ y. let p = eqb-true (pattern_of w) 0 y in rw (z, y, ne_eqb (via_of w) 1 (λ a. omega arith), ne_eqb (pattern_of w) 1 (λ a. omega arith)))
    (λ y. let one : pattern_of w ≡ 1 = omega (arith, eqb-false (pattern_of w) 0 y) in rw (z, y, ne_eqb (via_of w) 1 (λ a. omega arith), eq-eqb (pattern_of w) 1 one)))
    (λ z. let one : via_of w ≡ 1 = omega (arith, eqb-false (via_of w) 0 z) in rw (z, eq-eqb (via_of w) 1 one))

module _ (m e b : ℕ) (t : List ℕ) (ok : Rule m e b t) (bodies : List ℕ) where
  -- no entry is deeper than the innermost domain
  pub depth_high : (i : ℕ) → i < e → depth_of (word1 e t i) ≤ live t
  depth_high i l =
      by_bool (eqb (word1 e t i) 0)
      (λ z. let w = eqb-true (word1 e t i) 0 z in omega arith)
      (λ z. (ok.used i l (eqb-false (word1 e t i) 0 z)).high)

  -- an entry is in use exactly where its depth is one
  in_use : (i : ℕ) → i < e → ltb 0 (depth_of (word1 e t i)) ≡ not (slot_free e t i)
  in_use i l =
      by_bool (eqb (word1 e t i) 0)
      (λ z. let w = eqb-true (word1 e t i) 0 z in rw z (le-ltb 0 (depth_of (word1 e t i)) (omega arith)))
      (λ z. rw z (lt-ltb 0 (depth_of (word1 e t i)) (ok.used i l (eqb-false (word1 e t i) 0 z)).low))

  -- entries whose first word passes a test, and holdings that pass one that says the same
  module _ (p : ℕ → Bool) (f : Option Holding → Bool)
      (same : (d c : ℕ) → f (held_in e t bodies d c) ≡ (holds_in e t d c && p (word1 e t (find_in e t d c)))) where
    one_depth : (x : ℕ) → count m (λ c. f (held_in e t bodies (suc x) c)) ≡ count e (λ i. eqb (depth_of (word1 e t i)) (suc x) && p (word1 e t i))
    one_depth x =
        count_ext m (λ c. f (held_in e t bodies (suc x) c)) (λ c. holds_in e t (suc x) c && p (word1 e t (find_in e t (suc x) c))) (λ c l. same (suc x) c)
        ∙ sym (count_entries m e b t ok (suc x) (omega arith) p)

    from_depth_lem : (j x : ℕ) → x + j ≡ live t
        → count_held m f (tab_from (domain_in e t bodies) x j) ≡ count e (λ i. ltb x (depth_of (word1 e t i)) && p (word1 e t i))
    from_depth_lem zero x q =
        sym (count_none e (λ i. ltb x (depth_of (word1 e t i)) && p (word1 e t i)) (λ i l. rw (le-ltb x (depth_of (word1 e t i)) (omega (arith, depth_high i l)))))
    from_depth_lem (suc j) x q =
        let n : suc x + j ≡ live t = omega arith in
        rw (one_depth x, from_depth_lem j (suc x) n) (sym (count_above e x (λ i. depth_of (word1 e t i)) (λ i. p (word1 e t i))))

    -- those of the domains past the first x
    pub held_past : (x : ℕ) → x ≤ live t
        → count_held m f (drop x (state_in e t bodies).domains) ≡ count e (λ i. ltb x (depth_of (word1 e t i)) && p (word1 e t i))
    unfolding state_in
    held_past x l =
        let z : 0 + x ≡ x = omega arith in
        ap (count_held m f) (drop_tab (domain_in e t bodies) 0 x (live t) ∙ ap (λ (y : ℕ). tab_from (domain_in e t bodies) y (live t - x)) z)
        ∙ from_depth_lem (live t - x) x (omega arith)

    -- all of them
    held_all : count_held m f (state_in e t bodies).domains ≡ count e (λ i. not (slot_free e t i) && p (word1 e t i))
    unfolding state_in
    held_all =
        from_depth_lem (live t) 0 (omega arith)
        ∙ count_ext e (λ i. ltb 0 (depth_of (word1 e t i)) && p (word1 e t i)) (λ i. not (slot_free e t i) && p (word1 e t i))
        (λ i l. ap (λ (a : Bool). a && p (word1 e t i)) (in_use i l))

  -- the holdings that have a body are the copies
  in_body : (d c : ℕ) → held_in_body (held_in e t bodies d c) ≡ (holds_in e t d c && (eqb (via_of (word1 e t (find_in e t d c))) 0 && eqb (pattern_of (word1 e t (find_in e t d c))) 0))
  unfolding held_in
  in_body d c = by_bool (holds_in e t d c) (λ z. rw z (kind_body (word1 e t (find_in e t d c)) (word2 e t (find_in e t d c)))) (λ z. rw z)

  pub entries_in_use : live_entries m (state_in e t bodies) ≡ used_slots e t
  unfolding used_slots
  entries_in_use =
      held_all (λ w. true) is_held (λ d c. held_holds e t bodies d c ∙ sym (and-true (holds_in e t d c)))
      ∙ count_ext e (λ i. not (slot_free e t i) && true) (λ i. not (slot_free e t i)) (λ i l. and-true (not (slot_free e t i)))

  pub copies_in_use_lem : copies_in_use m (state_in e t bodies) ≡ copies e t
  unfolding copies
  copies_in_use_lem = held_all (λ w. eqb (via_of w) 0 && eqb (pattern_of w) 0) held_in_body in_body
