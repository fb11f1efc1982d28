-- A right table stands for exactly one state, and the function `state_in` gives it. Assumes nothing.
use Prim.Native.Nat.{ℕ, zero, suc, ◌-◌, ◌≤◌, ◌<◌}
use mathlib.Core.Bool.{true}
use mathlib.Core.List.{List}
use mathlib.Core.Option.{Option}
use mathlib.Core.Path.{◌≡◌, refl, sym, ap, subst, ◌∙◌}
use native.Mathlib.Nat.{not-suc-le-zero}
use native.Mathlib.Omega.{arith}
use borrow.Author.Tests.{eqb-true, eqb-false}
use lib.Dec.{eqb}
use lib.ListN.{get_or}
use lib.Seq.{ext_get_or}
use Rattle.words.specs.Stores.{tab}
use Rattle.words.specs.Cells.{cell_bytes}
use Rattle.words.proofs.Scan.{by_bool}
use Rattle.words.proofs.Plans.{length_tab, get_or_tab, tab_below}
use Rattle.table.specs.Entry.{live, next_handle, handle, word1, word2, depth_of, via_of, pattern_of, is_pattern, parent, names, find_in, holds_in}
use Rattle.table.proofs.Entry.{names_both, names_make, find_hit, find_miss, find_some, find_at, find_ext, holds_true, holds_false, holds_found, holds_none, pattern_one, pattern_zero, pattern_none}
use Rattle.table.proofs.Rule.{Rule}
use Rattle.table.proofs.Single.{only_one}
use Rattle.search.specs.Search.{own_value, value_in}
use Rattle.search.proofs.Value.{Copy, value_own, value_via, value_kept}
use Rattle.model.specs.State.{Holding, Domain, State}
use Rattle.store.specs.State.{ValueIs, of_copy, of_rule, of_parent, HoldingIs, nothing, entry, DomainIs, no_domain, StandsFor, held_in, domain_in, state_in}

pub bit : (w : ℕ) → (via_of w ≡ 0 → ⊥) → via_of w ≡ 1
bit w h = omega (arith, h)

module _ (m e b : ℕ) (t : List ℕ) (ok : Rule m e b t) where
  -- the entry that names a depth and a cell is the one that is found
  pub found : (d c i : ℕ) → 1 ≤ d → i < e → names d c (word1 e t i) ≡ true → find_in e t d c ≡ i
  found d c i l li n =
      let p = names_both e t d c (word1 e t i) n in
      let le = find_some e t d c i li p.0 p.1 in
      let lt : find_in e t d c < e = omega arith in
      let h = find_hit e t d c lt in
      only_one m e b t ok (find_in e t d c) i d c l lt li (names_make e t d c _ h.0 h.1) n

  found_names : (d c : ℕ) → find_in e t d c < e → names d c (word1 e t (find_in e t d c)) ≡ true
  found_names d c h = let p = find_hit e t d c h in names_make e t d c _ p.0 p.1

  -- a via parent entry is not outermost, and its parent holds its cell
  via_deep : (d c i : ℕ) → i < e → names d c (word1 e t i) ≡ true → (via_of (word1 e t i) ≡ 0 → ⊥) → 2 ≤ d
  via_deep d c i l n v =
      let p = names_both e t d c (word1 e t i) n in
      let u = ok.used i l (λ w. v (rw w)) in
      omega (arith, p.0, u.inner v)

  via_rests : (d c i : ℕ) → i < e → names d c (word1 e t i) ≡ true → (via_of (word1 e t i) ≡ 0 → ⊥) → find_in e t (parent d) c < e
  via_rests d c i l n v =
      let p = names_both e t d c (word1 e t i) n in
      subst (λ (x : ℕ). find_in e t (parent x) c < e) p.0
      (subst (λ (x : ℕ). find_in e t (parent (depth_of (word1 e t i))) x < e) p.1 (ok.outer i l v))

  module _ (bodies : List ℕ) where
    -- ---- values

    at_own : (d c i : ℕ) → 1 ≤ d → find_in e t d c ≡ i → i < e → via_of (word1 e t i) ≡ 0 → value_in e t bodies d c ≡ own_value bodies (word1 e t i) (word2 e t i)
    at_own zero c i l f h v = absurd (not-suc-le-zero l)
    at_own (suc d) c i l f h v =
        value_own e t bodies d c (subst (λ (x : ℕ). x < e) (sym f) h) (subst (λ (x : ℕ). via_of (word1 e t x) ≡ 0) (sym f) v)
        ∙ ap (λ (x : ℕ). own_value bodies (word1 e t x) (word2 e t x)) f

    of_own : (d c i : ℕ) → i < e → names d c (word1 e t i) ≡ true → via_of (word1 e t i) ≡ 0 → ValueIs e t bodies d c (own_value bodies (word1 e t i) (word2 e t i))
    of_own d c i h n v =
        by_bool (is_pattern (word1 e t i))
        (λ p. rw p (of_rule h n v (pattern_one (word1 e t i) p)))
        (λ p. rw p (of_copy h n v (pattern_zero (word1 e t i) p)))

    at_via : (d c i : ℕ) → 1 ≤ d → find_in e t d c ≡ i → i < e → (via_of (word1 e t i) ≡ 0 → ⊥) → value_in e t bodies d c ≡ value_in e t bodies (parent d) c
    at_via zero c i l f h v = absurd (not-suc-le-zero l)
    at_via (suc d) c i l f h v =
        let z : d ≡ suc d - 1 = omega arith in
        value_via e t bodies d c (subst (λ (x : ℕ). x < e) (sym f) h) (λ y. v (subst (λ (x : ℕ). via_of (word1 e t x) ≡ 0) f y))
        ∙ ap (λ (x : ℕ). value_in e t bodies x c) z

    pub value_is : (d c : ℕ) → 1 ≤ d → find_in e t d c < e → ValueIs e t bodies d c (value_in e t bodies d c)
    value_is zero c l h = absurd (not-suc-le-zero l)
    value_is (suc d) c l h =
        by_bool (eqb (via_of (word1 e t (find_in e t (suc d) c))) 0)
        (λ z. let v = eqb-true _ _ z in
        subst (λ (x : List ℕ). ValueIs e t bodies (suc d) c x) (sym (value_own e t bodies d c h v)) (of_own (suc d) c (find_in e t (suc d) c) h (found_names (suc d) c h) v))
        (λ z.
        let v = eqb-false (via_of (word1 e t (find_in e t (suc d) c))) 0 z in
        let n = found_names (suc d) c h in
        let two = via_deep (suc d) c (find_in e t (suc d) c) h n v in
        let one : 1 ≤ d = omega arith in
        let back : d ≡ parent (suc d) = omega arith in
        let out : find_in e t d c < e = subst (λ (x : ℕ). find_in e t x c < e) (sym back) (via_rests (suc d) c (find_in e t (suc d) c) h n v) in
        subst (λ (x : List ℕ). ValueIs e t bodies (suc d) c x) (sym (value_via e t bodies d c h v))
        (of_parent h n (bit (word1 e t (find_in e t (suc d) c)) v) (subst (λ (x : ℕ). ValueIs e t bodies x c (value_in e t bodies d c)) back (value_is d c one out))))

    pub value_only : {d c : ℕ} {v : List ℕ} → 1 ≤ d → ValueIs e t bodies d c v → v ≡ value_in e t bodies d c
    value_only l (of_copy {d = d} {c = c} {i = i} h n z p) = sym (at_own d c i l (found d c i l h n) h z ∙ rw (pattern_none (word1 e t i) p))
    value_only l (of_rule {d = d} {c = c} {i = i} h n z p) = sym (at_own d c i l (found d c i l h n) h z ∙ rw p)
    value_only l (of_parent {d = d} {c = c} {i = i} h n z r) =
        let v : via_of (word1 e t i) ≡ 0 → ⊥ = λ y. omega (arith, y, z) in
        let two = via_deep d c i h n v in
        let one : 1 ≤ parent d = omega arith in
        value_only one r ∙ sym (at_via d c i l (found d c i l h n) h v)

    -- ---- holdings

    pub holding_is : (d c : ℕ) → 1 ≤ d → HoldingIs e t bodies d c (held_in e t bodies d c)
    unfolding held_in
    holding_is d c l =
        by_bool (holds_in e t d c)
        (λ p. let h = holds_found e t d c p in rw p (entry h (found_names d c h) (value_is d c l h)))
        (λ p. let h = holds_none e t d c p in rw p (nothing (λ i li. find_miss e t d c i (omega arith))))

    pub holding_only : {d c : ℕ} {o : Option Holding} → 1 ≤ d → HoldingIs e t bodies d c o → o ≡ held_in e t bodies d c
    unfolding held_in
    holding_only {d} {c} l (nothing f) =
        let n : find_in e t d c ≡ e = find_at e t d c e (omega arith) f (λ x. absurd (irreflexive e x)) in
        let le : e ≤ find_in e t d c = omega arith in
        rw (holds_false e t d c le)
      where
        irreflexive : (n : ℕ) → n < n → ⊥
        irreflexive n h = omega arith
    holding_only {d} {c} l (entry {i = i} {v = v} h n r) =
        let f : find_in e t d c ≡ i = found d c i l h n in
        let lt : find_in e t d c < e = omega arith in
        rw (holds_true e t d c lt, f, ← value_only l r)

    -- ---- the state

    pub stands : StandsFor e t bodies (state_in e t bodies)
    unfolding state_in
    stands =
        record {
          next = refl;
          count = length_tab (domain_in e t bodies) (live t);
          domains = λ k l.
              subst (λ (d : Domain). DomainIs e t bodies k d) (sym (get_or_tab (domain_in e t bodies) (live t) k no_domain l))
              (record { named = refl; holding = λ c. holding_is (suc k) c (omega arith) });
        }

    domain_only : (k : ℕ) (d : Domain) → DomainIs e t bodies k d → d ≡ domain_in e t bodies k
    domain_only k d h = λ i. record { handle = h.named i; holds = λ c. holding_only {d = suc k} {c = c} (omega arith) (h.holding c) i }

    pub only : (s : State) → StandsFor e t bodies s → s ≡ state_in e t bodies
    unfolding state_in
    only s h =
        let same : s.domains ≡ tab (live t) (domain_in e t bodies) =
        ext_get_or no_domain s.domains (tab (live t) (domain_in e t bodies)) (h.count ∙ sym (length_tab (domain_in e t bodies) (live t)))
        (λ k l.
        let lt : k < live t = omega (arith, h.count) in
        domain_only k (get_or s.domains k no_domain) (h.domains k lt) ∙ sym (get_or_tab (domain_in e t bodies) (live t) k no_domain lt)) in
        λ i. record { next = h.next i; domains = same i }

-- ---- what the state does not read: it depends on words 4, 5 and 8 to 15, the entries, and the bodies in use
module _ (m e b : ℕ) (t u old new : List ℕ) (ok : Rule m e b t)
    (firsts : (i : ℕ) → i < e → word1 e u i ≡ word1 e t i)
    (seconds : (i : ℕ) → i < e → word2 e u i ≡ word2 e t i)
    (bytes : (i : ℕ) → Copy e t i → cell_bytes new (word2 e t i) ≡ cell_bytes old (word2 e t i)) where
  pub held_kept : (d c : ℕ) → 1 ≤ d → held_in e u new d c ≡ held_in e t old d c
  unfolding held_in holds_in
  held_kept d c l =
      let finds : (x : ℕ) → find_in e u x c ≡ find_in e t x c = λ x. find_ext e t u x c (λ k h. ap (names x c) (firsts k h)) in
      let kinds : (x : ℕ) → find_in e t x c < e → via_of (word1 e u (find_in e t x c)) ≡ via_of (word1 e t (find_in e t x c)) = λ x h. ap via_of (firsts (find_in e t x c) h) in
      rw (finds d)
      (by_bool (holds_in e t d c)
      (λ p.
      let h = holds_found e t d c p in
      let value =
      value_kept e t u c m b ok old new (λ i k. ap pattern_of (firsts i k.slot)) (λ i k. seconds i k.slot) bytes d l h
      (record { finds = λ x l' k. finds x; kinds = λ x l' k. kinds x }) in
      rw (p, firsts (find_in e t d c) h, seconds (find_in e t d c) h, value))
      (λ p. rw p))

  pub state_kept : live u ≡ live t → next_handle u ≡ next_handle t → ((k : ℕ) → k < live t → handle u k ≡ handle t k) → state_in e u new ≡ state_in e t old
  unfolding state_in
  state_kept four five handles =
      let doms : tab (live u) (domain_in e u new) ≡ tab (live t) (domain_in e t old) =
      ap (λ (n : ℕ). tab n (domain_in e u new)) four
      ∙ tab_below (domain_in e u new) (domain_in e t old) (live t) (λ k l i. record { handle = handles k l i; holds = λ c. held_kept (suc k) c (omega arith) i }) in
      λ i. record { next = five i; domains = doms i }
