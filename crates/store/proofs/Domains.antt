-- The model's operations on the list of live domains, said of the domains that a table's words give. Assumes nothing.
use Prim.Native.Nat.{ℕ, zero, suc, ◌+◌, ◌-◌, ◌≤◌, ◌<◌}
use mathlib.Core.Bool.{Bool, true, false, cond, ◌&&◌}
use mathlib.Core.List.{List, [], ◌∷◌}
use mathlib.Core.Option.{Option, none, some}
use mathlib.Core.Path.{◌≡◌, refl, sym, ap, ◌∙◌}
use native.Mathlib.Nat.{not-suc-le-zero, le_of_suc-le-suc, zero-add}
use native.Mathlib.Omega.{arith}
use borrow.Author.Tests.{eq-eqb, ne_eqb, eqb-true, eqb-false, lt-ltb, le-ltb}
use lib.Dec.{ltb, eqb}
use lib.ListN.{length}
use Rattle.words.specs.Scan.{first}
use Rattle.words.specs.Stores.{tab, tab_from}
use Rattle.words.proofs.Scan.{by_bool, by_le}
use Rattle.words.proofs.Plans.{length_tab, tab_below}
use Rattle.table.specs.Entry.{live, next_handle, handle, word1, word2, writable_of, via_of, pattern_of, parent, find_in, holds_in}
use Rattle.table.proofs.Entry.{holds_true}
use Rattle.search.specs.Search.{value_in}
use Rattle.search.specs.Domain.{place_of, depth_named}
use Rattle.model.specs.State.{Holding, Domain}
use Rattle.model.specs.Holdings.{deeper, depth_in, named, holding_at, is_held, held_writable, is_via, held_via, on_depth, on_innermost, on_parent, on_commit, holding}
use Rattle.store.specs.State.{label_of, kind_of, held_in, domain_in, state_in}

-- ---- lists of domains by a rule

module _ (g : ℕ → Domain) where
  holding_from : (at n d c : ℕ) → d < n → holding_at (tab_from g at n) (suc d) c ≡ (g (at + d)).holds c
  holding_from at zero d c l = absurd (not-suc-le-zero l)
  holding_from at (suc n) zero c l = let z : at ≡ at + 0 = omega arith in ap (λ (x : ℕ). (g x).holds c) z
  holding_from at (suc n) (suc d) c l =
      let z : suc at + d ≡ at + suc d = omega arith in
      holding_from (suc at) n d c (le_of_suc-le-suc l) ∙ ap (λ (x : ℕ). (g x).holds c) z

  pub holding_tab : (n d c : ℕ) → d < n → holding_at (tab n g) (suc d) c ≡ (g d).holds c
  holding_tab n d c l = holding_from 0 n d c l ∙ ap (λ (x : ℕ). (g x).holds c) (zero-add d)

  past_from : (at n d c : ℕ) → n ≤ d → holding_at (tab_from g at n) (suc d) c ≡ none
  past_from at zero d c l = refl
  past_from at (suc n) zero c l = absurd (not-suc-le-zero l)
  past_from at (suc n) (suc d) c l = past_from (suc at) n d c (le_of_suc-le-suc l)

  pub holding_past : (n d c : ℕ) → n ≤ d → holding_at (tab n g) (suc d) c ≡ none
  holding_past n d c l = past_from 0 n d c l

  -- depth 0 is nobody's
  pub holding_zero : (n c : ℕ) → holding_at (tab n g) 0 c ≡ none
  holding_zero zero c = refl
  holding_zero (suc n) c = refl

  module _ (f : Domain → Domain) where
    abbrev changed : ℕ → ℕ → Domain
    changed d k = cond (eqb (suc k) d) (f (g k)) (g k)

    same_from : (at n d : ℕ) → d ≤ at → tab_from g at n ≡ tab_from (changed d) at n
    same_from at zero d h = refl
    same_from at (suc n) d h =
        let z : eqb (suc at) d ≡ false = ne_eqb (suc at) d (λ q. omega arith) in
        let one : g at ≡ changed d at = rw z in
        λ i. one i ∷ same_from (suc at) n d (omega arith) i

    depth_from : (at n d : ℕ) → on_depth (suc d) f (tab_from g at n) ≡ tab_from (changed (at + suc d)) at n
    depth_from at zero d = refl
    depth_from at (suc n) zero =
        let z : eqb (suc at) (at + 1) ≡ true = eq-eqb (suc at) (at + 1) (omega arith) in
        let one : f (g at) ≡ changed (at + 1) at = rw z in
        λ i. one i ∷ same_from (suc at) n (at + 1) (omega arith) i
    depth_from at (suc n) (suc d) =
        let z : eqb (suc at) (at + suc (suc d)) ≡ false = ne_eqb (suc at) (at + suc (suc d)) (λ q. omega arith) in
        let y : suc at + suc d ≡ at + suc (suc d) = omega arith in
        let one : g at ≡ changed (at + suc (suc d)) at = rw z in
        λ i. one i ∷ (depth_from (suc at) n d ∙ ap (λ (x : ℕ). tab_from (changed x) (suc at) n) y) i

    pub on_depth_lem : (n d : ℕ) → on_depth (suc d) f (tab n g) ≡ tab n (λ k. cond (eqb (suc k) (suc d)) (f (g k)) (g k))
    on_depth_lem n d = depth_from 0 n d ∙ ap (λ (x : ℕ). tab n (changed x)) (zero-add (suc d))

    inner_from : (at n : ℕ) → on_innermost f (tab_from g at n) ≡ tab_from (changed (at + n)) at n
    inner_from at zero = refl
    inner_from at (suc zero) =
        let z : eqb (suc at) (at + 1) ≡ true = eq-eqb (suc at) (at + 1) (omega arith) in
        let one : f (g at) ≡ changed (at + 1) at = rw z in
        λ i. one i ∷ []
    inner_from at (suc (suc n)) =
        let z : eqb (suc at) (at + suc (suc n)) ≡ false = ne_eqb (suc at) (at + suc (suc n)) (λ q. omega arith) in
        let y : suc at + suc n ≡ at + suc (suc n) = omega arith in
        let one : g at ≡ changed (at + suc (suc n)) at = rw z in
        λ i. one i ∷ (inner_from (suc at) (suc n) ∙ ap (λ (x : ℕ). tab_from (changed x) (suc at) (suc n)) y) i

    pub on_innermost_lem : (n : ℕ) → on_innermost f (tab n g) ≡ tab n (λ k. cond (eqb (suc k) n) (f (g k)) (g k))
    on_innermost_lem n = inner_from 0 n ∙ ap (λ (x : ℕ). tab n (changed x)) (zero-add n)

  module _ (f : Domain → Domain → Domain) where
    abbrev merge : ℕ → ℕ → Domain
    merge n k = cond (eqb k n) (f (g n) (g (suc n))) (g k)

    commit_from : (at n : ℕ) → on_commit f (tab_from g at (suc (suc n))) ≡ tab_from (merge (at + n)) at (suc n)
    commit_from at zero =
        let z : eqb at (at + 0) ≡ true = eq-eqb at (at + 0) (omega arith) in
        let y : at ≡ at + 0 = omega arith in
        let one : f (g at) (g (suc at)) ≡ merge (at + 0) at = rw z (ap (λ (x : ℕ). f (g x) (g (suc x))) y) in
        λ i. one i ∷ []
    commit_from at (suc n) =
        let z : eqb at (at + suc n) ≡ false = ne_eqb at (at + suc n) (λ q. omega arith) in
        let y : suc at + n ≡ at + suc n = omega arith in
        let one : g at ≡ merge (at + suc n) at = rw z in
        λ i. one i ∷ (commit_from (suc at) n ∙ ap (λ (x : ℕ). tab_from (merge x) (suc at) (suc n)) y) i

    abbrev beside : ℕ → ℕ → Domain
    beside n k = cond (eqb (suc (suc k)) n) (f (g k) (g (suc k))) (g k)

    parent_from : (at n : ℕ) → on_parent f (tab_from g at n) ≡ tab_from (beside (at + n)) at n
    parent_from at zero = refl
    parent_from at (suc zero) =
        let z : eqb (suc (suc at)) (at + 1) ≡ false = ne_eqb (suc (suc at)) (at + 1) (λ q. omega arith) in
        let one : g at ≡ beside (at + 1) at = rw z in
        λ i. one i ∷ []
    parent_from at (suc (suc zero)) =
        let z : eqb (suc (suc at)) (at + 2) ≡ true = eq-eqb (suc (suc at)) (at + 2) (omega arith) in
        let y : eqb (suc (suc (suc at))) (at + 2) ≡ false = ne_eqb (suc (suc (suc at))) (at + 2) (λ q. omega arith) in
        let one : f (g at) (g (suc at)) ≡ beside (at + 2) at = rw z in
        let two : g (suc at) ≡ beside (at + 2) (suc at) = rw y in
        λ i. one i ∷ two i ∷ []
    parent_from at (suc (suc (suc n))) =
        let z : eqb (suc (suc at)) (at + suc (suc (suc n))) ≡ false = ne_eqb (suc (suc at)) (at + suc (suc (suc n))) (λ q. omega arith) in
        let y : suc at + suc (suc n) ≡ at + suc (suc (suc n)) = omega arith in
        let one : g at ≡ beside (at + suc (suc (suc n))) at = rw z in
        λ i. one i ∷ (parent_from (suc at) (suc (suc n)) ∙ ap (λ (x : ℕ). tab_from (beside x) (suc at) (suc (suc n))) y) i

    -- of n domains the last but one, if any, is changed by the last: which stays, or leaves
    pub on_parent_lem : (n : ℕ) → on_parent f (tab n g) ≡ tab n (λ k. cond (eqb (suc (suc k)) n) (f (g k) (g (suc k))) (g k))
    on_parent_lem n = parent_from 0 n ∙ ap (λ (x : ℕ). tab n (beside x)) (zero-add n)

    pub on_commit_lem : (n : ℕ) → on_commit f (tab n g) ≡ tab (n - 1) (λ k. cond (eqb (suc k) (n - 1)) (f (g k) (g (n - 1))) (g k))
    on_commit_lem zero = refl
    on_commit_lem (suc zero) = refl
    on_commit_lem (suc (suc n)) =
        let less : suc (suc n) - 1 ≡ suc n = omega arith in
        rw less
        (commit_from 0 n ∙ ap (λ (x : ℕ). tab (suc n) (merge x)) (zero-add n)
        ∙ tab_below (merge n) (λ k. cond (eqb (suc k) (suc n)) (f (g k) (g (suc n))) (g k)) (suc n) (λ k l.
        by_bool (eqb k n)
        (λ z. let q = eqb-true k n z in rw (z, eq-eqb (suc k) (suc n) (ap suc q), q))
        (λ z. let ne = eqb-false k n z in rw (z, ne_eqb (suc k) (suc n) (λ p. ne (omega arith))))))

-- ---- the state of a table's words

module _ (e : ℕ) (t bodies : List ℕ) where
  pub state_domains : (state_in e t bodies).domains ≡ tab (live t) (domain_in e t bodies)
  unfolding state_in
  state_domains = refl

  pub domains_count : length (state_in e t bodies).domains ≡ live t
  domains_count = ap length state_domains ∙ length_tab (domain_in e t bodies) (live t)

  -- what the model finds at a depth is what the words say
  pub state_holding : (d c : ℕ) → 1 ≤ d → d ≤ live t → holding_at (state_in e t bodies).domains d c ≡ held_in e t bodies d c
  unfolding state_in
  state_holding zero c low high = absurd (not-suc-le-zero low)
  state_holding (suc d) c low high = holding_tab (domain_in e t bodies) (live t) d c high

  -- of the innermost domain, and of its parent
  pub inner_holding_lem : (c : ℕ) → 1 ≤ live t → holding_at (state_in e t bodies).domains (length (state_in e t bodies).domains) c ≡ held_in e t bodies (live t) c
  inner_holding_lem c low = ap (λ (d : ℕ). holding_at (state_in e t bodies).domains d c) domains_count ∙ state_holding (live t) c low (omega arith)

  pub outer_holding_lem : (c : ℕ) → 2 ≤ live t → holding_at (state_in e t bodies).domains (length (state_in e t bodies).domains - 1) c ≡ held_in e t bodies (parent (live t)) c
  outer_holding_lem c two =
      ap (λ (d : ℕ). holding_at (state_in e t bodies).domains (d - 1) c) domains_count ∙ state_holding (parent (live t)) c (omega arith) (omega arith)

  pub state_past : (d c : ℕ) → live t < d → holding_at (state_in e t bodies).domains d c ≡ none
  unfolding state_in
  state_past zero c h = absurd (not-suc-le-zero h)
  state_past (suc d) c h = holding_past (domain_in e t bodies) (live t) d c (le_of_suc-le-suc h)

  pub state_zero : (c : ℕ) → holding_at (state_in e t bodies).domains 0 c ≡ none
  unfolding state_in
  state_zero c = holding_zero (domain_in e t bodies) (live t) c

  -- not held, held, held read-write and held via parent, by the words
  pub held_none : (d c : ℕ) → holds_in e t d c ≡ false → held_in e t bodies d c ≡ none
  unfolding held_in
  held_none d c z = rw z

  pub held_some : (d c : ℕ) → find_in e t d c < e
      → held_in e t bodies d c ≡ some (record { label = label_of (word1 e t (find_in e t d c)); kind = kind_of (word1 e t (find_in e t d c)) (word2 e t (find_in e t d c)); value = value_in e t bodies d c })
  unfolding held_in
  held_some d c h = rw (holds_true e t d c h)

  pub held_holds : (d c : ℕ) → is_held (held_in e t bodies d c) ≡ holds_in e t d c
  unfolding held_in
  held_holds d c = by_bool (holds_in e t d c) (λ z. rw z) (λ z. rw z)

  pub held_writable_lem : (d c : ℕ) → held_writable (held_in e t bodies d c) ≡ (holds_in e t d c && eqb (writable_of (word1 e t (find_in e t d c))) 1)
  unfolding held_in
  held_writable_lem d c =
      by_bool (holds_in e t d c)
      (λ z. rw z (by_bool (eqb (writable_of (word1 e t (find_in e t d c))) 1) (λ y. rw y) (λ y. rw y)))
      (λ z. rw z)

  kind_via : (w v : ℕ) → is_via (kind_of w v) ≡ eqb (via_of w) 1
  kind_via w v = by_bool (eqb (via_of w) 1) (λ y. rw y) (λ y. rw y (by_bool (eqb (pattern_of w) 1) (λ p. rw p) (λ p. rw p)))

  pub held_via_lem : (d c : ℕ) → held_via (held_in e t bodies d c) ≡ (holds_in e t d c && eqb (via_of (word1 e t (find_in e t d c))) 1)
  unfolding held_in
  held_via_lem d c =
      by_bool (holds_in e t d c)
      (λ z. rw z (kind_via (word1 e t (find_in e t d c)) (word2 e t (find_in e t d c))))
      (λ z. rw z)

-- ---- handles

deeper_cond : (b : Bool) (n : ℕ) → deeper (cond b (suc n) 0) ≡ cond b (suc (suc n)) 0
deeper_cond true n = refl
deeper_cond false n = refl

shifted : (n x : ℕ) → ltb (suc x) (suc n) ≡ ltb x n
shifted n x = by_le n x (λ l. rw (le-ltb (suc x) (suc n) (omega arith), le-ltb x n l)) (λ l. rw (lt-ltb (suc x) (suc n) (omega arith), lt-ltb x n l))

depth_of_lem : (g : ℕ → Domain) (h at n : ℕ)
    → depth_in h (tab_from g at n) ≡ cond (ltb (first n (λ k. eqb (g (at + k)).handle h)) n) (suc (first n (λ k. eqb (g (at + k)).handle h))) 0
unfolding first
depth_of_lem g h at zero = refl
depth_of_lem g h at (suc n) =
    let z : at + 0 ≡ at = omega arith in
    let s : (k : ℕ) → at + suc k ≡ suc at + k = λ k. omega arith in
    let same : first n (λ k. eqb (g (at + suc k)).handle h) ≡ first n (λ k. eqb (g (suc at + k)).handle h) = ap (first n) (λ i k. eqb (g (s k i)).handle h) in
    by_bool (eqb (g at).handle h)
    (λ y. rw (z, y, lt-ltb 0 (suc n) (omega arith)))
    (λ y. rw (z, y, same, shifted n (first n (λ k. eqb (g (suc at + k)).handle h))) (ap deeper (depth_of_lem g h (suc at) n) ∙ deeper_cond (ltb (first n (λ k. eqb (g (suc at + k)).handle h)) n) (first n (λ k. eqb (g (suc at + k)).handle h))))

-- the depth that a handle names is the model's
pub state_named : (e : ℕ) (t bodies : List ℕ) (h : ℕ) → named h (state_in e t bodies) ≡ depth_named t h
unfolding state_in depth_named
state_named e t bodies h =
    let s : (k : ℕ) → 0 + k ≡ k = λ k. zero-add k in
    let same : first (live t) (λ k. eqb (domain_in e t bodies (0 + k)).handle h) ≡ place_of t h = ap (first (live t)) (λ i k. eqb (handle t (s k i)) h) in
    by_bool (eqb h 0)
    (λ z. rw z (length_tab (domain_in e t bodies) (live t)))
    (λ z. rw z (depth_of_lem (domain_in e t bodies) h 0 (live t) ∙ rw same))

-- ---- putting a changed state together

module _ (e : ℕ) (t u old new : List ℕ) (same_live : live u ≡ live t) (same_next : next_handle u ≡ next_handle t)
    (same-handles : (k : ℕ) → k < live t → handle u k ≡ handle t k) where
  -- the domain at one depth has other holdings
  pub depth_state : (d : ℕ) → 1 ≤ d → (f : Domain → ℕ → Option Holding)
      → ((k c : ℕ) → k < live t → held_in e u new (suc k) c ≡ cond (eqb (suc k) d) (f (domain_in e t old k) c) (held_in e t old (suc k) c))
      → state_in e u new ≡ record { next = (state_in e t old).next; domains = on_depth d (λ x. holding (f x) x) (state_in e t old).domains }
  unfolding state_in
  depth_state zero low f h = absurd (not-suc-le-zero low)
  depth_state (suc d) low f h =
      let doms : tab (live u) (domain_in e u new) ≡ on_depth (suc d) (λ x. holding (f x) x) (tab (live t) (domain_in e t old)) =
      ap (λ (n : ℕ). tab n (domain_in e u new)) same_live
      ∙ tab_below (domain_in e u new) (λ k. cond (eqb (suc k) (suc d)) (holding (f (domain_in e t old k)) (domain_in e t old k)) (domain_in e t old k)) (live t)
      (λ k l.
      by_bool (eqb (suc k) (suc d))
      (λ z. rw z (λ i. record { handle = same-handles k l i; holds = λ c. (rw z at (h k c l)) i }))
      (λ z. rw z (λ i. record { handle = same-handles k l i; holds = λ c. (rw z at (h k c l)) i })))
      ∙ sym (on_depth_lem (domain_in e t old) (λ x. holding (f x) x) (live t) d) in
      λ i. record { next = same_next i; domains = doms i }

  -- the innermost domain has other holdings
  pub innermost_state : (f : Domain → ℕ → Option Holding)
      → ((k c : ℕ) → k < live t → held_in e u new (suc k) c ≡ cond (eqb (suc k) (live t)) (f (domain_in e t old k) c) (held_in e t old (suc k) c))
      → state_in e u new ≡ record { next = (state_in e t old).next; domains = on_innermost (λ x. holding (f x) x) (state_in e t old).domains }
  unfolding state_in
  innermost_state f h =
      let doms : tab (live u) (domain_in e u new) ≡ on_innermost (λ x. holding (f x) x) (tab (live t) (domain_in e t old)) =
      ap (λ (n : ℕ). tab n (domain_in e u new)) same_live
      ∙ tab_below (domain_in e u new) (λ k. cond (eqb (suc k) (live t)) (holding (f (domain_in e t old k)) (domain_in e t old k)) (domain_in e t old k)) (live t)
      (λ k l.
      by_bool (eqb (suc k) (live t))
      (λ z. rw z (λ i. record { handle = same-handles k l i; holds = λ c. (rw z at (h k c l)) i }))
      (λ z. rw z (λ i. record { handle = same-handles k l i; holds = λ c. (rw z at (h k c l)) i })))
      ∙ sym (on_innermost_lem (domain_in e t old) (λ x. holding (f x) x) (live t)) in
      λ i. record { next = same_next i; domains = doms i }

  -- the innermost domain has other holdings, and its parent, if any, has others by what the innermost one held
  pub inner_two_state : (f : Domain → ℕ → Option Holding) (g : Domain → Domain → ℕ → Option Holding)
      → ((k c : ℕ) → k < live t → held_in e u new (suc k) c
      ≡ cond (eqb (suc k) (live t)) (f (domain_in e t old k) c)
      (cond (eqb (suc (suc k)) (live t)) (g (domain_in e t old k) (domain_in e t old (suc k)) c) (held_in e t old (suc k) c)))
      → state_in e u new ≡ record { next = (state_in e t old).next; domains = on_innermost (λ x. holding (f x) x) (on_parent (λ o i. holding (g o i) o) (state_in e t old).domains) }
  unfolding state_in
  inner_two_state f g h =
      let n : ℕ = live t in
      let was : ℕ → Domain = domain_in e t old in
      let outer : ℕ → Domain = λ k. cond (eqb (suc (suc k)) n) (holding (g (was k) (was (suc k))) (was k)) (was k) in
      let doms : tab (live u) (domain_in e u new) ≡ on_innermost (λ x. holding (f x) x) (on_parent (λ o i. holding (g o i) o) (tab n was)) =
      ap (λ (x : ℕ). tab x (domain_in e u new)) same_live
      ∙ tab_below (domain_in e u new) (λ k. cond (eqb (suc k) n) (holding (f (outer k)) (outer k)) (outer k)) n
      (λ k l.
      by_bool (eqb (suc k) n)
      (λ z.
      let q = eqb-true (suc k) n z in
      let y : eqb (suc (suc k)) n ≡ false = ne_eqb (suc (suc k)) n (λ p. omega arith) in
      rw (z, y) (λ i. record { handle = same-handles k l i; holds = λ c. (rw z at (h k c l)) i }))
      (λ z.
      by_bool (eqb (suc (suc k)) n)
      (λ y. rw (z, y) (λ i. record { handle = same-handles k l i; holds = λ c. (rw (z, y) at (h k c l)) i }))
      (λ y. rw (z, y) (λ i. record { handle = same-handles k l i; holds = λ c. (rw (z, y) at (h k c l)) i }))))
      ∙ sym (ap (on_innermost (λ x. holding (f x) x)) (on_parent_lem was (λ o i. holding (g o i) o) n) ∙ on_innermost_lem outer (λ x. holding (f x) x) n) in
      λ i. record { next = same_next i; domains = doms i }

-- the innermost domain has left, and its parent has other holdings
pub commit_state : (e : ℕ) (t u old new : List ℕ) → live u ≡ live t - 1 → next_handle u ≡ next_handle t → ((k : ℕ) → k < live t - 1 → handle u k ≡ handle t k)
    → (f : Domain → Domain → ℕ → Option Holding)
    → ((k c : ℕ) → k < live t - 1
    → held_in e u new (suc k) c ≡ cond (eqb (suc k) (live t - 1)) (f (domain_in e t old k) (domain_in e t old (live t - 1)) c) (held_in e t old (suc k) c))
    → state_in e u new ≡ record { next = (state_in e t old).next; domains = on_commit (λ o i. holding (f o i) o) (state_in e t old).domains }
unfolding state_in
commit_state e t u old new lu same_next same-handles f h =
    let doms : tab (live u) (domain_in e u new) ≡ on_commit (λ o i. holding (f o i) o) (tab (live t) (domain_in e t old)) =
    ap (λ (x : ℕ). tab x (domain_in e u new)) lu
    ∙ tab_below (domain_in e u new) (λ k. cond (eqb (suc k) (live t - 1)) (holding (f (domain_in e t old k) (domain_in e t old (live t - 1))) (domain_in e t old k)) (domain_in e t old k)) (live t - 1)
    (λ k l.
    by_bool (eqb (suc k) (live t - 1))
    (λ z. rw z (λ i. record { handle = same-handles k l i; holds = λ c. (rw z at (h k c l)) i }))
    (λ z. rw z (λ i. record { handle = same-handles k l i; holds = λ c. (rw z at (h k c l)) i })))
    ∙ sym (on_commit_lem (domain_in e t old) (λ o i. holding (f o i) o) (live t)) in
    λ i. record { next = same_next i; domains = doms i }
