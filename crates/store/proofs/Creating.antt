-- Create: the table that it leaves is right, and stands for the state with one domain more. Assumes nothing.
use Prim.Native.Nat.{ℕ, suc, ◌+◌, ◌-◌, ◌≤◌, ◌<◌}
use mathlib.Core.Bool.{true}
use mathlib.Core.List.{List, [], ◌∷◌, ◌++◌}
use mathlib.Core.Option.{none}
use mathlib.Core.Path.{◌≡◌, refl, sym, ap, subst, ◌∙◌}
use native.Mathlib.Numerals.{add-one}
use native.Mathlib.Omega.{arith}
use borrow.Author.Tests.{eqb-true, eqb-false, lt-ltb}
use lib.Dec.{eqb}
use lib.ListN.{length, get_or, set, length-set}
use lib.Seq.{get_or-set_same, get_or-set_other}
use Rattle.words.specs.Layout.{live_at, next_at, handle_at, pairs_at, max_live, first_at, second_at}
use Rattle.words.specs.Stores.{stores, tab}
use Rattle.words.specs.Journal.{names_ok, name_ok}
use Rattle.words.proofs.Scan.{by_bool}
use Rattle.words.proofs.Plans.{tab_below, tab_last}
use Rattle.words.proofs.Names.{name_live, name_next, name_from}
use Rattle.table.specs.Entry.{live, next_handle, handle, word1, word2, depth_of, find_in}
use Rattle.table.specs.Rule.{handle_before, handle_ok}
use Rattle.table.proofs.Entry.{find_none, holds_false}
use Rattle.table.proofs.Rule.{Rule}
use Rattle.table.proofs.Head.{handle_live, handle_unused, handle_make, head_changed}
use Rattle.model.specs.Calls.{created}
use Rattle.store.specs.State.{held_in, domain_in, state_in}
use Rattle.store.specs.Calls.{domain_words}
use Rattle.store.proofs.State.{held_kept}

-- create over a right table t of at least its head and its entries, with room for one domain more
module _ (m e b : ℕ) (t : List ℕ) (ok : Rule m e b t) (long : pairs_at e ≤ length t) (few : live t < max_live) where
  n : ℕ
  n = live t

  h : ℕ
  h = next_handle t

  u : List ℕ
  u = stores (domain_words (live t) (next_handle t)) t

  at_live : live u ≡ live t + 1
  unfolding u
  at_live =
      get_or-set_other (set (set t live_at (live t + 1)) next_at (next_handle t + 1)) (handle_at (live t)) live_at (next_handle t) 0 (λ q. omega arith)
      ∙ get_or-set_other (set t live_at (live t + 1)) next_at live_at (next_handle t + 1) 0 (λ q. omega arith)
      ∙ get_or-set_same t live_at (live t + 1) 0 (omega arith)

  at_next : next_handle u ≡ next_handle t + 1
  unfolding u
  at_next =
      get_or-set_other (set (set t live_at (live t + 1)) next_at (next_handle t + 1)) (handle_at (live t)) next_at (next_handle t) 0 (λ q. omega arith)
      ∙ get_or-set_same (set t live_at (live t + 1)) next_at (next_handle t + 1) 0 (simp length-set (omega arith))

  at_new : handle u (live t) ≡ next_handle t
  unfolding u
  at_new = get_or-set_same (set (set t live_at (live t + 1)) next_at (next_handle t + 1)) (handle_at (live t)) (next_handle t) 0 (simp length-set (omega arith))

  at_other : (i : ℕ) → (i ≡ live_at → ⊥) → (i ≡ next_at → ⊥) → (i ≡ handle_at (live t) → ⊥) → get_or u i 0 ≡ get_or t i 0
  unfolding u
  at_other i p q r =
      get_or-set_other (set (set t live_at (live t + 1)) next_at (next_handle t + 1)) (handle_at (live t)) i (next_handle t) 0 r
      ∙ get_or-set_other (set t live_at (live t + 1)) next_at i (next_handle t + 1) 0 q
      ∙ get_or-set_other t live_at i (live t + 1) 0 p

  firsts : (i : ℕ) → i < e → word1 e u i ≡ word1 e t i
  firsts i l = at_other (first_at e i) (λ q. omega arith) (λ q. omega arith) (λ q. omega arith)

  seconds : (i : ℕ) → i < e → word2 e u i ≡ word2 e t i
  seconds i l = at_other (second_at e i) (λ q. omega arith) (λ q. omega arith) (λ q. omega arith)

  handle_old : (k : ℕ) → (k ≡ live t → ⊥) → handle u k ≡ handle t k
  handle_old k q = at_other (handle_at k) (λ z. omega arith) (λ z. omega arith) (λ z. q (omega arith))

  -- the handle before one is as it was, up to the new one's
  before_old : (k : ℕ) → k ≤ live t → handle_before u k ≡ handle_before t k
  before_old k l =
      by_bool (eqb k 0) (λ z. rw z)
      (λ z. rw z (let ne = eqb-false k 0 z in handle_old (k - 1) (λ q. omega arith)))

  -- and below the next handle
  before_small : handle_before t (live t) < next_handle t
  before_small =
      by_bool (eqb (live t) 0)
      (λ z. rw z ok.next)
      (λ z.
      let ne = eqb-false (live t) 0 z in
      let p : live t - 1 < live t = omega arith in
      rw z (handle_live t (live t - 1) (ok.handles (live t - 1) (omega arith)) p).1)

  handles : (k : ℕ) → k < max_live → handle_ok u k ≡ true
  handles k l =
      by_bool (eqb k (live t))
      (λ z.
      let q = eqb-true k (live t) z in
      subst (λ (x : ℕ). handle_ok u x ≡ true) (sym q)
      (handle_make u (live t)
      (λ s. (rw (before_old (live t) (omega arith), at_new) before_small, rw (at_new, at_next) (omega arith)))
      (λ s. absurd (above (live t) (subst (λ (x : ℕ). x ≤ live t) at_live s)))))
      (λ z.
      let ne = eqb-false k (live t) z in
      handle_make u k
      (λ s.
      let lt : k < live t = let y = subst (λ (x : ℕ). k < x) at_live s in omega arith in
      let r = handle_live t k (ok.handles k l) lt in
      let big : handle t k < next_handle t + 1 = omega arith in
      (rw (before_old k (omega arith), handle_old k ne) r.0, rw (handle_old k ne, at_next) big))
      (λ s.
      let ge : live t ≤ k = let y = subst (λ (x : ℕ). x ≤ k) at_live s in omega arith in
      handle_old k ne ∙ handle_unused t k (ok.handles k l) ge))
    where
      above : (x : ℕ) → x + 1 ≤ x → ⊥
      above x q = omega arith

  pub create_rule : Rule m e b (stores (domain_words (live t) (next_handle t)) t)
  unfolding u
  create_rule =
      head_changed m e b t u ok firsts seconds (rw at_live (omega arith)) (rw at_next (omega arith)) handles
      (λ i l z. let k = ok.used i l z in rw at_live (omega (arith, k.high)))

  -- no entry is of the new domain's depth
  nothing_held : (bodies : List ℕ) (c : ℕ) → held_in e u bodies (suc (live t)) c ≡ none
  unfolding held_in
  nothing_held bodies c =
      let f : find_in e u (suc (live t)) c ≡ e =
      find_none e u (suc (live t)) c (λ j l p q.
      let w = sym (ap depth_of (firsts j l)) ∙ p in
      let k = ok.used j l (λ z. omega (arith, w, ap depth_of z)) in
      omega (arith, w, k.high)) in
      let le : e ≤ find_in e u (suc (live t)) c = omega arith in
      rw (holds_false e u (suc (live t)) c le)

  pub create_state : (bodies : List ℕ) → state_in e (stores (domain_words (live t) (next_handle t)) t) bodies ≡ created (state_in e t bodies)
  unfolding state_in u
  create_state bodies =
      let old : (k : ℕ) → k < live t → domain_in e u bodies k ≡ domain_in e t bodies k =
      λ k l i. record {
        handle = handle_old k (λ q. omega arith) i;
        holds = λ c. held_kept m e b t u bodies bodies ok firsts seconds (λ j s. refl) (suc k) c (omega arith) i;
      } in
      let new : domain_in e u bodies (live t) ≡ record { handle = next_handle t; holds = λ c. none } =
      λ i. record { handle = at_new i; holds = λ c. nothing_held bodies c i } in
      let doms : tab (live u) (domain_in e u bodies) ≡ tab (live t) (domain_in e t bodies) ++ record { handle = next_handle t; holds = λ c. none } ∷ [] =
      ap (λ (x : ℕ). tab x (domain_in e u bodies)) (at_live ∙ add-one (live t))
      ∙ tab_last (domain_in e u bodies) (live t)
      ∙ (λ i. tab_below (domain_in e u bodies) (domain_in e t bodies) (live t) old i ++ new i ∷ []) in
      λ i. record { next = at_next i; domains = doms i }

-- the three words may be named by pairs
pub create_names : (first n h : ℕ) → n < max_live → handle_at max_live ≤ first → names_ok first 0 (domain_words n h) ≡ true
unfolding names_ok
create_names first n h few front =
    let third : name_ok first (handle_at n) ≡ true = name_from first (handle_at n) (omega arith) (omega arith) in
    rw (name_live first, name_next first, third, lt-ltb next_at (handle_at n) (omega arith))
