-- A table that passes questions 1 to 4, read as it is lent: its pairs do not matter. Assumes nothing.
use Prim.Native.Nat.{ℕ, ◌<◌, ◌≤◌}
use mathlib.Core.Bool.{true}
use mathlib.Core.List.{List}
use mathlib.Core.Path.{◌≡◌, refl, sym, ap, subst, ◌∙◌}
use native.Mathlib.Omega.{arith}
use lib.ListN.{length, take}
use lib.Seq.{get_or-take}
use Rattle.words.specs.Layout.{cells_of, bodies_of, slots_of, pairs_at, live_at, next_at, handle_at, first_at, second_at, max_live}
use Rattle.words.specs.Stores.{Store, stores}
use Rattle.words.specs.Journal.{names_ok}
use Rattle.words.proofs.Plans.{take_stores}
use Rattle.words.proofs.Names.{names_below}
use Rattle.words.proofs.Places.{pending_at_below}
use Rattle.words.proofs.Journal.{effective_idle}
use Rattle.table.specs.Entry.{live, word1, word2}
use Rattle.table.proofs.Rule.{Rule, ok_facts, ok_make}
use Rattle.table.proofs.Agree.{ok_agree}
use Rattle.search.specs.Domain.{depth_named}
use Rattle.search.proofs.Value.{Copy}
use Rattle.model.specs.Holdings.{named}
use Rattle.store.specs.Outcome.{buffers}
use Rattle.store.specs.Checks.{store_check, lent}
use Rattle.store.specs.State.{state_in, state_of}
use Rattle.store.proofs.Checks.{store_idle, store_table, table_rule}
use Rattle.store.proofs.Domains.{state_named}
use Rattle.store.proofs.Means.{store_state, t_long}
use Rattle.store.proofs.State.{state_kept}

-- ---- the words in front of the pairs are all that the rule and the state read

pub rule_front : (m e b : ℕ) (t : List ℕ) → Rule m e b (take (pairs_at e) t) → Rule m e b t
rule_front m e b t r =
    ok_facts m e b t (sym (ok_agree m e b (take (pairs_at e) t) t (λ k l. get_or-take (pairs_at e) t k 0 l)) ∙ ok_make m e b (take (pairs_at e) t) r)

pub front_rule : (m e b : ℕ) (t : List ℕ) → Rule m e b t → Rule m e b (take (pairs_at e) t)
front_rule m e b t r =
    ok_facts m e b (take (pairs_at e) t) (ok_agree m e b (take (pairs_at e) t) t (λ k l. get_or-take (pairs_at e) t k 0 l) ∙ ok_make m e b t r)

pub front_state : (m e b : ℕ) (t bodies : List ℕ) → Rule m e b t → state_in e (take (pairs_at e) t) bodies ≡ state_in e t bodies
front_state m e b t bodies r =
    state_kept m e b t (take (pairs_at e) t) bodies bodies r
    (λ i l. get_or-take (pairs_at e) t (first_at e i) 0 (omega arith))
    (λ i l. get_or-take (pairs_at e) t (second_at e i) 0 (omega arith))
    (λ i c. refl)
    (get_or-take (pairs_at e) t live_at 0 (omega arith))
    (get_or-take (pairs_at e) t next_at 0 (omega arith))
    (λ k l. let h = r.live in get_or-take (pairs_at e) t (handle_at k) 0 (omega arith))

-- a copy of the front is a copy of the whole
pub front_copy : (e : ℕ) (t : List ℕ) (i : ℕ) → Copy e (take (pairs_at e) t) i → Copy e t i
front_copy e t i c =
    let l : i < e = c.slot in
    let w : word1 e (take (pairs_at e) t) i ≡ word1 e t i = get_or-take (pairs_at e) t (first_at e i) 0 (omega arith) in
    record { slot = l; used = λ z. c.used (w ∙ z); copy = rw w at c.copy; plain = rw w at c.plain }

pub front_second : (e : ℕ) (t : List ℕ) (i : ℕ) → i < e → word2 e (take (pairs_at e) t) i ≡ word2 e t i
front_second e t i l = get_or-take (pairs_at e) t (second_at e i) 0 (omega arith)

pub check_rule : (memory bodies : ℕ) (t : List ℕ) → store_check (lent memory bodies t) ≡ 0 → Rule (cells_of memory) (slots_of (length t)) (bodies_of bodies) t
check_rule memory bodies t pass =
    rule_front (cells_of memory) (slots_of (length t)) (bodies_of bodies) t
    (subst (λ (l : List ℕ). Rule (cells_of memory) (slots_of (length t)) (bodies_of bodies) l)
    (effective_idle (pairs_at (slots_of (length t))) t (store_idle memory bodies t pass))
    (table_rule memory bodies t (store_table memory bodies t pass)))

-- there are at most eight live domains
pub live_within : (memory bodies : ℕ) (t : List ℕ) → store_check (lent memory bodies t) ≡ 0 → live t ≤ max_live
live_within memory bodies t pass = (check_rule memory bodies t pass).live

module _ (memory bodies t : List ℕ) (yes : store_check (lent (length memory) (length bodies) t) ≡ 0) where
  pub raw_rule : Rule (cells_of (length memory)) (slots_of (length t)) (bodies_of (length bodies)) t
  raw_rule = check_rule (length memory) (length bodies) t yes

  -- the table has its head and its entries
  pub raw_long : pairs_at (slots_of (length t)) ≤ length t
  raw_long = omega (arith, t_long memory bodies t yes)

  pub raw_state : state_of (buffers memory bodies t) ≡ state_in (slots_of (length t)) t bodies
  raw_state = store_state memory bodies t yes ∙ front_state (cells_of (length memory)) (slots_of (length t)) (bodies_of (length bodies)) t bodies raw_rule

  -- a handle names the same depth
  pub raw_named : (h : ℕ) → named h (state_of (buffers memory bodies t)) ≡ depth_named t h
  raw_named h = ap (named h) raw_state ∙ state_named (slots_of (length t)) t bodies h

  -- changes of words that pairs may name, which stand in front of the pairs
  module _ (ws : List Store) (names : names_ok (pairs_at (slots_of (length t))) 0 ws ≡ true)
      (next : Rule (cells_of (length memory)) (slots_of (length t)) (bodies_of (length bodies)) (stores ws t)) where
    same_stores : take (pairs_at (slots_of (length t))) (stores ws t) ≡ stores ws (take (pairs_at (slots_of (length t))) t)
    same_stores =
        take_stores ws t (pairs_at (slots_of (length t))) (names_below (pairs_at (slots_of (length t))) 0 ws (pending_at_below (slots_of (length t))) names)

    pub raw_next : Rule (cells_of (length memory)) (slots_of (length t)) (bodies_of (length bodies)) (stores ws (take (pairs_at (slots_of (length t))) t))
    raw_next =
        subst (λ (l : List ℕ). Rule (cells_of (length memory)) (slots_of (length t)) (bodies_of (length bodies)) l) same_stores
        (front_rule (cells_of (length memory)) (slots_of (length t)) (bodies_of (length bodies)) (stores ws t) next)

    pub raw_after : (new : List ℕ) → state_in (slots_of (length t)) (stores ws (take (pairs_at (slots_of (length t))) t)) new ≡ state_in (slots_of (length t)) (stores ws t) new
    raw_after new =
        ap (λ (l : List ℕ). state_in (slots_of (length t)) l new) (sym same_stores)
        ∙ front_state (cells_of (length memory)) (slots_of (length t)) (bodies_of (length bodies)) (stores ws t) new next
