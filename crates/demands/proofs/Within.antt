-- A store's domains hold cells of memory alone. Assumes nothing.
use Prim.Native.Nat.{ℕ, zero, suc, ◌≤◌, ◌<◌}
use mathlib.Core.List.{List}
use mathlib.Core.Option.{none}
use mathlib.Core.Path.{◌≡◌, sym, ap, subst, ◌∙◌}
use native.Mathlib.Omega.{arith}
use lib.ListN.{length, take}
use Rattle.words.specs.Layout.{cells_of, bodies_of, slots_of, pairs_at}
use Rattle.words.proofs.Scan.{by_le}
use Rattle.table.specs.Entry.{live, word1, depth_of, cell_of, find_in}
use Rattle.table.proofs.Rule.{Rule}
use Rattle.table.proofs.Entry.{find_none, holds_false}
use Rattle.model.specs.State.{State}
use Rattle.model.specs.Session.{Within}
use Rattle.store.specs.Outcome.{buffers}
use Rattle.store.specs.Checks.{store_check, lent}
use Rattle.store.specs.State.{held_in, state_in, state_of}
use Rattle.store.proofs.Means.{store_rule, store_state}
use Rattle.store.proofs.Domains.{state_holding, state_past, state_zero}

module _ (m e b : ℕ) (t bodies : List ℕ) (rule : Rule m e b t) where
  -- an entry of a live depth names a cell of memory
  unheld : (d c : ℕ) → 1 ≤ d → m ≤ c → held_in e t bodies d c ≡ none
  unfolding held_in
  unheld d c low out =
      let none_found : find_in e t d c ≡ e =
      find_none e t d c
      (λ j l p q.
      let used : word1 e t j ≡ 0 → ⊥ = λ z. let w : depth_of (word1 e t j) ≡ 0 = ap depth_of z in omega arith in
      let inside : cell_of (word1 e t j) < m = (rule.used j l used).cell in
      omega arith) in
      rw (holds_false e t d c (omega arith))

  state_within : Within m (state_in e t bodies)
  state_within zero c out = state_zero e t bodies c
  state_within (suc d) c out =
      by_le (suc d) (live t)
      (λ l. state_holding e t bodies (suc d) c (omega arith) l ∙ unheld (suc d) c (omega arith) out)
      (λ l. state_past e t bodies (suc d) c l)

pub store_within : (memory bodies t : List ℕ) → store_check (lent (length memory) (length bodies) t) ≡ 0
    → Within (cells_of (length memory)) (state_of (buffers memory bodies t))
store_within memory bodies t passed =
    subst (λ (s : State). Within (cells_of (length memory)) s) (sym (store_state memory bodies t passed))
    (state_within (cells_of (length memory)) (slots_of (length t)) (bodies_of (length bodies)) (take (pairs_at (slots_of (length t))) t) bodies
    (store_rule memory bodies t passed))
