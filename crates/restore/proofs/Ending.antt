-- The table that restore leaves is right, and stands for the state without the domains inside the named one. What stays keeps its value: a via
-- parent chain runs outwards, so it never meets an entry that is freed. Assumes nothing.
use Prim.Native.Nat.{ℕ, ◌≤◌, ◌<◌}
use mathlib.Core.List.{List, []}
use mathlib.Core.Logic.{inl}
use mathlib.Core.Path.{◌≡◌, refl, sym, ap, ◌∙◌}
use native.Mathlib.Omega.{arith}
use borrow.Author.Tests.{ltb-true, ltb-false}
use lib.Dec.{ltb}
use lib.ListN.{length, take}
use Rattle.words.specs.Layout.{pairs_at}
use Rattle.words.specs.Stores.{stores, tab}
use Rattle.words.proofs.Scan.{by_bool, not_lt}
use Rattle.words.proofs.Plans.{take_tab}
use Rattle.table.specs.Entry.{live, next_handle, word1, depth_of}
use Rattle.table.proofs.Rule.{Rule}
use Rattle.table.proofs.Head.{ended_low, first_remain}
use Rattle.model.specs.Restore.{restored}
use Rattle.store.specs.State.{held_in, domain_in, state_in}
use Rattle.store.proofs.Domains.{held_none}
use Rattle.store.proofs.Becoming.{Never, Fate, keeps, frees, Becomes, becomes_rule, becomes_state}
use Rattle.restore.specs.Restore.{restore_change}
use Rattle.restore.specs.Parts.{head_words, ending_words}

-- restore over a right table t of at least its head and its entries, where the first d of the live domains stay
module _ (m e b : ℕ) (t : List ℕ) (ok : Rule m e b t) (long : pairs_at e ≤ length t) (d : ℕ) (low : 1 ≤ d) (high : d ≤ live t) where
  -- they hold what they held
  fate : (bodies : List ℕ) (i : ℕ) → i < e → Fate m e b t bodies bodies d (held_in e t bodies) (λ i. i) Never Never i (restore_change e t d i)
  unfolding restore_change
  fate bodies i l =
      by_bool (ltb d (depth_of (word1 e t i)))
      (λ p. rw p (frees (λ one near. absurd (not_lt d (depth_of (word1 e t i)) (ltb-true d (depth_of (word1 e t i)) p) near))))
      (λ p. rw p (keeps (λ k q. record { high = ltb-false d (depth_of (word1 e t i)) p; holding = q; outer = λ v. refl; home = λ v. refl })))

  becomes : (bodies : List ℕ) → Becomes m e b t bodies bodies d (held_in e t bodies) (λ i. i) Never Never (head_words d (live t)) (restore_change e t d)
  becomes bodies =
      record {
        right = ok;
        long = long;
        low = ended_low d (live t) ok.live;
        head = first_remain (restore_change e t d) ok long d high;
        spared = λ i k. refl;
        fate = fate bodies;
        lacked = λ x c one near z. inl (held_none e t bodies x c z);
        own = λ i j l h x y p. p;
        cells = λ i j c l h p. absurd p;
        bodies = λ i j v l h p. absurd p;
      }

  pub end_rule : Rule m e b (stores (ending_words e t d (live t)) t)
  end_rule = becomes_rule (becomes [])

  pub end_state : (bodies : List ℕ) → state_in e (stores (ending_words e t d (live t)) t) bodies ≡ restored d (state_in e t bodies)
  unfolding state_in
  end_state bodies =
      becomes_state (becomes bodies) ∙ (λ i. record { next = next_handle t; domains = sym (take_tab (domain_in e t bodies) (live t) d high) i })

-- where nobody is ended, the state is as it was
pub none_ended : (e : ℕ) (t bodies : List ℕ) (d : ℕ) → live t ≡ d → state_in e t bodies ≡ restored d (state_in e t bodies)
unfolding state_in
none_ended e t bodies d q =
    let all : tab (live t) (domain_in e t bodies) ≡ take d (tab (live t) (domain_in e t bodies)) =
    ap (λ (n : ℕ). tab n (domain_in e t bodies)) q ∙ sym (take_tab (domain_in e t bodies) (live t) d (omega arith)) in
    λ i. record { next = next_handle t; domains = all i }
