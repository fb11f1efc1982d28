-- List: the words that it gives are the handles of the state. Assumes nothing.
use Prim.Native.Nat.{ℕ, zero, suc, ◌+◌, ◌-◌, ◌≤◌, ◌<◌}
use mathlib.Core.List.{List, ◌∷◌, ◌++◌, map}
use mathlib.Core.Path.{◌≡◌, refl, sym, ap, ◌∙◌}
use native.Mathlib.Omega.{arith}
use lib.ListN.{length, replicate}
use Rattle.words.specs.Layout.{max_live, slots_of}
use Rattle.words.specs.Stores.{tab, tab_from}
use Rattle.words.proofs.Plans.{map_tab_from}
use Rattle.table.specs.Entry.{live, handle}
use Rattle.table.proofs.Head.{handle_unused}
use Rattle.model.specs.State.{Domain, State}
use Rattle.model.specs.Answer.{done}
use Rattle.model.specs.Calls.{listed, list_refused}
use Rattle.store.specs.Outcome.{Buffers, buffers}
use Rattle.store.specs.Checks.{store_check, lent, lent_of}
use Rattle.store.specs.State.{domain_in, state_in, state_of}
use Rattle.store.specs.Means.{or_list_refused, list_means}
use Rattle.store.proofs.Means.{live_count}
use Rattle.store.proofs.Raw.{live_within, raw_rule, raw_state}

-- a list by a rule that gives 0 from some place on
all_zero : (f : ℕ → ℕ) (at r : ℕ) → ((j : ℕ) → j < r → f (at + j) ≡ 0) → tab_from f at r ≡ replicate r 0
all_zero f at zero h = refl
all_zero f at (suc r) h =
    let z : at ≡ at + 0 = omega arith in
    let one : f at ≡ 0 = ap f z ∙ h 0 (omega arith) in
    λ i. one i ∷ all_zero f (suc at) r (λ j l. let s : suc at + j ≡ at + suc j = omega arith in ap f s ∙ h (suc j) (omega arith)) i

zeros_after : (f : ℕ → ℕ) (at n r total : ℕ) → total ≡ n + r → ((j : ℕ) → j < r → f (at + n + j) ≡ 0) → tab_from f at total ≡ tab_from f at n ++ replicate r 0
zeros_after f at zero r total e h =
    let t : total ≡ r = omega arith in
    ap (tab_from f at) t ∙ all_zero f at r (λ j l. let s : at + j ≡ at + 0 + j = omega arith in ap f s ∙ h j l)
zeros_after f at (suc n) r zero e h = absurd (omega arith)
zeros_after f at (suc n) r (suc total) e h =
    ap {B = List ℕ} (λ l. f at ∷ l)
    (zeros_after f (suc at) n r total (omega arith) (λ j l. let s : suc at + n + j ≡ at + suc n + j = omega arith in ap f s ∙ h j l))

state_handles : (e : ℕ) (t bodies : List ℕ) → map (λ d. d.handle) (state_in e t bodies).domains ≡ tab (live t) (handle t)
unfolding state_in
state_handles e t bodies = map_tab_from (λ (d : Domain). d.handle) (domain_in e t bodies) 0 (live t)

module _ (memory bodies t : List ℕ) (yes : store_check (lent (length memory) (length bodies) t) ≡ 0) where
  few : live t ≤ max_live
  few = live_within (length memory) (length bodies) t yes

  handles_of : map (λ d. d.handle) (state_of (buffers memory bodies t)).domains ≡ tab (live t) (handle t)
  handles_of =
      ap (λ (s : State). map (λ d. d.handle) s.domains) (raw_state memory bodies t yes)
      ∙ state_handles (slots_of (length t)) t bodies

  unused : (j : ℕ) → j < max_live - live t → handle t (0 + live t + j) ≡ 0
  unused j l =
      let f = few in
      let z : 0 + live t + j ≡ live t + j = omega arith in
      ap (handle t) z ∙ handle_unused t (live t + j) ((raw_rule memory bodies t yes).handles (live t + j) (omega arith)) (omega arith)

  pub handles_listed : tab max_live (handle t)
      ≡ map (λ d. d.handle) (state_of (buffers memory bodies t)).domains ++ replicate (8 - length (state_of (buffers memory bodies t)).domains) 0
  handles_listed =
      let f = few in
      rw (handles_of, live_count memory bodies t yes)
      (zeros_after (handle t) 0 (live t) (max_live - live t) max_live (omega arith) unused)

  pub list_done : (n : ℕ) (hs : List ℕ) → n ≡ live t → hs ≡ tab max_live (handle t)
      → record { report = done 0 0; count = n; handles = hs } ≡ list_means (buffers memory bodies t)
  unfolding list_means
  list_done n hs p q =
      let count : n ≡ length (state_of (buffers memory bodies t)).domains = p ∙ sym (live_count memory bodies t yes) in
      rw yes (λ i. record { report = done 0 0; count = count i; handles = (q ∙ handles_listed) i })

pub list_refused_lem : (q : ℕ) (b : Buffers) → q ≡ store_check (lent_of b) → (q ≡ 0 → ⊥) → list_refused q ≡ list_means b
unfolding list_means
list_refused_lem q b e h = go (store_check (lent_of b)) e
  where
    go : (n : ℕ) → q ≡ n → list_refused q ≡ or_list_refused n (listed (state_of b))
    go zero z = absurd (h z)
    go (suc n) z = ap list_refused z
