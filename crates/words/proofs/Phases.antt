-- Laws of the journal's phases, as the code goes through them under a budget: pairs written, their number stored, the pairs applied. A
-- changing call cites the last section: pairs under a budget and then `finish_journal` are the call's journal under that budget.
-- Assumes nothing.
use mathlib.Core.Path.{◌≡◌, sym, ap, ◌∙◌, subst}
use mathlib.Core.List.{List, [], ◌∷◌, ◌++◌}
use Prim.Native.Nat.{ℕ, suc, ◌+◌, ◌-◌, ◌*◌, ◌<◌, ◌≤◌}
use native.Mathlib.Omega.{arith}
use borrow.Author.Tests.{eq-eqb, ne_eqb}
use lib.ListN.{length, get_or, take, set}
use lib.Seq.{take-append-le, take_all, get_or-set_other}
use Rattle.words.specs.Layout.{pending_at}
use Rattle.words.specs.Stores.{tab, Store, ◌≔◌, store, stores}
use Rattle.words.specs.Journal.{pair_at, pairs, apply_plan, pair_plan, pair_plans, journaled, journal, journal_steps, publish_plan, finish_plan}
use Rattle.words.proofs.Scan.{by_le}
use Rattle.words.proofs.Plans.{Each, each_take, each_tab, each_at, get_or_tab, nil, length_stores, stores_none, get_or_stores, run_append, run_take_append, run_take_tab}
use Rattle.words.proofs.Pairs.{length_pairs, length_apply_plan, length_pair_plans, length_journal, journal_some, journal_none, pairs_same, pair_plans_snoc, read_back}

-- ---- pairs applied: they name only words in front of them

module _ (t : List ℕ) (first p : ℕ) (below : (j : ℕ) → j < p → get_or t (first + 2 * j) 0 < first) where
  -- putting some of the pairs in place changes no pair
  pub get_or_pairs : (j i : ℕ) → first ≤ i → get_or (stores (take j (pairs t first p)) t) i 0 ≡ get_or t i 0
  unfolding pairs
  get_or_pairs j i h =
      get_or_stores (take j (tab p (pair_at t first))) t i
      (each_take (λ s. i ≡ s.at → ⊥) j (tab p (pair_at t first))
      (each_tab (λ s. i ≡ s.at → ⊥) (pair_at t first) p (λ k l e. let b = below k l in omega arith)))

  -- a turn of the loop that puts pairs in place
  pub apply_turn : (j : ℕ) (t' : List ℕ) → j < p → t' ≡ stores (take j (pairs t first p)) t
      → set t' (get_or t' (first + 2 * j) 0) (get_or t' (first + 2 * j + 1) 0) ≡ stores (take (j + 1) (pairs t first p)) t
  unfolding pairs
  apply_turn j t' h e =
      rw (e, get_or_pairs j (first + 2 * j) (omega arith), get_or_pairs j (first + 2 * j + 1) (omega arith))
      (run_take_tab store j p (pair_at t first) t h)

-- after the last pair, word 6
pub apply_last : (t : List ℕ) (first p k : ℕ) (t' : List ℕ) → p < k → t' ≡ stores (take p (pairs t first p)) t
    → set t' pending_at 0 ≡ stores (take k (apply_plan t first p)) t
unfolding apply_plan
apply_last t first p k t' h e =
    rw (e, take_all k (apply_plan t first p) (rw length_apply_plan (omega arith)), take_all p (pairs t first p) (rw length_pairs (omega arith)), run_append)

-- cut before word 6
pub apply_cut : (t : List ℕ) (first p k : ℕ) → k ≤ p → stores (take k (pairs t first p)) t ≡ stores (take k (apply_plan t first p)) t
unfolding apply_plan
apply_cut t first p k h = rw (take-append-le k (pairs t first p) ((pending_at ≔ 0) ∷ []) (rw length_pairs (omega arith)))

-- ---- once the pairs are written: their number first

pub publish_run : (t : List ℕ) (first p k : ℕ) (t' : List ℕ) → pending_at < first → (k ≡ 0 → ⊥)
    → t' ≡ stores (take (k - 1) (apply_plan (set t pending_at p) first p)) (set t pending_at p) → t' ≡ stores (take k (publish_plan t first p)) t
unfolding publish_plan apply_plan
publish_run t first p k t' h n e =
    let z : k ≡ suc (k - 1) = omega arith in
    e ∙ rw (pairs_same (set t pending_at p) t first p (λ i l. get_or-set_other t pending_at i p 0 (omega arith)))
    (ap (λ (i : ℕ). stores (take i (publish_plan t first p)) t) (sym z))

pub steps_none : (p : ℕ) → p ≡ 0 → 0 ≡ journal_steps p
steps_none p e = rw (eq-eqb p 0 e)

pub steps_some : (p : ℕ) → (p ≡ 0 → ⊥) → 3 * p + 2 ≡ journal_steps p
steps_some p e = rw (ne_eqb p 0 e)

pub steps_small : (p : ℕ) → journal_steps p ≤ 3 * p + 2
steps_small p = by_le p 0
    (λ h. let z : p ≡ 0 = omega arith in omega (arith, steps_none p z))
    (λ h. let z : p ≡ 0 → ⊥ = omega arith in omega (arith, steps_some p z))

pub finish_none : (t : List ℕ) (first p k : ℕ) → p ≡ 0 → t ≡ stores (take k (finish_plan t first p)) t
unfolding finish_plan
finish_none t first p k e = rw (eq-eqb p 0 e) (stores_none k t)

pub finish_some : (t : List ℕ) (first p : ℕ) → (p ≡ 0 → ⊥) → publish_plan t first p ≡ finish_plan t first p
unfolding finish_plan
finish_some t first p e = rw (ne_eqb p 0 e)

-- ---- pairs written one after another

-- one pair more, on what is left of the budget
pub pair_more : (first : ℕ) (ws : List Store) (w : Store) (k : ℕ) (t t₁ t₂ : List ℕ) → t₁ ≡ stores (take k (pair_plans first ws)) t
    → t₂ ≡ stores (take (k - 2 * length ws) (pair_plan (first + 2 * length ws) w.at w.val)) t₁
    → t₂ ≡ stores (take k (pair_plans first (ws ++ w ∷ []))) t
pair_more first ws w k t t₁ t₂ e₁ e₂ =
    e₂ ∙ rw (e₁, pair_plans_snoc)
    (sym (run_take_append store k (pair_plans first ws) (pair_plan (first + 2 * length ws) w.at w.val) t ∙ rw length_pair_plans))

-- the pairs that were written name words in front of the pairs
pub written_below : (first : ℕ) (ws : List Store) (t t₁ : List ℕ) (k : ℕ) → first + 2 * length ws ≤ length t → 2 * length ws ≤ k
    → t₁ ≡ stores (take k (pair_plans first ws)) t → Each (λ s. s.at < first) ws
    → (j : ℕ) → j < length ws → get_or t₁ (first + 2 * j) 0 < first
unfolding pairs
written_below first ws t t₁ k room h e below j l =
    let all : take k (pair_plans first ws) ≡ pair_plans first ws = take_all k (pair_plans first ws) (rw length_pair_plans h) in
    let w : t₁ ≡ stores (pair_plans first ws) t = e ∙ rw all in
    let same : get_or (pairs t₁ first (length ws)) j (0 ≔ 0) ≡ get_or ws j (0 ≔ 0) = rw (w, read_back ws first t room) in
    let here : pair_at t₁ first j ≡ get_or ws j (0 ≔ 0) = sym (get_or_tab (pair_at t₁ first) (length ws) j (0 ≔ 0) l) ∙ same in
    subst (λ (s : Store). s.at < first) (sym here) (each_at (λ s. s.at < first) ws j (0 ≔ 0) below l)

-- ---- the journal, phase by phase

-- cut in the pairs
pub journal_cut : (first : ℕ) (ws : List Store) (t : List ℕ) (k : ℕ) → k ≤ 2 * length ws
    → stores (take k (pair_plans first ws)) t ≡ stores (take k (journaled first ws)) t
unfolding journaled
journal_cut first ws t k h = rw (take-append-le k (pair_plans first ws) ((pending_at ≔ length ws) ∷ (ws ++ (pending_at ≔ 0) ∷ [])) (rw length_pair_plans h))

-- the pairs are written, and the rest is finished on what is left of the budget
pub journal_publish : (first : ℕ) (ws : List Store) (t t₁ t₂ : List ℕ) (k : ℕ) → first + 2 * length ws ≤ length t → 2 * length ws ≤ k
    → t₁ ≡ stores (take k (pair_plans first ws)) t → t₂ ≡ stores (take (k - 2 * length ws) (publish_plan t₁ first (length ws))) t₁
    → t₂ ≡ stores (take k (journaled first ws)) t
unfolding journaled publish_plan apply_plan
journal_publish first ws t t₁ t₂ k room h e₁ e₂ =
    let all : take k (pair_plans first ws) ≡ pair_plans first ws = take_all k (pair_plans first ws) (rw length_pair_plans h) in
    let w : t₁ ≡ stores (pair_plans first ws) t = e₁ ∙ rw all in
    e₂ ∙ rw (w, read_back ws first t room)
    (sym (run_take_append store k (pair_plans first ws) _ t ∙ rw (all, length_pair_plans)))

-- pairs under a budget, and then the rest: a journal under that budget
module _ (first : ℕ) (ws : List Store) (t t₁ : List ℕ) (k p : ℕ) (n : p ≡ length ws) (room : first + 2 * length ws ≤ length t)
    (e₁ : t₁ ≡ stores (take k (pair_plans first ws)) t) where
  -- what `finish_journal` requires
  pub journal_ready : pending_at < first → Each (λ s. s.at < first) ws
      → 2 * p ≤ k → (first + 2 * p ≤ length t₁) × (pending_at < first) × ((j : ℕ) → j < p → get_or t₁ (first + 2 * j) 0 < first)
  journal_ready front below h =
      let l : length t₁ ≡ length t = ap length e₁ ∙ length_stores (take k (pair_plans first ws)) t in
      let h' : 2 * length ws ≤ k = omega arith in
      (omega arith, front, λ j b. written_below first ws t t₁ k room h' e₁ below j (omega arith))

  -- its result is the journal's length
  pub journal_steps_lem : journal_steps p ≡ length (journal first ws)
  journal_steps_lem =
      by_le p 0
      (λ h. let z : p ≡ 0 = omega arith in let y : length ws ≡ 0 = omega arith in sym (steps_none p z) ∙ sym (ap length (journal_none first ws y)))
      (λ h. let z : p ≡ 0 → ⊥ = omega arith in let y : 0 < length ws = omega arith in sym (steps_some p z) ∙ rw n (sym (length_journal first ws y)))

  -- and the table is the journal's, cut at the budget
  pub journal_whole : (t₂ : List ℕ) → t₂ ≡ stores (take (k - 2 * p) (finish_plan t₁ first p)) t₁ → t₂ ≡ stores (take k (journal first ws)) t
  journal_whole t₂ e₂ = by_le p 0 none (λ h. some (omega arith))
    where
      none : p ≤ 0 → t₂ ≡ stores (take k (journal first ws)) t
      none h =
          let z : p ≡ 0 = omega arith in
          let y : length ws ≡ 0 = omega arith in
          let w : ws ≡ [] = nil ws y in
          e₂ ∙ sym (finish_none t₁ first p (k - 2 * p) z) ∙ e₁ ∙ rw w

      some : (p ≡ 0 → ⊥) → t₂ ≡ stores (take k (journal first ws)) t
      some z =
          let y : 0 < length ws = omega arith in
          let f : t₂ ≡ stores (take (k - 2 * length ws) (publish_plan t₁ first (length ws))) t₁ = e₂ ∙ rw (← finish_some t₁ first p z, n) in
          rw (← journal_some first ws y)
          (by_le (2 * length ws) k
          (λ h. journal_publish first ws t t₁ t₂ k room h e₁ f)
          (λ h. let q : k - 2 * length ws ≡ 0 = omega arith in f ∙ rw q (e₁ ∙ journal_cut first ws t k (omega arith))))
