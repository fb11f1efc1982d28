-- Laws of pairs as lists: the pairs that were written are the pairs that are read, and what opening a table takes. Assumes nothing.
use mathlib.Core.Path.{◌≡◌, refl, ap, ◌∙◌}
use mathlib.Core.List.{List, [], ◌∷◌, ◌++◌}
use Prim.Native.Nat.{ℕ, suc, ◌+◌, ◌*◌, ◌<◌, ◌≤◌}
use native.Mathlib.Nat.{not-suc-le-zero}
use native.Mathlib.Omega.{arith}
use borrow.Author.Tests.{eq-eqb, ne_eqb}
use lib.ListN.{length, get_or, set, length-set, length-append}
use lib.Seq.{get_or-set_other, get_or-set_same}
use Rattle.words.specs.Layout.{pending_at}
use Rattle.words.specs.Stores.{tab_from, Store, ◌≔◌, stores}
use Rattle.words.specs.Journal.{pair_at, pairs, pending, apply_plan, open_plan, pair_plan, pair_plans, journaled, journal}
use Rattle.words.proofs.Scan.{by_le}
use Rattle.words.proofs.Plans.{length_tab, tab_shift, tab_same, Each, get_d_front}

-- ---- lengths

pub length_pairs : (t : List ℕ) (first p : ℕ) → length (pairs t first p) ≡ p
unfolding pairs
length_pairs t first p = length_tab (pair_at t first) p

pub length_apply_plan : (t : List ℕ) (first p : ℕ) → length (apply_plan t first p) ≡ p + 1
unfolding apply_plan
length_apply_plan t first p = length-append (pairs t first p) ((pending_at ≔ 0) ∷ []) ∙ ap (λ (n : ℕ). n + 1) (length_pairs t first p)

pub length_pair_plans : (at : ℕ) (ws : List Store) → length (pair_plans at ws) ≡ 2 * length ws
length_pair_plans at [] = refl
length_pair_plans at (w ∷ ws) = rw (length_pair_plans (at + 2) ws) (omega arith)

pub length_journaled : (first : ℕ) (ws : List Store) → length (journaled first ws) ≡ 3 * length ws + 2
unfolding journaled
length_journaled first ws = simp (length-append, length_pair_plans) (omega arith)

pub length_journal : (first : ℕ) (ws : List Store) → 0 < length ws → length (journal first ws) ≡ 3 * length ws + 2
length_journal first [] h = absurd (not-suc-le-zero h)
length_journal first (w ∷ ws) h = length_journaled first (w ∷ ws)

-- ---- a journal with changes, and one with none

pub journal_some : (first : ℕ) (ws : List Store) → 0 < length ws → journaled first ws ≡ journal first ws
journal_some first [] h = absurd (not-suc-le-zero h)
journal_some first (w ∷ ws) h = refl

pub journal_none : (first : ℕ) (ws : List Store) → length ws ≡ 0 → journal first ws ≡ []
journal_none first [] h = refl
journal_none first (w ∷ ws) h = absurd (omega arith)

-- ---- pairs read

pair_at_next : (t : List ℕ) (first i : ℕ) → pair_at t first (suc i) ≡ pair_at t (first + 2) i
pair_at_next t first i =
    let a : first + 2 * suc i ≡ first + 2 + 2 * i = omega arith in
    ap (λ (k : ℕ). get_or t k 0 ≔ get_or t (k + 1) 0) a

pub pairs_suc : (t : List ℕ) (first p : ℕ) → pairs t first (suc p) ≡ (get_or t first 0 ≔ get_or t (first + 1) 0) ∷ pairs t (first + 2) p
unfolding pairs
pairs_suc t first p =
    let z : first + 2 * 0 ≡ first = omega arith in
    ap (λ (k : ℕ). (get_or t k 0 ≔ get_or t (k + 1) 0) ∷ tab_from (pair_at t first) 1 p) z
    ∙ ap {B = List Store} (λ l. (get_or t first 0 ≔ get_or t (first + 1) 0) ∷ l)
    (tab_shift (pair_at t first) 0 p ∙ tab_same (λ i. pair_at t first (suc i)) (pair_at t (first + 2)) 0 p (pair_at_next t first))

pub pairs_none : (t : List ℕ) (first : ℕ) → pairs t first 0 ≡ []
unfolding pairs
pairs_none t first = refl

-- the pairs lie from `first` on: what lies in front of them does not count
pub pairs_same : (t t' : List ℕ) (first p : ℕ) → ((i : ℕ) → first ≤ i → get_or t i 0 ≡ get_or t' i 0) → pairs t first p ≡ pairs t' first p
unfolding pairs
pairs_same t t' first p h =
    tab_same (pair_at t first) (pair_at t' first) 0 p
    (λ i. rw (h (first + 2 * i) (omega arith), h (first + 2 * i + 1) (omega arith)))

-- ---- pairs written

pub pair_plans_from : (at : ℕ) (ws : List Store) → Each (λ s. at ≤ s.at) (pair_plans at ws)
pair_plans_from at ws = go at ws at (omega arith)
  where
    go : (at : ℕ) (ws : List Store) (low : ℕ) → low ≤ at → Each (λ s. low ≤ s.at) (pair_plans at ws)
    go at [] low h = tt
    go at (w ∷ ws) low h = (h, (omega arith, go (at + 2) ws low (omega arith)))

-- one pair more
pub pair_plans_snoc : (at : ℕ) (ws : List Store) (w : Store)
    → pair_plans at (ws ++ w ∷ []) ≡ pair_plans at ws ++ pair_plan (at + 2 * length ws) w.at w.val
pair_plans_snoc at [] w =
    let z : at ≡ at + 2 * 0 = omega arith in
    ap (λ (i : ℕ). pair_plan i w.at w.val) z
pair_plans_snoc at (v ∷ ws) w =
    let z : at + 2 + 2 * length ws ≡ at + 2 * suc (length ws) = omega arith in
    ap {B = List Store} (λ l. (at ≔ v.at) ∷ (at + 1 ≔ v.val) ∷ l)
    (pair_plans_snoc (at + 2) ws w ∙ ap (λ (i : ℕ). pair_plans (at + 2) ws ++ pair_plan i w.at w.val) z)

-- the pairs that were written are the pairs that are read
pub read_back : (ws : List Store) (at : ℕ) (t : List ℕ) → at + 2 * length ws ≤ length t
    → pairs (stores (pair_plans at ws) t) at (length ws) ≡ ws
unfolding pairs
read_back [] at t h = refl
read_back (w ∷ ws) at t h =
    let t₁ : List ℕ = set t at w.at in
    let t₂ : List ℕ = set t₁ (at + 1) w.val in
    let r : List ℕ = stores (pair_plans (at + 2) ws) t₂ in
    let n : length t₂ ≡ length t = length-set t₁ (at + 1) w.val ∙ length-set t at w.at in
    let f : get_or r at 0 ≡ w.at = get_d_front (pair_plans (at + 2) ws) t₂ (at + 2) at (pair_plans_from (at + 2) ws) (omega arith)
    ∙ get_or-set_other t₁ (at + 1) at w.val 0 (omega arith) ∙ get_or-set_same t at w.at 0 (omega arith) in
    let v : get_or r (at + 1) 0 ≡ w.val = get_d_front (pair_plans (at + 2) ws) t₂ (at + 2) (at + 1) (pair_plans_from (at + 2) ws) (omega arith)
    ∙ get_or-set_same t₁ (at + 1) w.val 0 (rw (length-set t at w.at) (omega arith)) in
    pairs_suc r at (length ws)
    ∙ rw (f, v, read_back ws (at + 2) t₂ (rw n (omega arith)))

-- ---- what opening a table takes

pub open_idle : (first : ℕ) (t : List ℕ) → pending t ≡ 0 → open_plan first t ≡ []
unfolding open_plan
open_idle first t e = rw (eq-eqb (pending t) 0 e)

pub open_pending : (first p : ℕ) (t : List ℕ) → pending t ≡ p → 0 < p → open_plan first t ≡ apply_plan t first p
unfolding open_plan
open_pending first p t e h =
    let n : pending t ≡ 0 → ⊥ = λ z. omega arith in
    rw (ne_eqb (pending t) 0 n, e)

pub length_open_plan : (first : ℕ) (t : List ℕ) → length (open_plan first t) ≤ pending t + 1
length_open_plan first t =
    by_le (pending t) 0
    (λ h.
    let z : pending t ≡ 0 = omega arith in
    rw (open_idle first t z) (omega arith))
    (λ h. rw (open_pending first (pending t) t refl h, length_apply_plan) (omega arith))
