-- The journal is atomic: cut anywhere, a table means what it meant before, up to the store of word 6, and the changed table from then on; and
-- opening a cut table gives the table of the uncut call. A journal cut behind that store is an opening that was stopped, so what lies behind it
-- follows from the laws of openings. Assumes nothing.
use mathlib.Core.Path.{◌≡◌, sym, ap, ◌∙◌, subst}
use mathlib.Core.Bool.{true}
use mathlib.Core.List.{List, [], ◌∷◌, ◌++◌}
use Prim.Native.Nat.{ℕ, suc, ◌+◌, ◌-◌, ◌*◌, ◌<◌, ◌≤◌}
use native.Mathlib.Omega.{arith}
use lib.ListN.{length, get_or, take, set, length-set}
use lib.Seq.{take_all, get_or-set_other, get_or-set_same, set-get_or, set-set}
use Rattle.words.specs.Layout.{pending_at}
use Rattle.words.specs.Stores.{Store, ◌≔◌, store, stores}
use Rattle.words.specs.Journal.{pairs, pending, names_ok, effective, apply_plan, open_plan, pair_plans, journaled, openings}
use Rattle.words.proofs.Scan.{by_le}
use Rattle.words.proofs.Plans.{Each, each_take, each_append, each_map, length_stores, get_or_stores, get_d_front, take_front, stores_set, take_stores, run_append, run_take_append}
use Rattle.words.proofs.Pairs.{pairs_same, pair_plans_from, read_back}
use Rattle.words.proofs.Phases.{journal_cut}
-- what a call cites beside the laws below
pub use Rattle.words.proofs.Pairs.{length_pair_plans, open_pending}
pub use Rattle.words.proofs.Names.{names_fine, names_below, names_none}
pub use Rattle.words.proofs.Opening.{effective_open, effective_idle, opening, opening_effective, opening_again, opening_names, opening_count, opening_stopped, opening_done, opening_kept, opening_length, openings_length, openings_again}

-- ---- the journal of some changes over an idle table

-- the pairs are written
abbrev pub written : ℕ → List Store → List ℕ → List ℕ
written first ws t = stores (pair_plans first ws) t

-- and their number, which makes them pending
abbrev pub published : ℕ → List Store → List ℕ → List ℕ
published first ws t = set (written first ws t) pending_at (length ws)

module _ (first : ℕ) (ws : List Store) (t : List ℕ) (front : pending_at < first) (room : first + 2 * length ws ≤ length t)
    (idle : pending t ≡ 0) (some : 0 < length ws) (names : names_ok first 0 ws ≡ true) where
  -- the table after k steps of the journal
  abbrev pub cut : ℕ → List ℕ
  cut k = stores (take k (journaled first ws)) t

  pub cut_length : (k : ℕ) → length (cut k) ≡ length t
  cut_length k = length_stores (take k (journaled first ws)) t

  -- ---- up to the store of word 6: nothing is pending

  pub cut_idle : (k : ℕ) → k ≤ 2 * length ws → pending (cut k) ≡ 0
  cut_idle k h =
      rw (← journal_cut first ws t k h)
      (get_d_front (take k (pair_plans first ws)) t first pending_at (each_take (λ s. first ≤ s.at) k (pair_plans first ws) (pair_plans_from first ws)) front
      ∙ idle)

  pub cut_old : (k : ℕ) → k ≤ 2 * length ws → effective first (cut k) ≡ take first t
  cut_old k h =
      effective_idle first (cut k) (cut_idle k h)
      ∙ rw (← journal_cut first ws t k h)
      (take_front (take k (pair_plans first ws)) t first (each_take (λ s. first ≤ s.at) k (pair_plans first ws) (pair_plans_from first ws)))

  -- ---- from then on: a table whose pairs are pending, and its opening

  written_length : length (written first ws t) ≡ length t
  written_length = length_stores (pair_plans first ws) t

  published_length : length (published first ws t) ≡ length t
  published_length = length-set (written first ws t) pending_at (length ws) ∙ written_length

  published_pending : pending (published first ws t) ≡ length ws
  published_pending = get_or-set_same (written first ws t) pending_at (length ws) 0 (rw written_length (omega arith))

  published_pairs : pairs (published first ws t) first (length ws) ≡ ws
  published_pairs =
      pairs_same (published first ws t) (written first ws t) first (length ws)
      (λ i h. get_or-set_other (written first ws t) pending_at i (length ws) 0 (omega arith))
      ∙ read_back ws first t room

  published_room : first + 2 * pending (published first ws t) ≤ length (published first ws t)
  published_room = rw (published_pending, published_length) room

  published_names : names_ok first 0 (pairs (published first ws t) first (pending (published first ws t))) ≡ true
  published_names = rw (published_pending, published_pairs) names

  published_plan : open_plan first (published first ws t) ≡ ws ++ (pending_at ≔ 0) ∷ []
  unfolding apply_plan
  published_plan = open_pending first (length ws) (published first ws t) published_pending some ∙ rw published_pairs

  cut_late : (k : ℕ) → 2 * length ws < k
      → cut k ≡ stores (take (k - (2 * length ws + 1)) (open_plan first (published first ws t))) (published first ws t)
  unfolding journaled
  cut_late k h =
      let m : ℕ = k - (2 * length ws + 1) in
      let z : k - length (pair_plans first ws) ≡ suc m = rw length_pair_plans (omega arith) in
      run_take_append store k (pair_plans first ws) ((pending_at ≔ length ws) ∷ (ws ++ (pending_at ≔ 0) ∷ [])) t
      ∙ rw (z, take_all k (pair_plans first ws) (rw length_pair_plans (omega arith)), published_plan)

  -- the whole journal is the pairs' opening
  whole_open : stores (open_plan first (published first ws t)) (published first ws t) ≡ stores (journaled first ws) t
  unfolding journaled
  whole_open =
      ap (λ (l : List Store). stores l (published first ws t)) published_plan
      ∙ sym (run_append store (pair_plans first ws) ((pending_at ≔ length ws) ∷ (ws ++ (pending_at ≔ 0) ∷ [])) t)

  pub cut_pending : (k : ℕ) → 2 * length ws < k → k ≤ 3 * length ws + 1 → pending (cut k) ≡ length ws
  cut_pending k h l =
      let m : k - (2 * length ws + 1) ≤ pending (published first ws t) = rw published_pending (omega arith) in
      ap (λ (u : List ℕ). pending u) (cut_late k h)
      ∙ opening_stopped first (published first ws t) front published_room published_names (k - (2 * length ws + 1)) m
      ∙ published_pending

  -- opening the cut table gives, word for word, the uncut call's table
  pub cut_reopen : (k : ℕ) → 2 * length ws < k → stores (open_plan first (cut k)) (cut k) ≡ stores (journaled first ws) t
  cut_reopen k h =
      rw (cut_late k h) (opening_again first (published first ws t) front published_room published_names (k - (2 * length ws + 1)))
      ∙ whole_open

  pub cut_whole : pending (stores (journaled first ws) t) ≡ 0
  cut_whole = rw (← whole_open) (opening_done first (published first ws t) front published_room published_names)

  -- the whole journal leaves the pairs and the changes
  pub whole : stores (journaled first ws) t ≡ stores ws (written first ws t)
  whole =
      let others : Each (λ s. s.at ≡ pending_at → ⊥) ws =
      each_map (λ s. (s.at < first) × (s.at ≡ pending_at → ⊥)) (λ s. s.at ≡ pending_at → ⊥) ws (λ s f. f.1) (names_fine first 0 ws front names) in
      let w : List ℕ = written first ws t in
      let zero-then : pending w ≡ 0 = get_d_front (pair_plans first ws) t first pending_at (pair_plans_from first ws) front ∙ idle in
      sym whole_open
      ∙ ap (λ (l : List Store). stores l (published first ws t)) published_plan
      ∙ run_append store ws ((pending_at ≔ 0) ∷ []) (published first ws t)
      ∙ ap (λ (l : List ℕ). set l pending_at 0) (stores_set ws w pending_at (length ws) others)
      ∙ set-set (stores ws w) pending_at (length ws) 0
      ∙ ap (set (stores ws w) pending_at) (sym (get_or_stores ws w pending_at (each_map (λ s. s.at ≡ pending_at → ⊥) (λ s. pending_at ≡ s.at → ⊥) ws (λ s f e. f (sym e)) others) ∙ zero-then))
      ∙ set-get_or (stores ws w) pending_at 0

  -- so it means the changed table
  pub whole_new : take first (stores (journaled first ws) t) ≡ stores ws (take first t)
  whole_new =
      ap (take first) whole
      ∙ take_stores ws (written first ws t) first (names_below first 0 ws front names)
      ∙ ap (stores ws) (take_front (pair_plans first ws) t first (pair_plans_from first ws))

  pub cut_new : (k : ℕ) → 2 * length ws < k → effective first (cut k) ≡ stores ws (take first t)
  cut_new k h = effective_open first (cut k) ∙ ap (take first) (cut_reopen k h) ∙ whole_new

  -- ---- at every cut

  pub cut_names : (k : ℕ) → names_ok first 0 (pairs (cut k) first (pending (cut k))) ≡ true
  cut_names k =
      by_le k (2 * length ws)
      (λ h. names_none first (cut k) (cut_idle k h))
      (λ h. rw (cut_late k h) (opening_names first (published first ws t) front published_room published_names (k - (2 * length ws + 1))))

  pub cut_count : (k : ℕ) → pending (cut k) ≤ length ws
  cut_count k =
      by_le k (2 * length ws)
      (λ h. rw (cut_idle k h) (omega arith))
      (λ h.
      rw (cut_late k h)
      (subst (λ (n : ℕ). pending (stores (take (k - (2 * length ws + 1)) (open_plan first (published first ws t))) (published first ws t)) ≤ n) published_pending
      (opening_count first (published first ws t) front published_room published_names (k - (2 * length ws + 1)))))

  -- a word in front of the pairs, other than word 6, that no change names keeps its value
  pub cut_kept : (k i : ℕ) → i < first → (i ≡ pending_at → ⊥) → Each (λ s. i ≡ s.at → ⊥) ws → get_or (cut k) i 0 ≡ get_or t i 0
  unfolding journaled
  cut_kept k i l n h =
      get_or_stores (take k (journaled first ws)) t i
      (each_take (λ s. i ≡ s.at → ⊥) k (journaled first ws)
      (each_append (λ s. i ≡ s.at → ⊥) (pair_plans first ws) ((pending_at ≔ length ws) ∷ (ws ++ (pending_at ≔ 0) ∷ []))
      (each_map (λ s. first ≤ s.at) (λ s. i ≡ s.at → ⊥) (pair_plans first ws) (λ s b e. omega arith) (pair_plans_from first ws))
      (n, each_append (λ s. i ≡ s.at → ⊥) ws ((pending_at ≔ 0) ∷ []) h (n, tt))))

  -- ---- after any number of stopped openings

  pub cut_openings_again : (k : ℕ) (ks : List ℕ) → 2 * length ws < k
      → stores (open_plan first (openings first ks (cut k))) (openings first ks (cut k)) ≡ stores (journaled first ws) t
  cut_openings_again k ks h =
      rw (cut_late k h) (openings_again first (published first ws t) front published_room published_names ((k - (2 * length ws + 1)) ∷ ks))
      ∙ whole_open

  pub cut_openings : (k : ℕ) (ks : List ℕ) → 2 * length ws < k → effective first (openings first ks (cut k)) ≡ stores ws (take first t)
  cut_openings k ks h = effective_open first (openings first ks (cut k)) ∙ ap (take first) (cut_openings_again k ks h) ∙ whole_new
