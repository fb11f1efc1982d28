-- What a table with pending pairs means, and that opening it is safe: stopped anywhere and begun again any number of times, an opening ends in
-- the same table, and the table means the same all along. Assumes nothing.
use mathlib.Core.Path.{◌≡◌, refl, sym, ap, ◌∙◌, subst}
use mathlib.Core.Bool.{true, false}
use mathlib.Core.List.{List, [], ◌∷◌}
use Prim.Native.Nat.{ℕ, ◌+◌, ◌*◌, ◌<◌, ◌≤◌}
use native.Mathlib.Omega.{arith}
use lib.ListN.{length, get_or, take, set}
use lib.Seq.{take-append-le, take_all, get_or-set_same, set-get_or}
use Rattle.words.specs.Layout.{pending_at}
use Rattle.words.specs.Stores.{Store, ◌≔◌, store, stores}
use Rattle.words.specs.Journal.{pairs, pending, name_ok, names_ok, effective, apply_plan, open_plan, openings}
use Rattle.words.proofs.Scan.{by_le, true≢}
use Rattle.words.proofs.Plans.{Each, each_take, each_append, each_map, length_stores, get_or_stores, replay, run_append}
use Rattle.words.proofs.Pairs.{length_pairs, length_open_plan, pairs_none, pairs_same, open_idle, open_pending}
use Rattle.words.proofs.Names.{names_each, names_fine, names_below, names_rising, names_none}

-- ---- what a table means

-- the effective table is what opening leaves in front of the pairs
pub effective_open : (first : ℕ) (t : List ℕ) → effective first t ≡ take first (stores (open_plan first t) t)
unfolding effective apply_plan
effective_open first t = by_le (pending t) 0 idle busy
  where
    idle : pending t ≤ 0 → effective first t ≡ take first (stores (open_plan first t) t)
    idle h =
        let z : pending t ≡ 0 = omega arith in
        let none : pairs t first 0 ≡ [] = pairs_none t first in
        rw (open_idle first t z, z, none) (ap (λ (v : ℕ). take first (set t pending_at v)) (sym z) ∙ ap (take first) (set-get_or t pending_at 0))

    busy : 0 < pending t → effective first t ≡ take first (stores (open_plan first t) t)
    busy h = rw (open_pending first (pending t) t refl h) (ap (take first) (sym (run_append store (pairs t first (pending t)) ((pending_at ≔ 0) ∷ []) t)))

pub effective_idle : (first : ℕ) (t : List ℕ) → pending t ≡ 0 → effective first t ≡ take first t
effective_idle first t e = effective_open first t ∙ rw (open_idle first t e)

-- an index that no pair names, other than word 6's, is in no store of the pairs' application
apply_others : (t : List ℕ) (first p i : ℕ) → Each (λ s. i ≡ s.at → ⊥) (pairs t first p) → (i ≡ pending_at → ⊥)
    → Each (λ s. i ≡ s.at → ⊥) (apply_plan t first p)
unfolding apply_plan
apply_others t first p i h n = each_append (λ s. i ≡ s.at → ⊥) (pairs t first p) ((pending_at ≔ 0) ∷ []) h (n, tt)

-- ---- opening any table whose pending pairs are as they should be

module _ (first : ℕ) (t : List ℕ) (front : pending_at < first) (room : first + 2 * pending t ≤ length t)
    (names : names_ok first 0 (pairs t first (pending t)) ≡ true) where
  -- the table after k steps of opening
  abbrev pub opening : ℕ → List ℕ
  opening k = stores (take k (open_plan first t)) t

  -- the table after k pairs are in place
  abbrev partly : ℕ → List ℕ
  partly k = stores (take k (pairs t first (pending t))) t

  below : Each (λ s. s.at < first) (pairs t first (pending t))
  below = names_below first 0 (pairs t first (pending t)) front names

  -- no pair names word 6
  others : Each (λ s. pending_at ≡ s.at → ⊥) (pairs t first (pending t))
  others =
      each_map (λ s. (s.at < first) × (s.at ≡ pending_at → ⊥)) (λ s. pending_at ≡ s.at → ⊥) (pairs t first (pending t))
      (λ s f e. f.1 (sym e)) (names_fine first 0 (pairs t first (pending t)) front names)

  partly_pending : (k : ℕ) → pending (partly k) ≡ pending t
  partly_pending k =
      get_or_stores (take k (pairs t first (pending t))) t pending_at (each_take (λ s. pending_at ≡ s.at → ⊥) k (pairs t first (pending t)) others)

  -- the pairs stay as they are, since none names a word among them
  partly_pairs : (k : ℕ) → pairs (partly k) first (pending t) ≡ pairs t first (pending t)
  partly_pairs k =
      pairs_same (partly k) t first (pending t)
      (λ i h. get_or_stores (take k (pairs t first (pending t))) t i
      (each_take (λ s. i ≡ s.at → ⊥) k (pairs t first (pending t))
      (each_map (λ s. s.at < first) (λ s. i ≡ s.at → ⊥) (pairs t first (pending t)) (λ s b e. omega arith) below)))

  -- so the rest is opened as the whole was
  partly_plan : (k : ℕ) → open_plan first (partly k) ≡ open_plan first t
  unfolding open_plan apply_plan
  partly_plan k = rw (partly_pending k, partly_pairs k)

  -- a stopped opening has some pairs in place, and one that was not stopped is whole
  early : (k : ℕ) → k ≤ pending t → opening k ≡ partly k
  unfolding apply_plan
  early k l =
      by_le (pending t) 0
      (λ h.
      let z : k ≡ 0 = omega arith in
      rw z)
      (λ h. rw (open_pending first (pending t) t refl h, take-append-le k (pairs t first (pending t)) ((pending_at ≔ 0) ∷ []) (rw length_pairs l)))

  late : (k : ℕ) → pending t < k → opening k ≡ stores (open_plan first t) t
  late k l =
      let n : length (open_plan first t) ≤ k = omega (arith, length_open_plan first t) in
      rw (take_all k (open_plan first t) n)

  -- nothing is pending then
  pub opening_done : pending (stores (open_plan first t) t) ≡ 0
  unfolding apply_plan
  opening_done =
      by_le (pending t) 0
      (λ h.
      let z : pending t ≡ 0 = omega arith in
      rw (open_idle first t z) z)
      (λ h.
      rw (open_pending first (pending t) t refl h, run_append store (pairs t first (pending t)) ((pending_at ≔ 0) ∷ []) t)
      (get_or-set_same (stores (pairs t first (pending t)) t) pending_at 0 0 (rw length_stores (omega arith))))

  -- the pairs put in place once more, from the first
  partly_again : (k : ℕ) → k ≤ pending t → stores (open_plan first t) (partly k) ≡ stores (open_plan first t) t
  unfolding apply_plan
  partly_again k l = by_le (pending t) 0 none some
    where
      none : pending t ≤ 0 → stores (open_plan first t) (partly k) ≡ stores (open_plan first t) t
      none h =
          let z : k ≡ 0 = omega arith in
          rw z

      some : 0 < pending t → stores (open_plan first t) (partly k) ≡ stores (open_plan first t) t
      some h =
          let ps : List Store = pairs t first (pending t) in
          let long : Each (λ s. s.at < length t) ps = each_map (λ s. s.at < first) (λ s. s.at < length t) ps (λ s b. omega arith) below in
          rw (open_pending first (pending t) t refl h)
          (run_append store ps ((pending_at ≔ 0) ∷ []) (partly k)
          ∙ ap (λ (l : List ℕ). set l pending_at 0) (replay ps t k (names_rising first 0 ps names) long)
          ∙ sym (run_append store ps ((pending_at ≔ 0) ∷ []) t))

  -- opening a table whose opening was stopped gives what the opening would have given
  pub opening_again : (k : ℕ) → stores (open_plan first (opening k)) (opening k) ≡ stores (open_plan first t) t
  opening_again k =
      by_le k (pending t)
      (λ l. subst (λ (u : List ℕ). stores (open_plan first u) u ≡ stores (open_plan first t) t) (sym (early k l)) (rw (partly_plan k) (partly_again k l)))
      (λ l. subst (λ (u : List ℕ). stores (open_plan first u) u ≡ stores (open_plan first t) t) (sym (late k l))
      (rw (open_idle first (stores (open_plan first t) t) opening_done)))

  -- and the table means the same all along
  pub opening_effective : (k : ℕ) → effective first (opening k) ≡ effective first t
  opening_effective k = effective_open first (opening k) ∙ ap (take first) (opening_again k) ∙ sym (effective_open first t)

  -- its pairs are as they should be
  pub opening_names : (k : ℕ) → names_ok first 0 (pairs (opening k) first (pending (opening k))) ≡ true
  opening_names k =
      by_le k (pending t)
      (λ l. subst (λ (u : List ℕ). names_ok first 0 (pairs u first (pending u)) ≡ true) (sym (early k l)) (rw (partly_pending k, partly_pairs k) names))
      (λ l. subst (λ (u : List ℕ). names_ok first 0 (pairs u first (pending u)) ≡ true) (sym (late k l))
      (names_none first (stores (open_plan first t) t) opening_done))

  -- all of them are pending until the opening is whole
  pub opening_stopped : (k : ℕ) → k ≤ pending t → pending (opening k) ≡ pending t
  opening_stopped k l = ap (λ (u : List ℕ). pending u) (early k l) ∙ partly_pending k

  pub opening_count : (k : ℕ) → pending (opening k) ≤ pending t
  opening_count k =
      by_le k (pending t)
      (λ l. omega (arith, opening_stopped k l))
      (λ l. rw (late k l, opening_done) (omega arith))

  -- a word that no pair may name, other than word 6, keeps its value
  pub opening_kept : (k i : ℕ) → i < first → (i ≡ pending_at → ⊥) → name_ok first i ≡ false → get_or (opening k) i 0 ≡ get_or t i 0
  opening_kept k i l n e = get_or_stores (take k (open_plan first t)) t i (each_take (λ s. i ≡ s.at → ⊥) k (open_plan first t) apart)
    where
      ps : List Store
      ps = pairs t first (pending t)

      named : Each (λ s. i ≡ s.at → ⊥) ps
      named =
          each_map (λ s. name_ok first s.at ≡ true) (λ s. i ≡ s.at → ⊥) ps
          (λ s h q. true≢ (subst (λ (w : ℕ). name_ok first w ≡ true) (sym q) h) e) (names_each first 0 ps names)

      apart : Each (λ s. i ≡ s.at → ⊥) (open_plan first t)
      apart =
          by_le (pending t) 0
          (λ h.
          let z : pending t ≡ 0 = omega arith in
          rw (open_idle first t z) tt)
          (λ h. rw (open_pending first (pending t) t refl h) (apply_others t first (pending t) i named n))

  pub opening_length : (k : ℕ) → length (opening k) ≡ length t
  opening_length k = length_stores (take k (open_plan first t)) t

-- ---- openings that are stopped, one after another

pub openings_length : (first : ℕ) (ks : List ℕ) (t : List ℕ) → length (openings first ks t) ≡ length t
openings_length first [] t = refl
openings_length first (k ∷ ks) t = openings_length first ks (stores (take k (open_plan first t)) t) ∙ length_stores (take k (open_plan first t)) t

-- the next opening leaves what the first would have left
pub openings_again : (first : ℕ) (t : List ℕ) → pending_at < first → first + 2 * pending t ≤ length t
    → names_ok first 0 (pairs t first (pending t)) ≡ true → (ks : List ℕ)
    → stores (open_plan first (openings first ks t)) (openings first ks t) ≡ stores (open_plan first t) t
openings_again first t front room names [] = refl
openings_again first t front room names (k ∷ ks) =
    let u : List ℕ = stores (take k (open_plan first t)) t in
    let n : pending u ≤ pending t = opening_count first t front room names k in
    let l : length u ≡ length t = opening_length first t front room names k in
    let r : first + 2 * pending u ≤ length u = omega arith in
    openings_again first u front r (opening_names first t front room names k) ks ∙ opening_again first t front room names k
