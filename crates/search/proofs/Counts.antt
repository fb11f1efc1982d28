-- How many entries pass a test on their first word. In a right table, of one depth, as many as cells that this depth holds with such an entry;
-- and where the last entries are free, as many as before these. Assumes nothing.
use Rattle.std.proofs.Common.{◌≡◌, ℕ, ◌<◌, ◌≤◌, Bool, true, false, ◌&&◌, eqb, List, sym, ap, ◌∙◌, arith, eq-eqb, eqb-true}
use Rattle.words.specs.Scan.{count}
use Rattle.words.proofs.Scan.{by_bool, and_split, and_join, true≢, count_ext, count_stop}
use Rattle.words.proofs.Image.{meets, meets_make, meets_none, Distinctly, count_image}
use Rattle.table.specs.Entry.{word1, depth_of, cell_of, find_in, holds_in}
use Rattle.table.specs.Marks.{FreeRun}
use Rattle.table.proofs.Entry.{names_make, find_hit, find_some, holds_true, holds_found}
use Rattle.table.proofs.Rule.{Rule}
use Rattle.table.proofs.Single.{only_one}

-- the entries from `top` on are free, and a test that fails of a free one counts none of them
pub count_front : (e : ℕ) (t : List ℕ) (top : ℕ) → top ≤ e → FreeRun e t top e → (P : ℕ → Bool) → P 0 ≡ false
    → count top (λ i. P (word1 e t i)) ≡ count e (λ i. P (word1 e t i))
count_front e t top within free P none =
    sym (count_stop e top (λ i. P (word1 e t i)) within (λ k l h. ap P (free k l h).0 ∙ none))

module _ (m e b : ℕ) (t : List ℕ) (ok : Rule m e b t) (d : ℕ) (low : 1 ≤ d) (P : ℕ → Bool) where
  abbrev passes : ℕ → Bool
  passes i = eqb (depth_of (word1 e t i)) d && P (word1 e t i)

  abbrev key : ℕ → ℕ
  key i = cell_of (word1 e t i)

  used_at : (i : ℕ) → passes i ≡ true → word1 e t i ≡ 0 → ⊥
  used_at i p z =
      let s = and_split (eqb (depth_of (word1 e t i)) d) (P (word1 e t i)) p in
      let q : depth_of (word1 e t i) ≡ d = eqb-true _ _ s.0 in
      let w : word1 e t i ≡ 0 = z in
      omega (arith, low)

  distinctly : Distinctly passes key m e
  distinctly =
      record {
        below = λ i l p. (ok.used i l (used_at i p)).cell;
        apart = λ i j l h p q k.
            let s = and_split (eqb (depth_of (word1 e t i)) d) (P (word1 e t i)) p in
            let r = and_split (eqb (depth_of (word1 e t j)) d) (P (word1 e t j)) q in
            (ok.apart_from i l j h (used_at i p) (used_at j q)).cells (eqb-true _ _ r.0 ∙ sym (eqb-true _ _ s.0)) k;
      }

  -- a key is met exactly where the depth holds that cell with an entry that passes
  met : (c : ℕ) → meets passes key e c ≡ (holds_in e t d c && P (word1 e t (find_in e t d c)))
  met c =
      by_bool (holds_in e t d c && P (word1 e t (find_in e t d c)))
      (λ y.
      let s = and_split (holds_in e t d c) (P (word1 e t (find_in e t d c))) y in
      let l = holds_found e t d c s.0 in
      let h = find_hit e t d c l in
      meets_make passes key e c (find_in e t d c) l (and_join _ _ (eq-eqb _ _ h.0) s.1) h.1 ∙ sym y)
      (λ y.
      meets_none passes key e c (λ i l p k.
      let s = and_split (eqb (depth_of (word1 e t i)) d) (P (word1 e t i)) p in
      let n = names_make e t d c (word1 e t i) (eqb-true _ _ s.0) k in
      let le = find_some e t d c i l (eqb-true _ _ s.0) k in
      let lt : find_in e t d c < e = omega arith in
      let h = find_hit e t d c lt in
      let one : find_in e t d c ≡ i = only_one m e b t ok (find_in e t d c) i d c low lt l (names_make e t d c _ h.0 h.1) n in
      true≢ (and_join (holds_in e t d c) (P (word1 e t (find_in e t d c))) (holds_true e t d c lt) (ap (λ (x : ℕ). P (word1 e t x)) one ∙ s.1)) y)
      ∙ sym y)

  pub count_entries : count e (λ i. eqb (depth_of (word1 e t i)) d && P (word1 e t i)) ≡ count m (λ c. holds_in e t d c && P (word1 e t (find_in e t d c)))
  count_entries = count_image passes key m e distinctly ∙ count_ext m (meets passes key e) (λ c. holds_in e t d c && P (word1 e t (find_in e t d c))) (λ c l. met c)
