-- Laws of the search for an entry by its key. Assumes nothing.
use Rattle.std.proofs.Common.{◌≡◌, ℕ, ◌+◌, ◌^◌, ◌<◌, ◌≤◌, Bool, true, false, ◌||◌, eqb, leb, List, get_or, sym, ap, ◌∙◌, arith, eqb-true, leb-false, leb-true}
use borrow.Author.Tests.{eqb-false}
use Rattle.words.specs.Layout.{max_cells}
use Rattle.words.proofs.Scan.{by_bool, or_split}
use Rattle.table.specs.Entry.{word1, depth_of, cell_of, names, find_in}
use Rattle.table.proofs.Entry.{find_at, find_none}
use Rattle.search.specs.Search.{IsKey, named_by, Unnamed}
use Rattle.search.proofs.From.{Failing, failing_join}

-- ---- entries that are passed over

module _ (f : ℕ → Bool) (i : ℕ) where
  four_failing : f i ≡ false → f (i + 1) ≡ false → f (i + 2) ≡ false → f (i + 3) ≡ false → Failing f i (i + 4)
  four_failing p q r s k l h =
      by_bool (eqb k i) (λ z. ap f (eqb-true k i z) ∙ p) (λ z.
      by_bool (eqb k (i + 1)) (λ y. ap f (eqb-true k (i + 1) y) ∙ q) (λ y.
      by_bool (eqb k (i + 2)) (λ x. ap f (eqb-true k (i + 2) x) ∙ r) (λ x.
      let last : k ≡ i + 3 = omega (arith, eqb-false k i z, eqb-false k (i + 1) y, eqb-false k (i + 2) x) in
      ap f last ∙ s)))

  pub none_of_four : (a b c d : Bool) → a ≡ f i → b ≡ f (i + 1) → c ≡ f (i + 2) → d ≡ f (i + 3) → ((a || b) || (c || d)) ≡ false → Failing f i (i + 4)
  none_of_four a b c d p q r s h =
      let two = or_split (a || b) (c || d) h in
      let x = or_split a b two.0 in
      let y = or_split c d two.1 in
      four_failing (sym p ∙ x.0) (sym q ∙ x.1) (sym r ∙ y.0) (sym s ∙ y.1)

  pub none_of_eight : (from : ℕ) (a b : Bool) → Failing f from i → (a ≡ false → Failing f i (i + 4)) → (b ≡ false → Failing f (i + 4) (i + 4 + 4)) → (a || b) ≡ false
      → Failing f from (i + 8)
  none_of_eight from a b h p q z =
      let two = or_split a b z in
      failing_join f from i (i + 8) h (failing_join f i (i + 4) (i + 8) (p two.0) (λ k l s. q two.1 k l (omega arith)))

-- ---- what is found by a key
module _ (e : ℕ) (t : List ℕ) (d c key : ℕ) (is : IsKey d c key) where
  same_names : (w : ℕ) → named_by key w ≡ names d c w
  same_names w = rw (is.depth, is.cell)

  pub found_by_key : (i : ℕ) → i ≤ e → Unnamed e t key 0 i → (i < e → named_by key (word1 e t i) ≡ true) → find_in e t d c ≡ i
  found_by_key i l h s =
      find_at e t d c i l (λ j k. sym (same_names (word1 e t j)) ∙ h j (omega arith) k) (λ k. sym (same_names (word1 e t i)) ∙ s k)

-- ---- no word has a depth or a cell so large
module _ (e : ℕ) (t : List ℕ) (d c : ℕ) where
  pub none_wide : max_cells ≤ c → find_in e t d c ≡ e
  none_wide l = find_none e t d c (λ j _ _ q. too_wide (word1 e t j) q)
    where
      too_wide : (w : ℕ) → cell_of w ≡ c → ⊥
      too_wide w q = omega arith

  none_deep : ((k : ℕ) → get_or t k 0 < 2 ^ 32) → 16 ≤ d → find_in e t d c ≡ e
  none_deep words l = find_none e t d c (λ j _ q _. too_deep (word1 e t j) (words _) q)
    where
      too_deep : (w : ℕ) → w < 2 ^ 32 → depth_of w ≡ d → ⊥
      too_deep w s q = omega arith

  -- the code's test
  pub none_beyond : ((k : ℕ) → get_or t k 0 < 2 ^ 32) → (leb 16 d || leb max_cells c) ≡ true → find_in e t d c ≡ e
  none_beyond words h =
      by_bool (leb 16 d)
      (λ p. none_deep words (leb-true 16 d p))
      (λ p. none_wide (leb-true max_cells c (rw p at h)))

pub within : (d c : ℕ) → (leb 16 d || leb max_cells c) ≡ false → (d < 16) × (c < max_cells)
within d c h = let s = or_split (leb 16 d) (leb max_cells c) h in (leb-false 16 d s.0, leb-false max_cells c s.1)
