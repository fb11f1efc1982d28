-- Laws of lists gathered one after another, and of pairs written so. Assumes nothing.
use mathlib.Core.Path.{◌≡◌, refl, sym, ap, ◌∙◌}
use mathlib.Core.Bool.{Bool, cond}
use mathlib.Core.List.{List, [], ◌∷◌, ◌++◌, append_assoc, append-nil}
use mathlib.Core.Logic.{⊎_elim}
use Prim.Native.Nat.{ℕ, zero, suc, ◌+◌, ◌-◌, ◌*◌, ◌<◌, ◌≤◌}
use native.Mathlib.Nat.{not-suc-le-zero, le_of_suc-le-suc, eq-or-lt_of_le, mul-zero, mul-suc}
use native.Mathlib.Numerals.{add-one}
use native.Mathlib.Omega.{arith}
use lib.ListN.{length, take, length-append}
use Rattle.words.specs.Scan.{count}
use Rattle.words.specs.Stores.{gather, run, Store, ◌≔◌, store, stores}
use Rattle.words.specs.Journal.{pair_plans}
use Rattle.words.proofs.Scan.{by_le, by_bool}
use Rattle.words.proofs.Plans.{Each, each_append, run_take_append}
use Rattle.words.proofs.Pairs.{length_pair_plans}

module _ {A : Type 0} (f : ℕ → List A) where
  pub gather_more : (i : ℕ) → gather (i + 1) f ≡ gather i f ++ f i
  gather_more i = rw add-one

  pub gather_length : (i made n : ℕ) → made ≡ length (gather i f) → n ≡ length (f i) → made + n ≡ length (gather (i + 1) f)
  gather_length i made n e h = rw (gather_more i, length-append, e, h)

  -- a turn of a loop that carries out what element i asks, on what remains of the budget
  pub gather_turn : {S : Type 0} (g : A → S → S) (k i made : ℕ) (s s₁ s₂ : S) → made ≡ length (gather i f) → s₁ ≡ run g (take k (gather i f)) s
      → s₂ ≡ run g (take (k - made) (f i)) s₁ → s₂ ≡ run g (take k (gather (i + 1) f)) s
  gather_turn g k i made s s₁ s₂ m e₁ e₂ =
      e₂ ∙ rw (e₁, m, gather_more i) (sym (run_take_append g k (gather i f) (f i) s))

  pub each_gather : (P : A → Type 0) (n : ℕ) → ((i : ℕ) → i < n → Each P (f i)) → Each P (gather n f)
  each_gather P zero h = tt
  each_gather P (suc n) h = each_append P (gather n f) (f n) (each_gather P n (λ i l. h i (omega arith))) (h n (omega arith))

module _ {A : Type 0} where
  pub gather_ext : (n : ℕ) (f g : ℕ → List A) → ((i : ℕ) → i < n → f i ≡ g i) → gather n f ≡ gather n g
  gather_ext zero f g h = refl
  gather_ext (suc n) f g h = rw (gather_ext n f g (λ i l. h i (omega arith)), h n (omega arith))

  -- elements that add nothing
  pub gather_skip : (f : ℕ → List A) (a b : ℕ) → a ≤ b → ((i : ℕ) → a ≤ i → i < b → f i ≡ []) → gather b f ≡ gather a f
  gather_skip f a zero l h = let z : 0 ≡ a = omega arith in ap (λ (n : ℕ). gather n f) z
  gather_skip f a (suc b) l h =
      by_le a b
      (λ q. ap (λ (x : List A). gather b f ++ x) (h b q (omega arith)) ∙ append-nil (gather b f) ∙ gather_skip f a b q (λ i r s. h i r (omega arith)))
      (λ q. let z : suc b ≡ a = omega arith in ap (λ (n : ℕ). gather n f) z)

  pub gather_none : (n : ℕ) (f : ℕ → List A) → ((i : ℕ) → i < n → f i ≡ []) → gather n f ≡ []
  gather_none n f h = gather_skip f 0 n (omega arith) (λ i l b. h i b)

  -- k for each element of which p holds
  pub gather_count : (k n : ℕ) (p : ℕ → Bool) (f : ℕ → List A) → ((i : ℕ) → length (f i) ≡ cond (p i) k 0) → length (gather n f) ≡ k * count n p
  unfolding count
  gather_count k zero p f h = sym (mul-zero k)
  gather_count k (suc n) p f h =
      length-append (gather n f) (f n)
      ∙ rw (gather_count k n p f h, h n)
      (by_bool (p n) (λ z. rw z (sym (mul-suc k (count n p)))) (λ z. rw z (omega arith)))

  -- in two parts
  pub gather_split : (f : ℕ → List A) (a b : ℕ) → gather (a + b) f ≡ gather a f ++ gather b (λ j. f (a + j))
  gather_split f a zero =
      let s : a + 0 ≡ a = omega arith in
      ap (λ (n : ℕ). gather n f) s ∙ sym (append-nil (gather a f))
  gather_split f a (suc b) =
      let s : a + suc b ≡ suc (a + b) = omega arith in
      ap (λ (n : ℕ). gather n f) s ∙ ap (λ (l : List A). l ++ f (a + b)) (gather_split f a b) ∙ append_assoc (gather a f) (gather b (λ j. f (a + j))) (f (a + b))

  -- the first element that adds something, and the others
  pub gather_first : (n z : ℕ) (f g : ℕ → List A) → z < n → ((i : ℕ) → i < z → f i ≡ []) → g z ≡ [] → ((i : ℕ) → (i ≡ z → ⊥) → g i ≡ f i)
      → gather n f ≡ f z ++ gather n g
  gather_first zero z f g l before here others = absurd (not-suc-le-zero l)
  gather_first (suc n) z f g l before here others =
      ⊎_elim
      (λ (q : z ≡ n).
      let none : gather n f ≡ [] = gather_none n f (λ i b. before i (omega arith)) in
      let same : gather n g ≡ [] = gather_none n g (λ i b. others i (λ e. omega arith) ∙ before i (omega arith)) in
      rw (none, same, ← q, here) (sym (append-nil (f z))))
      (λ (q : z < n).
      rw (gather_first n z f g q before here others, others n (λ e. omega arith)) (append_assoc (f z) (gather n g) (f n)))
      (eq-or-lt_of_le (le_of_suc-le-suc l))

-- ---- pairs

pub pair_plans_append : (at : ℕ) (xs ys : List Store) → pair_plans at (xs ++ ys) ≡ pair_plans at xs ++ pair_plans (at + 2 * length xs) ys
pair_plans_append at [] ys =
    let z : at ≡ at + 2 * 0 = omega arith in
    ap (λ (i : ℕ). pair_plans i ys) z
pair_plans_append at (x ∷ xs) ys =
    let z : at + 2 + 2 * length xs ≡ at + 2 * suc (length xs) = omega arith in
    ap {B = List Store} (λ l. (at ≔ x.at) ∷ (at + 1 ≔ x.val) ∷ l)
    (pair_plans_append (at + 2) xs ys ∙ ap (λ (i : ℕ). pair_plans (at + 2) xs ++ pair_plans i ys) z)

-- some pairs more, on what remains of the budget
pub pairs_more : (first k n : ℕ) (ws vs : List Store) (t t₁ t₂ : List ℕ) → n ≡ length ws → t₁ ≡ stores (take k (pair_plans first ws)) t
    → t₂ ≡ stores (take (k - 2 * n) (pair_plans (first + 2 * n) vs)) t₁ → t₂ ≡ stores (take k (pair_plans first (ws ++ vs))) t
pairs_more first k n ws vs t t₁ t₂ m e₁ e₂ =
    e₂ ∙ rw (e₁, m, pair_plans_append)
    (sym (run_take_append store k (pair_plans first ws) (pair_plans (first + 2 * length ws) vs) t ∙ rw length_pair_plans))
