-- Laws of counts, and of the r-th number that passes a test. Assumes nothing.
use Prim.Native.Nat.{ℕ, zero, suc, ◌+◌, ◌-◌, ◌≤◌, ◌<◌}
use mathlib.Core.Bool.{Bool, true, false, ◌&&◌}
use mathlib.Core.Path.{◌≡◌, refl, sym, ap, subst, ◌∙◌}
use native.Mathlib.Nat.{not-suc-le-zero}
use native.Mathlib.Omega.{arith}
use borrow.Author.Tests.{eq-eqb, ne_eqb}
use lib.Dec.{eqb}
use Rattle.words.specs.Scan.{first, count, nth}
use Rattle.words.proofs.Scan.{by_bool, by_le, and_split, and_join, is_false, true≢, first_at_lem, first_le, first_hit, first_miss, first_ext, count_ext}

-- ---- counts
module _ (f : ℕ → Bool) where
  count_suc : (n : ℕ) → f n ≡ true → count (suc n) f ≡ suc (count n f)
  unfolding count
  count_suc n h = rw h

  count_same : (n : ℕ) → f n ≡ false → count (suc n) f ≡ count n f
  unfolding count
  count_same n h = rw h

  count_step : (n : ℕ) → count n f ≤ count (suc n) f
  count_step n = by_bool (f n) (λ h. omega (arith, count_suc n h)) (λ h. omega (arith, count_same n h))

  pub count_mono : (k n : ℕ) → k ≤ n → count k f ≤ count n f
  count_mono k zero l = let z : k ≡ 0 = omega arith in rw z (omega arith)
  count_mono k (suc n) l =
      by_le (suc n) k
      (λ h. let z : k ≡ suc n = omega arith in rw z (omega arith))
      (λ h. omega (arith, count_mono k n (omega arith), count_step n))

  pub count_below : (k n : ℕ) → k < n → f k ≡ true → count k f < count n f
  count_below k n l h = omega (arith, count_suc k h, count_mono (suc k) n l)

  -- two numbers that pass and have as many below them are one
  pub same_rank : (i j : ℕ) → f i ≡ true → f j ≡ true → count i f ≡ count j f → i ≡ j
  same_rank i j p q h =
      by_le i j
      (λ l. by_le j i (λ r. omega arith) (λ r. absurd (never (count_below i j r p) h)))
      (λ l. absurd (never (count_below j i l q) (sym h)))
    where
      never : {a b : ℕ} → a < b → a ≡ b → ⊥
      never l e = omega arith

  -- where none from `at` on and below n passes
  count_flat : (at n : ℕ) → at ≤ n → ((k : ℕ) → at ≤ k → k < n → f k ≡ false) → count n f ≡ count at f
  count_flat at zero l h = let z : 0 ≡ at = omega arith in ap (λ (x : ℕ). count x f) z
  count_flat at (suc n) l h =
      by_le (suc n) at
      (λ q. let z : suc n ≡ at = omega arith in ap (λ (x : ℕ). count x f) z)
      (λ q. count_same n (h n (omega arith) (omega arith)) ∙ count_flat at n (omega arith) (λ k a b. h k a (omega arith)))

  -- there is an r-th
  some : (n r : ℕ) → r < count n f → (k : ℕ) × (k < n) × (f k ≡ true) × (count k f ≡ r)
  unfolding count
  some zero r h = absurd (not-suc-le-zero h)
  some (suc n) r h =
      by_bool (f n)
      (λ p.
      by_le (count n f) r
      (λ q. (n, omega arith, p, omega (arith, h, count_suc n p)))
      (λ q. let s = some n r q in (s.0, omega (arith, s.1), s.2, s.3)))
      (λ p. let s = some n r (rw p at h) in (s.0, omega (arith, s.1), s.2, s.3))

-- ---- the r-th
module _ (n : ℕ) (f : ℕ → Bool) where
  pub nth_of : (k : ℕ) → k < n → f k ≡ true → nth n f (count k f) ≡ k
  unfolding nth
  nth_of k l h =
      first_at_lem n (λ j. f j && eqb (count j f) (count k f)) k (omega arith)
      (λ j b. is_false (f j && eqb (count j f) (count k f)) (λ p. let s = and_split (f j) (eqb (count j f) (count k f)) p in true≢ s.1 (ne_eqb (count j f) (count k f) (λ z. omega (arith, z, count_below f j k b s.0)))))
      (λ _. and_join (f k) (eqb (count k f) (count k f)) h (eq-eqb (count k f) (count k f) refl))

  module _ (r : ℕ) (l : r < count n f) where
    nth_facts : (nth n f r < n) × (f (nth n f r) ≡ true) × (count (nth n f r) f ≡ r)
    nth_facts =
        let s = some f n r l in
        let at : nth n f r ≡ s.0 = subst (λ (x : ℕ). nth n f x ≡ s.0) s.3 (nth_of s.0 s.1 s.2) in
        (rw at s.1, rw at s.2, rw at s.3)

    pub nth_below : nth n f r < n
    nth_below = nth_facts.0

    pub nth_holds : f (nth n f r) ≡ true
    nth_holds = nth_facts.1

    pub nth_rank : count (nth n f r) f ≡ r
    nth_rank = nth_facts.2

  pub nth_apart : (r s : ℕ) → r < count n f → s < count n f → nth n f r ≡ nth n f s → r ≡ s
  nth_apart r s lr ls q = sym (nth_rank r lr) ∙ ap (λ (x : ℕ). count x f) q ∙ nth_rank s ls

  -- a walk that has passed r of them finds the r-th from there on
  pub nth_from : (r at : ℕ) → count at f ≡ r → at ≤ n → nth n f r ≡ at + first (n - at) (λ k. f (at + k))
  unfolding nth
  nth_from r at q l =
      first_at_lem n (λ j. f j && eqb (count j f) r) i le
      (λ j b. is_false (f j && eqb (count j f) r) (λ p. let s = and_split (f j) (eqb (count j f) r) p in not_before j b s.0 s.1))
      (λ b. and_join (f i) (eqb (count i f) r) (first_hit (n - at) (λ k. f (at + k)) (omega arith)) (eq-eqb _ _ (count_flat f at i (omega arith) fails ∙ q)))
    where
      i : ℕ
      i = at + first (n - at) (λ k. f (at + k))

      le : i ≤ n
      le = omega (arith, first_le (n - at) (λ k. f (at + k)))

      fails : (k : ℕ) → at ≤ k → k < i → f k ≡ false
      fails k a b =
          let back : at + (k - at) ≡ k = omega arith in
          subst (λ (x : ℕ). f x ≡ false) back (first_miss (n - at) (λ k. f (at + k)) (k - at) (omega arith))

      not_before : (j : ℕ) → j < i → f j ≡ true → eqb (count j f) r ≡ true → ⊥
      not_before j b p e =
          by_le at j
          (λ a. true≢ p (fails j a b))
          (λ a. true≢ e (ne_eqb (count j f) r (λ z. omega (arith, z, q, count_below f j at a p))))

pub nth_ext : (n : ℕ) (f g : ℕ → Bool) (r : ℕ) → ((k : ℕ) → k < n → f k ≡ g k) → nth n f r ≡ nth n g r
unfolding nth
nth_ext n f g r h = first_ext n (λ k. f k && eqb (count k f) r) (λ k. g k && eqb (count k g) r) (λ k l. rw (h k l, count_ext k f g (λ j b. h j (omega arith))))
