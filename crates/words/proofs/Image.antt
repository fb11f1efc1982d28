-- Counting by an image: where a map takes the counted numbers below n to different numbers below m, as many are counted as are met.
-- Assumes nothing.
use Prim.Native.Nat.{ℕ, zero, suc, ◌<◌}
use mathlib.Core.Bool.{Bool, true, false, ◌&&◌}
use mathlib.Core.Path.{◌≡◌, refl, sym, ap, ◌∙◌}
use native.Mathlib.Nat.{not-suc-le-zero}
use native.Mathlib.Omega.{arith}
use borrow.Author.Tests.{eq-eqb, eqb-true, lt-ltb, ltb-true}
use lib.Dec.{ltb, eqb}
use Rattle.words.specs.Scan.{first, count}
use Rattle.words.proofs.Scan.{by_bool, by_le, and_split, and_join, is_false, true≢, first_hit, first_miss, count_ext, count_flip, count_none}

module _ (counted : ℕ → Bool) (key : ℕ → ℕ) where
  -- is c the key of a counted number below n?
  unfoldable pub meets : ℕ → ℕ → Bool
  meets n c = ltb (first n (λ i. counted i && eqb (key i) c)) n

  pub meets_make : (n c i : ℕ) → i < n → counted i ≡ true → key i ≡ c → meets n c ≡ true
  unfolding meets
  meets_make n c i l u k =
      by_le n (first n (λ i. counted i && eqb (key i) c))
      (λ h. absurd (true≢ (and_join (counted i) (eqb (key i) c) u (eq-eqb (key i) c k)) (first_miss n (λ i. counted i && eqb (key i) c) i (omega arith))))
      (λ h. lt-ltb _ _ h)

  pub meets_some : (n c : ℕ) → meets n c ≡ true → (i : ℕ) × (i < n) × (counted i ≡ true) × (key i ≡ c)
  unfolding meets
  meets_some n c h =
      let l = ltb-true (first n (λ i. counted i && eqb (key i) c)) n h in
      let s = and_split (counted (first n (λ i. counted i && eqb (key i) c))) (eqb (key (first n (λ i. counted i && eqb (key i) c))) c) (first_hit n (λ i. counted i && eqb (key i) c) l) in
      (first n (λ i. counted i && eqb (key i) c), l, s.0, eqb-true _ _ s.1)

  pub meets_none : (n c : ℕ) → ((i : ℕ) → i < n → counted i ≡ true → key i ≡ c → ⊥) → meets n c ≡ false
  meets_none n c h = is_false (meets n c) (λ p. let s = meets_some n c p in h s.0 s.1 s.2 s.3)

  module _ (m : ℕ) where
    -- the keys of the counted numbers below n differ and are below m
    pub record Distinctly (n : ℕ) : Type 0 where
      pub below : (i : ℕ) → i < n → counted i ≡ true → key i < m
      pub apart : (i j : ℕ) → i < n → j < i → counted i ≡ true → counted j ≡ true → key j ≡ key i → ⊥

    fewer : (n : ℕ) → Distinctly (suc n) → Distinctly n
    fewer n d = record { below = λ i l. d.below i (omega arith); apart = λ i j l. d.apart i j (omega arith) }

    -- one number more
    same_without : (n c : ℕ) → counted n ≡ false → meets (suc n) c ≡ meets n c
    same_without n c z =
        by_bool (meets n c)
        (λ p. let s = meets_some n c p in meets_make (suc n) c s.0 (omega arith) s.2 s.3 ∙ sym p)
        (λ p. meets_none (suc n) c (λ i l u k.
        by_le n i
        (λ h. let q : i ≡ n = omega arith in true≢ u (ap counted q ∙ z))
        (λ h. true≢ (meets_make n c i h u k) p)) ∙ sym p)

    same_other : (n c : ℕ) → (c ≡ key n → ⊥) → meets (suc n) c ≡ meets n c
    same_other n c ne =
        by_bool (meets n c)
        (λ p. let s = meets_some n c p in meets_make (suc n) c s.0 (omega arith) s.2 s.3 ∙ sym p)
        (λ p. meets_none (suc n) c (λ i l u k.
        by_le n i
        (λ h. let q : i ≡ n = omega arith in ne (sym k ∙ ap key q))
        (λ h. true≢ (meets_make n c i h u k) p)) ∙ sym p)

    pub count_image : (n : ℕ) → Distinctly n → count n counted ≡ count m (meets n)
    unfolding count
    count_image zero d = sym (count_none m (meets 0) (λ k l. meets_none 0 k (λ i b. absurd (not-suc-le-zero b))))
    count_image (suc n) d =
        by_bool (counted n)
        (λ u.
        rw (u, count_image n (fewer n d))
        (sym (count_flip m (meets n) (meets (suc n)) (key n) (d.below n (omega arith) u)
        (meets_none n (key n) (λ i l ui k. d.apart n i (omega arith) l u ui k))
        (meets_make (suc n) (key n) n (omega arith) u refl)
        (λ j l ne. same_other n j ne))))
        (λ z. rw (z, count_image n (fewer n d)) (count_ext m (meets n) (meets (suc n)) (λ k l. sym (same_without n k z))))
