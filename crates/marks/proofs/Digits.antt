-- Laws of a mark that is a set of depths: its binary digits, one for each depth. Assumes nothing.
use Prim.Native.Nat.{ℕ, zero, suc, ◌+◌, ◌-◌, ◌*◌, ◌/◌, ◌%◌, ◌^◌, ◌≤◌, ◌<◌}
use mathlib.Core.Bool.{true, false}
use mathlib.Core.Path.{◌≡◌, refl, sym, ap, ◌∙◌}
use native.Mathlib.Omega.{arith}
use borrow.Author.Tests.{eq-eqb, ne_eqb, eqb-false}
use lib.Dec.{eqb}
use lib.Pow.{pow_mono, shr-shr}
use Rattle.words.specs.Layout.{max_live}
use Rattle.marks.specs.Blocks.{has, with_depth}

-- ---- the digits of a number m, digit k as m / 2 ^ k % 2
twice : (k : ℕ) → 2 ^ suc k ≡ 2 * 2 ^ k
twice k = omega arith

-- digit k + 1 is digit k of the half
pub halved : (m k : ℕ) → m / 2 ^ suc k ≡ m / 2 / 2 ^ k
halved m k = ap (λ (j : ℕ). m / 2 ^ j) (omega arith) ∙ sym (shr-shr m 1 k)

digit_set : (m j : ℕ) → m / 2 ^ j % 2 ≡ 0 → (m + 2 ^ j) / 2 ^ j % 2 ≡ 1
digit_set m zero h = omega (arith, h)
digit_set m (suc j) h =
    let half : (m + 2 ^ suc j) / 2 ≡ m / 2 + 2 ^ j = omega (arith, twice j) in
    rw (halved (m + 2 ^ suc j) j, half) (digit_set (m / 2) j (rw (halved m j) at h))

digit_kept : (m j k : ℕ) → m / 2 ^ j % 2 ≡ 0 → (k ≡ j → ⊥) → (m + 2 ^ j) / 2 ^ k % 2 ≡ m / 2 ^ k % 2
digit_kept m zero zero h n = absurd (n refl)
digit_kept m zero (suc k) h n =
    let half : (m + 2 ^ 0) / 2 ≡ m / 2 = omega (arith, h) in
    rw (halved (m + 2 ^ 0) k, half, halved m k)
digit_kept m (suc j) zero h n = omega (arith, twice j)
digit_kept m (suc j) (suc k) h n =
    let half : (m + 2 ^ suc j) / 2 ≡ m / 2 + 2 ^ j = omega (arith, twice j) in
    rw (halved (m + 2 ^ suc j) k, half, halved m k) (digit_kept (m / 2) j k (rw (halved m j) at h) (λ q. n (ap suc q)))

digit_fits : (n m j : ℕ) → j < n → m < 2 ^ n → m / 2 ^ j % 2 ≡ 0 → m + 2 ^ j < 2 ^ n
digit_fits zero m j l s h = absurd (omega arith)
digit_fits (suc n) m zero l s h = omega (arith, h, twice n, s)
digit_fits (suc n) m (suc j) l s h =
    let half : m / 2 + 2 ^ j < 2 ^ n = digit_fits n (m / 2) j (omega arith) (omega (arith, twice n, s)) (rw (halved m j) at h) in
    omega (arith, half, twice n, twice j)

no_digit : (k : ℕ) → 0 / 2 ^ k % 2 ≡ 0
no_digit zero = omega arith
no_digit (suc k) = rw (halved 0 k) (no_digit k)

-- ---- the depths of a mark
clear_digit : (d m : ℕ) → has d m ≡ false → 2 * m / 2 ^ d % 2 ≡ 0
clear_digit d m h = omega (arith, eqb-false (2 * m / 2 ^ d % 2) 1 h)

doubled : (d m : ℕ) → 1 ≤ d → 2 * with_depth d m ≡ 2 * m + 2 ^ d
doubled zero m l = absurd (omega arith)
doubled (suc d) m l = omega (arith, twice d)

-- the empty mark has no depth
pub has_none : (d : ℕ) → has d 0 ≡ false
has_none d = ne_eqb (2 * 0 / 2 ^ d % 2) 1 (λ q. omega (arith, q, no_digit d))

-- and no mark has depth 0
pub has_zero : (m : ℕ) → has 0 m ≡ false
has_zero m = ne_eqb (2 * m / 2 ^ 0 % 2) 1 (λ q. omega (arith, q))

pub has_here : (d m : ℕ) → 1 ≤ d → has d m ≡ false → has d (with_depth d m) ≡ true
has_here d m l h = eq-eqb _ _ (ap (λ (x : ℕ). x / 2 ^ d % 2) (doubled d m l) ∙ digit_set (2 * m) d (clear_digit d m h))

pub has_other : (d k m : ℕ) → has d m ≡ false → (k ≡ d → ⊥) → has k (with_depth d m) ≡ has k m
has_other zero k m h n = ap (has k) (omega arith)
has_other (suc d) k m h n =
    ap (λ (x : ℕ). eqb x 1) (ap (λ (x : ℕ). x / 2 ^ k % 2) (doubled (suc d) m (omega arith)) ∙ digit_kept (2 * m) (suc d) k (clear_digit (suc d) m h) n)

-- a depth's digit by itself, as the code shifts it into place
pub bit_small : (d : ℕ) → d ≤ max_live → 2 ^ d ≤ 256
bit_small d l = pow_mono l

-- a mark is a byte
pub depth_fits : (d m : ℕ) → d ≤ max_live → m < 256 → has d m ≡ false → with_depth d m < 256
depth_fits zero m l s h = omega arith
depth_fits (suc d) m l s h =
    let both : 2 * m + 2 ^ suc d < 2 ^ 9 = digit_fits 9 (2 * m) (suc d) (omega arith) (omega arith) (clear_digit (suc d) m h) in
    omega (arith, both, doubled (suc d) m (omega arith))

-- the parent's digit, as the code asks for it
pub parent_digit : (d m : ℕ) → 1 ≤ d → eqb (4 * m / 2 ^ d % 2) 1 ≡ has (d - 1) m
parent_digit zero m l = absurd (omega arith)
parent_digit (suc d) m l =
    let back : suc d - 1 ≡ d = omega arith in
    let half : 4 * m / 2 ≡ 2 * m = omega arith in
    rw (back, halved (4 * m) d, half)
