-- Bits of a word and of a run of words: the lowest one that is set, the word without it, and one more that is set. Assumes nothing.
use Prim.Native.Nat.{ℕ, zero, suc, ◌+◌, ◌-◌, ◌*◌, ◌/◌, ◌%◌, ◌^◌, ◌<◌, min}
use mathlib.Core.Bool.{true, false}
use mathlib.Core.List.{List}
use mathlib.Core.Path.{◌≡◌, refl, sym, ap, ap₂, ◌∙◌}
use native.Mathlib.Nat.{pow-suc, div-one, one-mul, not-suc-le-zero, le_of_suc-le-suc}
use native.Mathlib.Omega.{arith}
use borrow.Author.Tests.{eq-eqb, eqb-true, eqb-false}
use lib.Dec.{eqb}
use lib.Bits.{bit_and, bit_or, and_step, and_self, and_le_r, or_shr, or_mod, or_zero_r}
use lib.Count.{count_trailing_zeros, under}
use lib.ListN.{length, get_or, set}
use lib.Pow.{shr_le, shl-shr, shl_exact}
use lib.Seq.{get_or-set_same, get_or-set_other}
use Rattle.words.proofs.Scan.{by_bool}
use Rattle.marks.proofs.Digits.{halved}
use Rattle.changes.specs.Staged.{bit_at, Lowest, Without, with_bit, is_set}

-- ---- one word, digit by digit

bit_zero : (w : ℕ) → w / 2 ^ 0 % 2 ≡ w % 2
bit_zero w = ap (λ (n : ℕ). n % 2) (div-one w)

digit_suc : (w j : ℕ) → w / 2 ^ suc j % 2 ≡ w / 2 / 2 ^ j % 2
digit_suc w j = ap (λ (n : ℕ). n % 2) (halved w j)

pub bit_none : (w j : ℕ) → w ≡ 0 → bit_at w j ≡ false
bit_none w j z = let q : w / 2 ^ j ≡ 0 = omega (arith, z, shr_le w j) in ap (λ (n : ℕ). eqb (n % 2) 1) q

-- ---- the lowest bit that is set

below_step : (w t : ℕ) → ((j : ℕ) → j < t → w / 2 / 2 ^ j % 2 ≡ 0) → (m : ℕ) → w % 2 ≡ m → (j : ℕ) → j < under m t → w / 2 ^ j % 2 ≡ 0
below_step w t h zero e zero l = bit_zero w ∙ e
below_step w t h zero e (suc j) l = digit_suc w j ∙ h j (le_of_suc-le-suc l)
below_step w t h (suc m) e j l = absurd (not-suc-le-zero l)

tz_below : (k w j : ℕ) → j < count_trailing_zeros k w → w / 2 ^ j % 2 ≡ 0
unfolding count_trailing_zeros
tz_below zero w j h = absurd (not-suc-le-zero h)
tz_below (suc k) w j h = below_step w (count_trailing_zeros k (w / 2)) (λ i l. tz_below k (w / 2) i l) (w % 2) refl j h

here_step : (k w t : ℕ) → ((w / 2 ≡ 0 → ⊥) → (t < k) × (w / 2 / 2 ^ t % 2 ≡ 1)) → (w ≡ 0 → ⊥) → (m : ℕ) → w % 2 ≡ m
    → (under m t < suc k) × (w / 2 ^ under m t % 2 ≡ 1)
here_step k w t h n zero e =
    let r = h (λ z. n (omega arith)) in
    (omega (arith, r.0), digit_suc w t ∙ r.1)
here_step k w t h n (suc m) e = (omega arith, bit_zero w ∙ omega (arith, e))

tz_here : (k w : ℕ) → w < 2 ^ k → (w ≡ 0 → ⊥) → (count_trailing_zeros k w < k) × (w / 2 ^ count_trailing_zeros k w % 2 ≡ 1)
unfolding count_trailing_zeros
tz_here zero w l n = absurd (n (omega arith))
tz_here (suc k) w l n = here_step k w (count_trailing_zeros k (w / 2)) (λ z. tz_here k (w / 2) (omega (arith, pow-suc 2 k)) z) n (w % 2) refl

pub lowest_found : (w : ℕ) → w < 2 ^ 64 → (w ≡ 0 → ⊥) → Lowest w (count_trailing_zeros 64 w)
lowest_found w l n =
    let h = tz_here 64 w l n in
    record { within = h.0; here = eq-eqb _ 1 h.1; before = λ i b. ap (λ (n : ℕ). eqb n 1) (tz_below 64 w i b) }

-- ---- the word without it

clear_odd : (w : ℕ) → w % 2 ≡ 1 → bit_and w (w - 1) ≡ w / 2 * 2
clear_odd w h =
    let a : (w - 1) / 2 ≡ w / 2 = omega arith in
    let b : (w - 1) % 2 ≡ 0 = omega arith in
    and_step w (w - 1)
    ∙ ap₂ (λ (x y : ℕ). bit_and (w / 2) x * 2 + min (w % 2) y) a b
    ∙ ap (λ (x : ℕ). x * 2 + min (w % 2) 0) (and_self (w / 2)) ∙ omega arith

clear_even : (w : ℕ) → w % 2 ≡ 0 → (w ≡ 0 → ⊥) → bit_and w (w - 1) ≡ bit_and (w / 2) (w / 2 - 1) * 2
clear_even w h n =
    let a : (w - 1) / 2 ≡ w / 2 - 1 = omega arith in
    and_step w (w - 1) ∙ ap (λ (x : ℕ). bit_and (w / 2) x * 2 + min (w % 2) ((w - 1) % 2)) a ∙ omega arith

-- bit j of a word that is twice another
twice_zero : (r q : ℕ) → r ≡ q * 2 → r / 2 ^ 0 % 2 ≡ 0
twice_zero r q e = bit_zero r ∙ omega arith

twice_suc : (r q j : ℕ) → r ≡ q * 2 → r / 2 ^ suc j % 2 ≡ q / 2 ^ j % 2
twice_suc r q j e = let h : r / 2 ≡ q = omega arith in digit_suc r j ∙ ap (λ (n : ℕ). n / 2 ^ j % 2) h

none_zero : (w z : ℕ) → w / 2 ^ z % 2 ≡ 1 → w ≡ 0 → ⊥
none_zero w z h e = omega (arith, shr_le w z)

clear_here : (z w : ℕ) → w / 2 ^ z % 2 ≡ 1 → ((i : ℕ) → i < z → w / 2 ^ i % 2 ≡ 0) → bit_and w (w - 1) / 2 ^ z % 2 ≡ 0
clear_here zero w h l = twice_zero _ (w / 2) (clear_odd w (sym (bit_zero w) ∙ h))
clear_here (suc z) w h l =
    twice_suc _ _ z (clear_even w (sym (bit_zero w) ∙ l 0 (omega arith)) (none_zero w (suc z) h))
    ∙ clear_here z (w / 2) (sym (digit_suc w z) ∙ h) (λ i b. sym (digit_suc w i) ∙ l (suc i) (omega arith))

clear_others : (z w : ℕ) → w / 2 ^ z % 2 ≡ 1 → ((i : ℕ) → i < z → w / 2 ^ i % 2 ≡ 0) → (j : ℕ) → (j ≡ z → ⊥) → bit_and w (w - 1) / 2 ^ j % 2 ≡ w / 2 ^ j % 2
clear_others zero w h l zero n = absurd (n refl)
clear_others zero w h l (suc j) n = twice_suc _ (w / 2) j (clear_odd w (sym (bit_zero w) ∙ h)) ∙ sym (digit_suc w j)
clear_others (suc z) w h l zero n =
    twice_zero _ _ (clear_even w (sym (bit_zero w) ∙ l 0 (omega arith)) (none_zero w (suc z) h)) ∙ sym (l 0 (omega arith))
clear_others (suc z) w h l (suc j) n =
    twice_suc _ _ j (clear_even w (sym (bit_zero w) ∙ l 0 (omega arith)) (none_zero w (suc z) h))
    ∙ clear_others z (w / 2) (sym (digit_suc w z) ∙ h) (λ i b. sym (digit_suc w i) ∙ l (suc i) (omega arith)) j (λ e. n (ap suc e))
    ∙ sym (digit_suc w j)

pub lowest_cleared : (w z : ℕ) → Lowest w z → Without w z (bit_and w (w - 1))
lowest_cleared w z low =
    let h : w / 2 ^ z % 2 ≡ 1 = eqb-true (w / 2 ^ z % 2) 1 low.here in
    let l : (i : ℕ) → i < z → w / 2 ^ i % 2 ≡ 0 = λ i b. omega (arith, eqb-false (w / 2 ^ i % 2) 1 (low.before i b)) in
    record { here = ap (λ (n : ℕ). eqb n 1) (clear_here z w h l); others = λ i n. ap (λ (n : ℕ). eqb n 1) (clear_others z w h l i n) }

pub cleared_less : (w : ℕ) → (w ≡ 0 → ⊥) → bit_and w (w - 1) < w
cleared_less w n = omega (arith, and_le_r w (w - 1))

-- ---- one bit more

power_bit : (j k : ℕ) → (k ≡ j → ⊥) → 2 ^ j / 2 ^ k % 2 ≡ 0
power_bit zero zero n = absurd (n refl)
power_bit (suc j) zero n = bit_zero (2 ^ suc j) ∙ omega (arith, pow-suc 2 j)
power_bit zero (suc k) n = digit_suc 1 k ∙ omega (arith, shr_le 0 k)
power_bit (suc j) (suc k) n =
    let h : 2 ^ suc j / 2 ≡ 2 ^ j = omega (arith, pow-suc 2 j) in
    digit_suc (2 ^ suc j) k ∙ ap (λ (x : ℕ). x / 2 ^ k % 2) h ∙ power_bit j k (λ e. n (ap suc e))

or_split : (w v k : ℕ) → bit_or w v / 2 ^ k % 2 ≡ bit_or (w / 2 ^ k % 2) (v / 2 ^ k % 2)
or_split w v k = ap (λ (x : ℕ). x % 2) (or_shr w v k) ∙ or_mod (w / 2 ^ k) (v / 2 ^ k) 1

or_one : (m : ℕ) → m < 2 → bit_or m 1 ≡ 1
or_one zero h = refl
or_one (suc zero) h = refl
or_one (suc (suc m)) h = absurd (not-suc-le-zero (le_of_suc-le-suc (le_of_suc-le-suc h)))

bit_same : (w j : ℕ) → bit_at (with_bit true j w) j ≡ true
unfolding with_bit
bit_same w j =
    let one : 2 ^ j / 2 ^ j ≡ 1 = ap (λ (n : ℕ). n / 2 ^ j) (sym (one-mul (2 ^ j))) ∙ shl-shr 1 j in
    eq-eqb _ 1 (or_split w (2 ^ j) j ∙ ap (λ (n : ℕ). bit_or (w / 2 ^ j % 2) (n % 2)) one ∙ or_one (w / 2 ^ j % 2) (omega arith))

bit_other : (w j k : ℕ) → (k ≡ j → ⊥) → bit_at (with_bit true j w) k ≡ bit_at w k
unfolding with_bit
bit_other w j k n = ap (λ (x : ℕ). eqb x 1) (or_split w (2 ^ j) k ∙ ap (bit_or (w / 2 ^ k % 2)) (power_bit j k n) ∙ or_zero_r (w / 2 ^ k % 2))

pub bit_kept : (w j : ℕ) → with_bit false j w ≡ w
unfolding with_bit
bit_kept w j = refl

-- the code's `1u64 << j`
pub bit_shifted : (w j : ℕ) → j < 64 → bit_or w (1 * 2 ^ j % 2 ^ 64) ≡ with_bit true j w
unfolding with_bit
bit_shifted w j l = ap (bit_or w) (shl_exact 1 j 64 (omega arith) (omega arith) ∙ one-mul (2 ^ j))

-- ---- a run of words

pub set_at : (bits : List ℕ) (k j : ℕ) → j < 64 → is_set bits (64 * k + j) ≡ bit_at (get_or bits k 0) j
set_at bits k j l =
    let a : (64 * k + j) / 64 ≡ k = omega arith in
    let b : (64 * k + j) % 64 ≡ j = omega arith in
    ap₂ (λ (x y : ℕ). bit_at (get_or bits x 0) y) a b

-- word k is replaced: the bits of the others, and its own
module _ (bits : List ℕ) (k v : ℕ) where
  pub word_other : (i : ℕ) → (i / 64 ≡ k → ⊥) → is_set (set bits k v) i ≡ is_set bits i
  word_other i n = ap (λ (x : ℕ). bit_at x (i % 64)) (get_or-set_other bits k (i / 64) v 0 n)

  pub word_own : k < length bits → (i : ℕ) → i / 64 ≡ k → is_set (set bits k v) i ≡ bit_at v (i % 64)
  word_own l i q = ap (λ (x : ℕ). bit_at (get_or (set bits k v) x 0) (i % 64)) q ∙ ap (λ (x : ℕ). bit_at x (i % 64)) (get_or-set_same bits k v 0 l)

-- word k has one bit more
module _ (bits : List ℕ) (k w i : ℕ) (known : k < length bits) (here : i / 64 ≡ k) where
  pub more_here : is_set (set bits k (with_bit true (i % 64) w)) i ≡ true
  more_here = word_own bits k (with_bit true (i % 64) w) known i here ∙ bit_same w (i % 64)

  pub more_other : (j : ℕ) → (j ≡ i → ⊥) → is_set (set bits k (with_bit true (i % 64) w)) j ≡ is_set (set bits k w) j
  more_other j n =
      by_bool (eqb (j / 64) k)
      (λ z.
      let q = eqb-true (j / 64) k z in
      word_own bits k (with_bit true (i % 64) w) known j q ∙ bit_other w (i % 64) (j % 64) (λ e. n (omega arith)) ∙ sym (word_own bits k w known j q))
      (λ z.
      let m = eqb-false (j / 64) k z in
      word_other bits k (with_bit true (i % 64) w) j m ∙ sym (word_other bits k w j m))
