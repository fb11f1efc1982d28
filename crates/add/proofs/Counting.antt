-- Counts over the numbers of a range. Assumes nothing.
use Prim.Native.Nat.{ℕ, zero, suc, ◌+◌, ◌-◌, ◌≤◌}
use mathlib.Core.Bool.{Bool, ◌&&◌}
use mathlib.Core.Path.{◌≡◌, ap, ◌∙◌}
use native.Mathlib.Omega.{arith}
use borrow.Author.Tests.{lt-ltb, le-ltb, le-leb, lt-leb}
use Rattle.words.specs.Scan.{count}
use Rattle.words.proofs.Scan.{count_none}
use Rattle.ranges.specs.Ranges.{in_range}

module _ (base : ℕ) (f : ℕ → Bool) where
  range_none : (m n : ℕ) → m ≤ base → count m (λ c. in_range base n c && f c) ≡ 0
  range_none m n l = count_none m (λ c. in_range base n c && f c) (λ c b. rw (lt-leb base c (omega arith)))

  range_upto : (x n : ℕ) → x ≤ n → count (base + x) (λ c. in_range base n c && f c) ≡ count x (λ j. f (base + j))
  unfolding count
  range_upto zero n l = let z : base + 0 ≡ base = omega arith in rw z (range_none base n (omega arith))
  range_upto (suc x) n l =
      let z : base + suc x ≡ suc (base + x) = omega arith in
      let r : count (base + x) (λ c. in_range base n c && f c) ≡ count x (λ j. f (base + j)) = range_upto x n (omega arith) in
      rw (z, le-leb base (base + x) (omega arith), lt-ltb (base + x) (base + n) (omega arith), r)

  range_past : (x n : ℕ) → count (base + n + x) (λ c. in_range base n c && f c) ≡ count n (λ j. f (base + j))
  unfolding count
  range_past zero n = let z : base + n + 0 ≡ base + n = omega arith in rw z (range_upto n n (omega arith))
  range_past (suc x) n =
      let z : base + n + suc x ≡ suc (base + n + x) = omega arith in
      rw (z, le-leb base (base + n + x) (omega arith), le-ltb (base + n + x) (base + n) (omega arith)) (range_past x n)

  pub count_range : (m n : ℕ) → base + n ≤ m → count m (λ c. in_range base n c && f c) ≡ count n (λ j. f (base + j))
  count_range m n l =
      let z : m ≡ base + n + (m - (base + n)) = omega arith in
      ap (λ (x : ℕ). count x (λ c. in_range base n c && f c)) z ∙ range_past (m - (base + n)) n
