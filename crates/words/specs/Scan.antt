-- Scans over the numbers below a bound.
use Rattle.std.specs.Prelude.{ℕ, zero, suc, Bool, true, cond, ◌&&◌, eqb}

-- does f hold of every number below n?
unfoldable pub all : ℕ → (ℕ → Bool) → Bool
all zero f = true
all (suc n) f = all n f && f n

-- the least number below n of which f holds, or n
unfoldable pub first : ℕ → (ℕ → Bool) → ℕ
first zero f = zero
first (suc n) f = cond (f zero) zero (suc (first n (λ k. f (suc k))))

-- of how many numbers below n f holds
unfoldable pub count : ℕ → (ℕ → Bool) → ℕ
count zero f = zero
count (suc n) f = cond (f n) (suc (count n f)) (count n f)

-- the number below n of which f holds and below which f holds of just r numbers, or n: the r-th, counted from 0
unfoldable pub nth : ℕ → (ℕ → Bool) → ℕ → ℕ
nth n f r = first n (λ k. f k && eqb (count k f) r)
