-- A scan that an iterator makes over the numbers below a bound. Assumes nothing.
use Rattle.std.proofs.Common.{◌≡◌, ℕ, zero, suc, ◌+◌, Bool, ◌&&◌, refl, sym, ap, ◌∙◌, arith}
use Rattle.std.specs.List.{list_all, range_with_len}
use Rattle.std.proofs.Math.Bool.{and-true, and_assoc}
use Rattle.words.specs.Scan.{all}
use Rattle.words.proofs.Scan.{all_ext}

-- the first number by itself
all_first : (n : ℕ) (f : ℕ → Bool) → all (suc n) f ≡ (f 0 && all n (λ k. f (suc k)))
unfolding all
all_first zero f = sym (and-true (f 0))
all_first (suc n) f = ap (λ b. b && f (suc n)) (all_first n f) ∙ and_assoc (f 0) (all n (λ k. f (suc k))) (f (suc n))

listed_from : (n a : ℕ) (f : ℕ → Bool) → list_all f (range_with_len a n) ≡ all n (λ k. f (a + k))
unfolding all
listed_from zero a f = refl
listed_from (suc n) a f =
    let rest = listed_from n (a + 1) f ∙ all_ext n (λ k. f (a + 1 + k)) (λ k. f (a + suc k)) (λ k l. ap f (omega arith)) in
    let here : f a ≡ f (a + 0) = ap f (omega arith) in
    rw (rest, here) (sym (all_first n (λ k. f (a + k))))

pub all_listed : (n : ℕ) (f : ℕ → Bool) → list_all f (range_with_len 0 n) ≡ all n f
all_listed n f = listed_from n 0 f ∙ all_ext n (λ k. f (0 + k)) f (λ k l. ap f (omega arith))
