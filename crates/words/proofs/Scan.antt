-- Laws of scans over the numbers below a bound, and of the Bools that tests give. A proof of code goes from one scan's law to the next
-- and never opens a scan. Assumes nothing.
use Prim.Native.Nat.{ℕ, zero, suc, ◌+◌, ◌≤◌, ◌<◌, suc-le-suc}
use mathlib.Core.Bool.{Bool, true, false, cond, not, ◌&&◌, ◌||◌, true≢false, false≢true}
use mathlib.Core.Path.{◌≡◌, refl, sym, ap, subst, ◌∙◌}
use mathlib.Core.Logic.{⊎_elim}
use native.Mathlib.Nat.{le_of_suc-le-suc, not-suc-le-zero, eq-or-lt_of_le}
use native.Mathlib.Numerals.{add-one}
use native.Mathlib.Decide.{dec_le}
use native.Mathlib.Omega.{arith}
use Rattle.words.specs.Scan.{all, first, count}

-- ---- Bools and orders

pub by_bool : {C : Type 0} (b : Bool) → (b ≡ true → C) → (b ≡ false → C) → C
by_bool true f g = f refl
by_bool false f g = g refl

pub and_split : (a b : Bool) → (a && b) ≡ true → (a ≡ true) × (b ≡ true)
and_split true b e = (refl, e)
and_split false b e = absurd (false≢true e)

pub and_join : (a b : Bool) → a ≡ true → b ≡ true → (a && b) ≡ true
and_join a b p q = rw (p, q)

pub or_split : (a b : Bool) → (a || b) ≡ false → (a ≡ false) × (b ≡ false)
or_split true b e = absurd (true≢false e)
or_split false b e = (refl, e)

pub true≢ : {b : Bool} → b ≡ true → b ≡ false → ⊥
true≢ p q = true≢false (sym p ∙ q)

pub is_false : (b : Bool) → (b ≡ true → ⊥) → b ≡ false
is_false true h = absurd (h refl)
is_false false h = refl

pub is_true : (b : Bool) → (b ≡ false → ⊥) → b ≡ true
is_true true h = refl
is_true false h = absurd (h refl)

-- by cases on an order
pub by_le : {P : Type 0} (a b : ℕ) → (a ≤ b → P) → (b < a → P) → P
by_le {P} a b f g = go (dec_le a b)
  where
    go : Dec (a ≤ b) → P
    go (yes h) = f h
    go (no n) = g (omega arith)

pub not_lt : (m n : ℕ) → m < n → n ≤ m → ⊥
not_lt m n h l = omega arith

pub not_above : (m n : ℕ) → (n < m → ⊥) → m ≤ n
not_above m n h = by_le m n (λ l. l) (λ l. absurd (h l))

-- ---- all

pub all_at : (n : ℕ) (f : ℕ → Bool) → all n f ≡ true → (k : ℕ) → k < n → f k ≡ true
unfolding all
all_at zero f e k h = absurd (not-suc-le-zero h)
all_at (suc n) f e k h =
    let s = and_split (all n f) (f n) e in
    ⊎_elim (λ (q : k ≡ n). subst (λ (x : ℕ). f x ≡ true) (sym q) s.1) (λ (q : k < n). all_at n f s.0 k q) (eq-or-lt_of_le (le_of_suc-le-suc h))

pub all_make : (n : ℕ) (f : ℕ → Bool) → ((k : ℕ) → k < n → f k ≡ true) → all n f ≡ true
unfolding all
all_make zero f h = refl
all_make (suc n) f h = and_join (all n f) (f n) (all_make n f (λ k q. h k (omega arith))) (h n (omega arith))

pub all_not : (n : ℕ) (f : ℕ → Bool) (k : ℕ) → k < n → f k ≡ false → all n f ≡ false
all_not n f k l h = is_false (all n f) (λ p. true≢ (all_at n f p k l) h)

pub all_ext : (n : ℕ) (f g : ℕ → Bool) → ((k : ℕ) → k < n → f k ≡ g k) → all n f ≡ all n g
unfolding all
all_ext zero f g h = refl
all_ext (suc n) f g h = rw (all_ext n f g (λ k l. h k (omega arith)), h n (omega arith))

-- one number more, as a loop that computes the Bool has it
pub all_next : (j : ℕ) (f : ℕ → Bool) → (all j f && f j) ≡ all (j + 1) f
unfolding all
all_next j f = rw add-one

-- what holds from a place on need not be asked there
pub all_stop : (n from : ℕ) (f : ℕ → Bool) → from ≤ n → ((k : ℕ) → from ≤ k → k < n → f k ≡ true) → all from f ≡ all n f
unfolding all
all_stop zero from f l h = let z : from ≡ 0 = omega arith in ap (λ (x : ℕ). all x f) z
all_stop (suc n) from f l h =
    by_le from n
    (λ q. all_stop n from f q (λ k a b. h k a (omega arith)) ∙ all_left (all n f) (f n) (h n q (omega arith)))
    (λ q. let z : from ≡ suc n = omega arith in ap (λ (x : ℕ). all x f) z)
  where
    all_left : (x y : Bool) → y ≡ true → x ≡ (x && y)
    all_left true y q = sym q
    all_left false y q = refl

-- ---- first

pub first_at_lem : (n : ℕ) (f : ℕ → Bool) (k : ℕ) → k ≤ n → ((j : ℕ) → j < k → f j ≡ false) → (k < n → f k ≡ true) → first n f ≡ k
unfolding first
first_at_lem zero f zero l h t = refl
first_at_lem zero f (suc k) l h t = absurd (not-suc-le-zero l)
first_at_lem (suc n) f zero l h t = rw (t (omega arith))
first_at_lem (suc n) f (suc k) l h t =
    rw (h zero (omega arith))
    (ap suc (first_at_lem n (λ (j : ℕ). f (suc j)) k (omega arith) (λ j q. h (suc j) (omega arith)) (λ q. t (omega arith))))

pub first_le : (n : ℕ) (f : ℕ → Bool) → first n f ≤ n
unfolding first
first_le zero f = omega arith
first_le (suc n) f =
    by_bool (f zero) (λ e. rw e (omega arith)) (λ e. rw e (suc-le-suc (first_le n (λ (j : ℕ). f (suc j)))))

pub first_hit : (n : ℕ) (f : ℕ → Bool) → first n f < n → f (first n f) ≡ true
unfolding first
first_hit zero f h = absurd (not-suc-le-zero h)
first_hit (suc n) f h =
    by_bool (f zero) (λ e. rw e e) (λ e. rw e (first_hit n (λ (j : ℕ). f (suc j)) (le_of_suc-le-suc (rw e at h))))

pub first_miss : (n : ℕ) (f : ℕ → Bool) (k : ℕ) → k < first n f → f k ≡ false
unfolding first
first_miss zero f k h = absurd (not-suc-le-zero h)
first_miss (suc n) f zero h = by_bool (f zero) (λ e. absurd (not-suc-le-zero (rw e at h))) (λ e. e)
first_miss (suc n) f (suc k) h =
    by_bool (f zero) (λ e. absurd (not-suc-le-zero (rw e at h)))
    (λ e. first_miss n (λ (j : ℕ). f (suc j)) k (le_of_suc-le-suc (rw e at h)))

pub first_ext : (n : ℕ) (f g : ℕ → Bool) → ((k : ℕ) → k < n → f k ≡ g k) → first n f ≡ first n g
unfolding first
first_ext zero f g h = refl
first_ext (suc n) f g h =
    rw (h zero (omega arith), first_ext n (λ (k : ℕ). f (suc k)) (λ (k : ℕ). g (suc k)) (λ k l. h (suc k) (omega arith)))

-- ---- count

pub count_ext : (n : ℕ) (f g : ℕ → Bool) → ((k : ℕ) → k < n → f k ≡ g k) → count n f ≡ count n g
unfolding count
count_ext zero f g h = refl
count_ext (suc n) f g h = rw (count_ext n f g (λ k l. h k (omega arith)), h n (omega arith))

pub count_le : (n : ℕ) (f : ℕ → Bool) → count n f ≤ n
unfolding count
count_le zero f = omega arith
count_le (suc n) f =
    let h : count n f ≤ n = count_le n f in
    by_bool (f n) (λ e. rw e (omega arith)) (λ e. rw e (omega arith))

-- one number more
pub count_more : (n : ℕ) (f : ℕ → Bool) → count (n + 1) f ≡ cond (f n) (count n f + 1) (count n f)
unfolding count
count_more n f = rw (add-one n, add-one (count n f))

-- where one number comes to pass the test and the others stay as they were, one more passes
pub count_flip : (n : ℕ) (f g : ℕ → Bool) (k : ℕ) → k < n → f k ≡ false → g k ≡ true
    → ((j : ℕ) → j < n → (j ≡ k → ⊥) → g j ≡ f j) → count n g ≡ suc (count n f)
unfolding count
count_flip zero f g k l fk gk h = absurd (not-suc-le-zero l)
count_flip (suc n) f g k l fk gk h =
    ⊎_elim
    (λ (q : k ≡ n).
    let same : count n g ≡ count n f = count_ext n g f (λ j b. h j (omega arith) (λ e. omega arith)) in
    rw (← q, fk, gk, q, same))
    (λ (q : k < n).
    let one : count n g ≡ suc (count n f) = count_flip n f g k q fk gk (λ j b e. h j (omega arith) e) in
    let here : g n ≡ f n = h n (omega arith) (λ e. omega arith) in
    rw (one, here) (by_bool (f n) (λ e. rw e) (λ e. rw e)))
    (eq-or-lt_of_le (le_of_suc-le-suc l))

-- those that pass and those that do not are all of them
pub count_not : (n : ℕ) (f : ℕ → Bool) → count n f + count n (λ k. not (f k)) ≡ n
unfolding count
count_not zero f = refl
count_not (suc n) f =
    let h : count n f + count n (λ k. not (f k)) ≡ n = count_not n f in
    by_bool (f n) (λ e. rw e (omega arith)) (λ e. rw e (omega arith))

-- where none passes, from a number on and altogether
pub count_stop : (n from : ℕ) (f : ℕ → Bool) → from ≤ n → ((k : ℕ) → from ≤ k → k < n → f k ≡ false) → count n f ≡ count from f
unfolding count
count_stop zero from f l h = let z : 0 ≡ from = omega arith in ap (λ (x : ℕ). count x f) z
count_stop (suc n) from f l h =
    by_le from n
    (λ low. rw (h n low (omega arith)) (count_stop n from f low (λ k a b. h k a (omega arith))))
    (λ above. let z : suc n ≡ from = omega arith in ap (λ (x : ℕ). count x f) z)

pub count_none : (n : ℕ) (f : ℕ → Bool) → ((k : ℕ) → k < n → f k ≡ false) → count n f ≡ 0
unfolding count
count_none zero f h = refl
count_none (suc n) f h = rw (h n (omega arith), count_none n f (λ k l. h k (omega arith)))

-- of two tests that no number passes both
pub count_or : (n : ℕ) (f g : ℕ → Bool) → ((k : ℕ) → k < n → f k ≡ true → g k ≡ true → ⊥) → count n (λ k. f k || g k) ≡ count n f + count n g
unfolding count
count_or zero f g h = refl
count_or (suc n) f g h =
    let rest : count n (λ k. f k || g k) ≡ count n f + count n g = count_or n f g (λ k l. h k (omega arith)) in
    by_bool (f n)
    (λ p.
    by_bool (g n)
    (λ q. absurd (h n (omega arith) p q))
    (λ q. rw (p, q, rest) (omega arith)))
    (λ p.
    by_bool (g n)
    (λ q. rw (p, q, rest) (omega arith))
    (λ q. rw (p, q, rest)))

-- those that pass a second test too are no more
pub count_both : (n : ℕ) (f g : ℕ → Bool) → count n (λ i. f i && g i) ≤ count n f
unfolding count
count_both zero f g = omega arith
count_both (suc n) f g =
    let rest : count n (λ i. f i && g i) ≤ count n f = count_both n f g in
    by_bool (f n) (λ p. by_bool (g n) (λ q. rw (p, q) (omega arith)) (λ q. rw (p, q) (omega arith))) (λ p. rw p (omega arith))
