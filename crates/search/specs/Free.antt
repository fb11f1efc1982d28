-- Free entry slots and free bodies.
use Rattle.std.specs.Prelude.{◌≡◌, ℕ, ◌+◌, ◌-◌, ◌<◌, min, Bool, true, not, ◌&&◌, List, ◌==◌, nat_lt, slice_index}
use Rattle.words.specs.Scan.{first, count, nth}
use Rattle.table.specs.Entry.{word1, word2, owns_body}

-- an entry's first word is 0 when it is free
abbrev pub slot_free : ℕ → List ℕ → ℕ → Bool
slot_free e t i = word1 e t i == 0

abbrev pub is_copy : ℕ → List ℕ → ℕ → Bool
is_copy e t i = owns_body (word1 e t i)

-- body k is some copy's
unfoldable pub body_used : ℕ → List ℕ → ℕ → Bool
body_used e t k = nat_lt (first e (λ i. is_copy e t i && word2 e t i == k)) e

abbrev pub body_free : ℕ → List ℕ → ℕ → Bool
body_free e t k = not (body_used e t k)

-- live entries (question 16), and copies in use (question 17)
unfoldable pub used_slots : ℕ → List ℕ → ℕ
used_slots e t = count e (λ i. not (slot_free e t i))

unfoldable pub copies : ℕ → List ℕ → ℕ
copies e t = count e (is_copy e t)

-- "which entries and bodies a call takes, though each was free before the call": the numbers below n of which `wants` holds take different
-- places below `high`, each of them free
pub record TakesFree (n : ℕ) (wants : ℕ → Bool) (high : ℕ) (free : ℕ → Bool) (place : ℕ → ℕ) : Type 0 where
  pub below : (j : ℕ) → j < n → wants j ≡ true → place j < high
  pub was_free : (j : ℕ) → j < n → wants j ≡ true → free (place j) ≡ true
  pub own : (i j : ℕ) → i < n → j < n → wants i ≡ true → wants j ≡ true → place i ≡ place j → i ≡ j

-- the lowest of them, in order: the number j, if it wants one, takes the free place before which as many are free as numbers before j want one
unfoldable pub lowest_free : (high : ℕ) (free wants : ℕ → Bool) → ℕ → ℕ
lowest_free high free wants j = nth high free (count j wants)

-- the number below n that takes place i, or n
unfoldable pub taker_of : (n : ℕ) (wants : ℕ → Bool) (place : ℕ → ℕ) → ℕ → ℕ
taker_of n wants place i = first n (λ j. wants j && place j == i)

-- of e entry slots, the lowest free one from `from` on, or e
unfoldable pub free_from : ℕ → List ℕ → ℕ → ℕ
free_from e t from = from + first (e - from) (λ k. slot_free e t (from + k))

-- no entry from here on changes: of e slots those from `top` on are free, and a call takes the lowest `new` free ones
abbrev pub end_of : (e new top : ℕ) → ℕ
end_of e new top = min e (top + new)

-- body k has not the mark 1 of a body in use
abbrev pub unmarked : List ℕ → ℕ → Bool
unmarked used k = not (slice_index used k == 1)

-- of b bodies, the lowest such from `from` on, or b
unfoldable pub unmarked_from : ℕ → List ℕ → ℕ → ℕ
unmarked_from b used from = from + first (b - from) (λ k. unmarked used (from + k))
