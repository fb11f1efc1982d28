-- Laws of a batch. A list of 64 ranges or fewer is gathered as it is (`gathered_all`), and one of more than 64 as 65 (`gathered_more`). Assumes nothing.
use Rattle.std.proofs.Common.{◌≡◌, ℕ, zero, suc, ◌+◌, ◌<◌, ◌≤◌, List, [], ◌∷◌, ◌++◌, length, get_or, drop, sym, refl, ap, ◌∙◌, append_assoc, append-nil, add-one, arith, length-append, drop_of_length-le, drop-cons}
use borrow.Author.Tests.{le-leb, lt-leb}
use Rattle.words.proofs.Scan.{by_le}
use Rattle.ranges.specs.declared.Range.{Range}
use Rattle.ranges.specs.Ranges.{max_ranges}
use Rattle.ranges.specs.Batch.{no_batch, kept, kept_range, gathered}
use Rattle.ranges.specs.Lists.{no_range}

-- a range is kept while there is room, and the 65th is the last
module _ (b : List Range) (r : Range) where
  pub kept_more : length b ≤ max_ranges → kept_range b r ≡ b ++ r ∷ []
  unfolding kept
  kept_more h = rw (le-leb _ _ h)

  pub kept_full : max_ranges < length b → kept_range b r ≡ b
  unfolding kept
  kept_full h = rw (lt-leb _ _ h)

-- the ranges before the i-th are gathered, and then it
pub gathered_next : (b rs : List Range) (i : ℕ) → i < length rs → gathered b (drop i rs) ≡ gathered (kept_range b (get_or rs i no_range)) (drop (i + 1) rs)
unfolding gathered
gathered_next b rs i h = rw (drop-cons rs i no_range h, add-one i)

pub gathered_end : (b rs : List Range) (i : ℕ) → length rs ≤ i → gathered b (drop i rs) ≡ b
unfolding gathered
gathered_end b rs i h = rw (drop_of_length-le rs h)

-- behind those of a batch come those of the list, where there is room for them
gathered_ranges : (rs b : List Range) → length b + length rs ≤ max_ranges → gathered b rs ≡ b ++ rs
unfolding gathered
gathered_ranges [] b h = sym (append-nil b)
gathered_ranges (r ∷ rs) b h =
    let e = length-append b (r ∷ []) in
    ap (λ (x : List Range). gathered x rs) (kept_more b r (omega arith)) ∙ gathered_ranges rs (b ++ r ∷ []) (omega arith) ∙ append_assoc b (r ∷ []) rs

pub gathered_all : (rs : List Range) → length rs ≤ max_ranges → gathered no_batch rs ≡ rs
gathered_all rs h = gathered_ranges rs [] (omega arith)

-- once a batch is full it stays
stays_full : (rs b : List Range) → length b ≡ max_ranges + 1 → length (gathered b rs) ≡ max_ranges + 1
unfolding gathered
stays_full [] b e = e
stays_full (r ∷ rs) b e = ap (λ (x : List Range). length (gathered x rs)) (kept_full b r (omega arith)) ∙ stays_full rs b e

more_from : (rs b : List Range) → length b ≤ max_ranges → max_ranges < length b + length rs → length (gathered b rs) ≡ max_ranges + 1
unfolding gathered
more_from [] b few h = absurd (omega arith)
more_from (r ∷ rs) b few h =
    let e = length-append b (r ∷ []) in
    ap (λ (x : List Range). length (gathered x rs)) (kept_more b r few)
    ∙ by_le (length (b ++ r ∷ [])) max_ranges
    (λ l. more_from rs (b ++ r ∷ []) l (omega arith))
    (λ l. stays_full rs (b ++ r ∷ []) (omega arith))

pub gathered_more : (rs : List Range) → max_ranges < length rs → length (gathered no_batch rs) ≡ max_ranges + 1
gathered_more rs h = more_from rs [] (omega arith) (omega arith)
