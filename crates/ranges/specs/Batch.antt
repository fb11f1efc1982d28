-- A list gathered into a batch: its ranges one by one, of more than 65 the first.
use Rattle.std.specs.Prelude.{ℕ, ◌+◌, cond, List, [], ◌∷◌, ◌++◌, length, nat_le}
use Rattle.ranges.specs.declared.Range.{Range}
use Rattle.ranges.specs.declared.Batch.{Batch}
use Rattle.ranges.specs.Ranges.{max_ranges}

-- the ranges of a batch
abbrev pub batch_ranges : Batch → List Range
batch_ranges b = b.ranges.items

-- those of an empty one
abbrev pub no_batch : List Range
no_batch = []

-- one range more; 65 of them say of a list that it is too long
unfoldable pub kept : List Range → (first n kind rule label : ℕ) → List Range
kept rs first n k u l =
    cond (nat_le (length rs) max_ranges) (rs ++ record { first = first; count = n; kind = k; rule = u; label = l } ∷ []) rs

abbrev pub kept_range : List Range → Range → List Range
kept_range rs r = kept rs r.first r.count r.kind r.rule r.label

-- the ranges of a list, one after the other
unfoldable pub gathered : List Range → List Range → List Range
gathered b [] = b
gathered b (r ∷ rs) = gathered (kept_range b r) rs
