-- The answers of the search inwards: the first holder of a cell, and the value that it has.
use Rattle.std.specs.Prelude.{ℕ, ◌+◌, ◌≤◌, cond, List, length, Option, Some, None}
use Rattle.words.specs.Layout.{cell_at, cell_size}
use Rattle.words.specs.Cells.{cell_bytes}
use Rattle.patterns.specs.Pattern.{pattern}
use Rattle.table.specs.Entry.{word1, word2, is_pattern, find_in}
use Rattle.search.specs.Search.{steps_in, held_from, source_from}
use Rattle.search.specs.declared.holders.Holder.{Holder}
use Rattle.search.specs.declared.holders.Held.{Held}
use Rattle.search.specs.declared.holders.Value.{Value}
use Rattle.search.specs.declared.holders.Value.TheVariants.{Body, Rule}

-- the depth and the entry of the first holder from depth d inwards, or nobody
unfoldable pub holder_in : ℕ → List ℕ → ℕ → ℕ → Option Holder
holder_in e t d c =
    cond (held_from e t d c) (Some (record { depth = d + steps_in e t d c; entry = find_in e t (d + steps_in e t d c) c })) None

-- the value of an entry of its own, by its two words: a rule, or a body
abbrev pub value_of : (w v : ℕ) → Value
value_of w v = cond (is_pattern w) (Rule v) (Body v)

-- the bytes that a value stands for: those of its body, or of its rule
abbrev pub value_bytes : (bodies : List ℕ) → Value → List ℕ
value_bytes bodies (Body k) = cell_bytes bodies k
value_bytes bodies (Rule k) = pattern k

-- its body, where it has one, is one of the bodies
abbrev pub BodyWithin : (bodies : List ℕ) → Value → Type 0
BodyWithin bodies (Body k) = cell_at k + cell_size ≤ length bodies
BodyWithin bodies (Rule k) = Unit {0}

-- what a holder at depth d has whose chain ends in an entry with these words
abbrev pub held_by : (d w v : ℕ) → Held
held_by d w v = record { depth = d; value = value_of w v }

-- what the first holder from depth d inwards has of cell c, or nothing where nobody holds it
unfoldable pub value_from : ℕ → List ℕ → ℕ → ℕ → Option Held
value_from e t d c =
    cond (held_from e t d c) (Some (held_by (d + steps_in e t d c) (word1 e t (source_from e t d c)) (word2 e t (source_from e t d c)))) None
