-- What a table means: the first holder of a cell from a domain inwards, and the value behind a via parent chain.
use Rattle.std.specs.Prelude.{◌≡◌, ℕ, zero, suc, ◌+◌, ◌<◌, ◌≤◌, Bool, true, false, cond, List, ◌==◌, nat_lt, Option, MatchOption}
use Rattle.words.specs.Scan.{first}
use Rattle.words.specs.Layout.{max_cells}
use Rattle.words.specs.Cells.{cell_bytes}
use Rattle.patterns.specs.Pattern.{pattern}
use Rattle.table.specs.Entry.{word1, word2, depth_of, via_of, cell_of, below_depth, is_pattern, domains_from, names, find_in, holds_in}

-- what a search answers whose scan of n numbers gives `at`: that number, or none where it is n
abbrev pub Found : (n at : ℕ) → Option ℕ → Type 0
Found n at answer = MatchOption answer (at ≡ n) (λ i. (i < n) × (i ≡ at))

-- ---- the search for an entry by its key

-- a word whose depth and cell are all that it has
abbrev pub Bare : ℕ → Type 0
Bare key = below_depth key < max_cells

pub record IsKey (d c key : ℕ) : Type 0 where
  pub bare : Bare key
  pub depth : depth_of key ≡ d
  pub cell : cell_of key ≡ c

-- does an entry's first word name the depth and the cell of a key?
abbrev pub named_by : ℕ → ℕ → Bool
named_by key w = names (depth_of key) (cell_of key) w

-- it does in none of the entries from i on and before n
abbrev pub Unnamed : ℕ → List ℕ → ℕ → ℕ → ℕ → Type 0
Unnamed e t key i n = (k : ℕ) → i ≤ k → k < n → named_by key (word1 e t k) ≡ false

-- ---- the first holder, and the value

-- "the search runs from the named domain inwards and ends at the first holder": the depths before that holder, or all of them
unfoldable pub steps_in : ℕ → List ℕ → ℕ → ℕ → ℕ
steps_in e t d c = first (domains_from t d) (λ k. holds_in e t (d + k) c)

-- does the domain at depth d, or one inside it, hold cell c?
abbrev pub held_from : ℕ → List ℕ → ℕ → ℕ → Bool
held_from e t d c = nat_lt (steps_in e t d c) (domains_from t d)

-- "The value of a held cell is its body, or for via parent the value held by the next domain out": the entry at the end of that chain, a copy or
-- one that follows a rule; or e
unfoldable pub source_in : ℕ → List ℕ → ℕ → ℕ → ℕ
source_in e t zero c = e
source_in e t (suc d) c =
    cond (holds_in e t (suc d) c)
    (cond (via_of (word1 e t (find_in e t (suc d) c)) == 0) (find_in e t (suc d) c) (source_in e t d c))
    e

-- the value of an entry of its own, by its words: the bytes of its rule, or its body
abbrev pub own_value : (bodies : List ℕ) → (w v : ℕ) → List ℕ
own_value bodies w v = cond (is_pattern w) (pattern v) (cell_bytes bodies v)

-- the value of the cell that the domain at depth d holds, and whether it comes from a rule
unfoldable pub value_in : ℕ → List ℕ → List ℕ → ℕ → ℕ → List ℕ
value_in e t bodies d c = own_value bodies (word1 e t (source_in e t d c)) (word2 e t (source_in e t d c))

abbrev pub ruled_in : ℕ → List ℕ → ℕ → ℕ → Bool
ruled_in e t d c = is_pattern (word1 e t (source_in e t d c))

-- the entry at the end of the chain of the first holder from depth d inwards, and the value that this holder has of cell c
abbrev pub source_from : ℕ → List ℕ → ℕ → ℕ → ℕ
source_from e t d c = source_in e t (d + steps_in e t d c) c

abbrev pub bytes_from : ℕ → List ℕ → List ℕ → ℕ → ℕ → List ℕ
bytes_from e t bodies d c = value_in e t bodies (d + steps_in e t d c) c

-- where there is a first holder, its chain ends in an entry of the table
abbrev pub HasSource : ℕ → List ℕ → ℕ → ℕ → Type 0
HasSource e t d c = held_from e t d c ≡ true → source_from e t d c < e
