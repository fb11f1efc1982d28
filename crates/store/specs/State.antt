-- The state that a table and bodies stand for.
use Rattle.std.specs.Prelude.{ℕ, suc, ◌<◌, ◌≡◌, true, false, cond, List, eqb, length, get_or}
use Rattle.std.proofs.Math.Option.{Option, none, some}
use Rattle.words.specs.Layout.{pairs_at, slots_of}
use Rattle.words.specs.Stores.{tab}
use Rattle.words.specs.Journal.{effective}
use Rattle.words.specs.Cells.{cell_bytes}
use Rattle.patterns.specs.Pattern.{pattern}
use Rattle.table.specs.Entry.{live, next_handle, handle, word1, word2, writable_of, via_of, pattern_of, parent, names, find_in, holds_in}
use Rattle.search.specs.Search.{value_in}
use Rattle.model.specs.State.{Label, read_only, read_write, Kind, copy, via_parent, by_rule, Holding, Domain, State}
use Rattle.store.specs.Outcome.{Buffers}
use Rattle.store.specs.Checks.{open_check, lent_of}

-- the label that an entry's first word tells, and the kind that its words w and v tell
abbrev pub label_of : ℕ → Label
label_of w = cond (eqb (writable_of w) 1) read_write read_only

abbrev pub kind_of : (w v : ℕ) → Kind
kind_of w v = cond (eqb (via_of w) 1) via_parent (cond (eqb (pattern_of w) 1) (by_rule v) copy)

-- ---- as a relation, read off the words of a table t with e entry slots and nothing pending

-- "The value of a held cell is its body, or for via parent the value held by the next domain out", or the bytes of its rule
pub data ValueIs (e : ℕ) (t bodies : List ℕ) : ℕ → ℕ → List ℕ → Type 0 where
  of_copy : {d c i : ℕ} → i < e → names d c (word1 e t i) ≡ true → via_of (word1 e t i) ≡ 0 → pattern_of (word1 e t i) ≡ 0 →
      ValueIs e t bodies d c (cell_bytes bodies (word2 e t i))
  of_rule : {d c i : ℕ} → i < e → names d c (word1 e t i) ≡ true → via_of (word1 e t i) ≡ 0 → pattern_of (word1 e t i) ≡ 1 →
      ValueIs e t bodies d c (pattern (word2 e t i))
  of_parent : {d c i : ℕ} {v : List ℕ} → i < e → names d c (word1 e t i) ≡ true → via_of (word1 e t i) ≡ 1 →
      ValueIs e t bodies (parent d) c v → ValueIs e t bodies d c v

-- what the domain at depth d holds of cell c: nothing where no entry names them; else the entry's label and kind, and the value
pub data HoldingIs (e : ℕ) (t bodies : List ℕ) (d c : ℕ) : Option Holding → Type 0 where
  nothing : ((i : ℕ) → i < e → names d c (word1 e t i) ≡ false) → HoldingIs e t bodies d c none
  entry : {i : ℕ} {v : List ℕ} → i < e → names d c (word1 e t i) ≡ true → ValueIs e t bodies d c v →
      HoldingIs e t bodies d c (some (record { label = label_of (word1 e t i); kind = kind_of (word1 e t i) (word2 e t i); value = v }))

-- the k-th live domain, counted from 0 at the outermost, whose depth is k + 1
pub record DomainIs (e : ℕ) (t bodies : List ℕ) (k : ℕ) (d : Domain) : Type 0 where
  pub named : d.handle ≡ handle t k
  pub holding : (c : ℕ) → HoldingIs e t bodies (suc k) c (d.holds c)

abbrev pub no_domain : Domain
no_domain = record { handle = 0; holds = λ c. none }

pub record StandsFor (e : ℕ) (t bodies : List ℕ) (s : State) : Type 0 where
  pub next : s.next ≡ next_handle t
  pub count : length s.domains ≡ live t
  pub domains : (k : ℕ) → k < live t → DomainIs e t bodies k (get_or s.domains k no_domain)

-- ---- as a function

unfoldable pub held_in : ℕ → List ℕ → List ℕ → ℕ → ℕ → Option Holding
held_in e t bodies d c =
    cond (holds_in e t d c)
    (some (record {
      label = label_of (word1 e t (find_in e t d c));
      kind = kind_of (word1 e t (find_in e t d c)) (word2 e t (find_in e t d c));
      value = value_in e t bodies d c;
    }))
    none

abbrev pub domain_in : ℕ → List ℕ → List ℕ → ℕ → Domain
domain_in e t bodies k = record { handle = handle t k; holds = held_in e t bodies (suc k) }

unfoldable pub state_in : ℕ → List ℕ → List ℕ → State
state_in e t bodies = record { next = next_handle t; domains = tab (live t) (domain_in e t bodies) }

-- ---- of the lent buffers: pending pairs in place

abbrev pub slots : Buffers → ℕ
slots b = slots_of (length b.table)

abbrev pub effective_table : Buffers → List ℕ
effective_table b = effective (pairs_at (slots b)) b.table

unfoldable pub state_of : Buffers → State
state_of b = state_in (slots b) (effective_table b) b.bodies

-- the state that opening finds: none where it refuses the table
unfoldable pub standing : Buffers → Option State
standing b = cond (eqb (open_check (lent_of b)) 0) (some (state_of b)) none
