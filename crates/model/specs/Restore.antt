-- Document 01, "The calls": what restore means for the state and memory, with its question and its numbers, and what look shows.
use Rattle.std.specs.Prelude.{ℕ, zero, suc, ◌+◌, ◌*◌, ◌-◌, ◌/◌, ◌%◌, cond, List, [], ◌∷◌, ltb, eqb, length, get_or, take, drop}
use Rattle.std.proofs.Math.Option.{Option, none, some}
use Rattle.words.specs.Layout.{cell_size}
use Rattle.words.specs.Scan.{count}
use Rattle.words.specs.Stores.{tab}
use Rattle.words.specs.Cells.{cell_bytes}
use Rattle.patterns.specs.Pattern.{pattern}
use Rattle.model.specs.State.{Holding, Domain, State}
use Rattle.model.specs.Answer.{Report, done, refused, by_number, View}
use Rattle.model.specs.Calls.{Effect, change, or_refuse, viewed_with}
use Rattle.model.specs.Holdings.{named, is_held, value_or, held_rule, ask_live, ask_range, count_held}

-- ---- the bytes of memory: the cell that byte x is in, and its place in that cell

abbrev pub cell_of_byte : ℕ → ℕ
cell_of_byte x = x / cell_size

abbrev pub place_in_cell : ℕ → ℕ
place_in_cell x = x % cell_size

-- ---- holders

-- the domain at depth d and those inside it, outermost first; nobody at depth 0
abbrev pub from_depth : ℕ → List Domain → List Domain
from_depth zero xs = []
from_depth (suc d) xs = drop d xs

abbrev pub or_inner : Option Holding → Option Holding → Option Holding
or_inner none inner = inner
or_inner (some h) inner = some h

-- "ends at the first holder": what the outermost of these domains that holds cell c holds of it
abbrev pub first_held : List Domain → ℕ → Option Holding
first_held [] c = none
first_held (x ∷ xs) c = or_inner (x.holds c) (first_held xs c)

-- the first holder of cell c from the domain at depth d inwards
abbrev pub outermost : (d c : ℕ) → State → Option Holding
outermost d c s = first_held (from_depth d s.domains) c

-- ---- restore: "puts back each cell held by the named domain or one inside it, with the value of the outermost of these holders. Other bytes
-- of memory keep theirs"; d is the depth of the named domain

-- the 64 bytes that it leaves in cell c
abbrev pub restored_cell : (d : ℕ) → State → List ℕ → (c : ℕ) → List ℕ
restored_cell d s memory c = value_or (cell_bytes memory c) (outermost d c s)

-- the byte that it leaves at x
abbrev pub restored_byte : (d : ℕ) → State → List ℕ → (x : ℕ) → ℕ
restored_byte d s memory x = get_or (restored_cell d s memory (cell_of_byte x)) (place_in_cell x) 0

unfoldable pub restored_memory : (d : ℕ) → State → List ℕ → List ℕ
restored_memory d s memory = tab (length memory) (restored_byte d s memory)

-- "Domains inside are then ended and their entries freed; the named one stays"
abbrev pub restored : (d : ℕ) → State → State
restored d s = record { next = s.next; domains = take d s.domains }

-- the cells that it puts back, of m cells
abbrev pub cells_put_back : (m d : ℕ) → State → ℕ
cells_put_back m d s = count m (λ c. is_held (outermost d c s))

-- the domains that it ends, and their entries
abbrev pub ended_domains : (d : ℕ) → State → ℕ
ended_domains d s = length s.domains - d

abbrev pub freed_entries : (m d : ℕ) → State → ℕ
freed_entries m d s = count_held m is_held (drop d s.domains)

-- "p is 2 for each entry .. freed .., plus .. 1 + d in a restore that ends d domains, d above 0"
abbrev pub restore_words : (m d : ℕ) → State → ℕ
restore_words m d s = cond (eqb (ended_domains d s) 0) 0 (2 * freed_entries m d s + (1 + ended_domains d s))

abbrev pub restore_checks : (h : ℕ) → State → ℕ
restore_checks h s = ask_live h s 0

abbrev pub restore_effect : (m h : ℕ) → State → Effect
restore_effect m h s =
    or_refuse (restore_checks h s)
    (change (cell_size * cells_put_back m (named h s) s) (restore_words m (named h s) s) 0 (restored (named h s) s))

-- memory after k steps: "A call stores bytes first: 64 for each .. cell put back, rising by cell and byte"
unfoldable pub memory_after_steps : (k d : ℕ) → State → List ℕ → List ℕ
memory_after_steps k d s memory =
    tab (length memory) (λ x. cond (ltb (cell_size * cells_put_back (cell_of_byte x) d s + place_in_cell x) k) (restored_byte d s memory x) (get_or memory x 0))

abbrev pub restore_view : (m h k : ℕ) → State → List ℕ → View
restore_view m h k s memory = viewed_with (restore_effect m h s) k s memory (memory_after_steps k (named h s) s memory)

-- ---- look: "shows, for a handle and a cell, the 64 bytes that restore would leave there"; it changes nothing

abbrev pub look_checks : (m h c : ℕ) → State → ℕ
look_checks m h c s = ask_live h s (ask_range m c 1 0)

-- what it answers, the part that it shows, and the rule that it tells
pub record Looked : Type 0 where
  pub report : Report
  pub part : List ℕ
  pub rule : Option ℕ

-- "when it is refused, the part has length 0"
abbrev pub look_refused : ℕ → Looked
look_refused n = record { report = refused n; part = []; rule = none }

-- "Look answers the rule number for it, with a part of length 0": the part where a rule, or none, is told
abbrev pub part_beside : Option ℕ → List ℕ → List ℕ
part_beside none part = part
part_beside (some r) part = []

abbrev pub looked_by : ℕ → Option ℕ → List ℕ → Looked
looked_by q rule part = by_number look_refused q (record { report = done 0 0; part = part_beside rule part; rule = rule })

-- the 64 bytes that it tells: the part, or those of the rule
abbrev pub bytes_of_rule : Option ℕ → List ℕ → List ℕ
bytes_of_rule none part = part
bytes_of_rule (some r) part = pattern r

abbrev pub bytes_told : Looked → List ℕ
bytes_told l = bytes_of_rule l.rule l.part

abbrev pub looked : (m h c : ℕ) → State → List ℕ → Looked
looked m h c s memory = looked_by (look_checks m h c s) (held_rule (outermost (named h s) c s)) (restored_cell (named h s) s memory c)
