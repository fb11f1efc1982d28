-- Small sessions over buffers, each with the counts that document 01's notebook takes of it, and those that it would take were memory wrong in one
-- cell after the last restore: a history that takes no count, leaves too much unprotected or excludes too much tells another list.
-- proofs/Counts.antt computes them.
use Rattle.std.specs.Prelude.{ℕ, ◌+◌, Bool, true, false, ◌&&◌, List, [], ◌∷◌, ◌≡◌}
use Rattle.words.specs.Layout.{cell_at}
use Rattle.words.specs.Stores.{Store, ◌≔◌, tab, stores}
use Rattle.model.specs.Answer.{Status, is_done, is_stopped, is_refused}
use Rattle.model.specs.History.{create, add, delete, advance, changes, restore, Event, made, called, opened, written, Observation, observed, begun, counts}
use Rattle.model.specs.Session.{Input, call, opening, write}
use Rattle.store.specs.Outcome.{Buffers}
use Rattle.demands.specs.Session.{plain_add, session, opening_rule}
use Rattle.demands.specs.Demands.{made_from}
use Rattle.demands.specs.Starred.{scenario, initial_buffers, by_copy, no_rule, read_write, copied}

-- a fresh store of two cells, three entry slots and three bodies; every byte of memory is 1
abbrev pub start : Buffers
start = made_from (initial_buffers (scenario 2 3 3 [])) 100

-- a cell filled with one byte
abbrev pub filling : (cell byte : ℕ) → List Store
filling c v = tab 64 (λ j. cell_at c + j ≔ v)

abbrev pub fills : (cell byte : ℕ) → Input
fills c v = write (filling c v)

-- the last memory with a cell filled with a byte that no session writes
abbrev pub wrong_in : (cell : ℕ) → List Observation → List Observation
wrong_in c [] = []
wrong_in c (o ∷ []) = observed o.event (stores (filling c 99) o.memory) ∷ []
wrong_in c (o ∷ p ∷ os) = o ∷ wrong_in c (p ∷ os)

-- was no call refused?
abbrev pub accepted : Status → Bool
accepted is_done = true
accepted is_stopped = true
accepted is_refused = false

abbrev pub accepted_event : Event → Bool
accepted_event (made k s) = accepted s
accepted_event (called c k s) = accepted s
accepted_event (opened k s n) = accepted s
accepted_event (written places) = true

abbrev pub all_accepted : List Observation → Bool
all_accepted [] = true
all_accepted (o ∷ os) = accepted_event o.event && all_accepted os

-- what is taken of a session: whether no call was refused, its counts, and its counts with cell 0, or cell 1, wrong in the last memory
pub record Taken : Type 0 where
  pub unrefused : Bool
  pub right : List ℕ
  pub wrong0 : List ℕ
  pub wrong1 : List ℕ

abbrev pub taken_of : List Observation → Taken
taken_of os =
    record { unrefused = all_accepted os; right = counts begun os; wrong0 = counts begun (wrong_in 0 os); wrong1 = counts begun (wrong_in 1 os) }

-- a session and what must be taken of it
pub record Line : Type 0 where
  pub inputs : List Input
  pub expected : Taken

abbrev pub line : List Input → (right wrong0 wrong1 : List ℕ) → Line
line is r w0 w1 = record { inputs = is; expected = record { unrefused = true; right = r; wrong0 = w0; wrong1 = w1 } }

-- it keeps the rule that an opening follows a stopped call, and that is what is taken of it
abbrev pub LineHolds : Line → Type 0
LineHolds l = (opening_rule false l.inputs start ≡ true) × (taken_of (session l.inputs start) ≡ l.expected)

abbrev pub LinesHold : List Line → Type 0
LinesHold [] = Unit {0}
LinesHold (l ∷ ls) = LineHolds l × LinesHold ls

abbrev pub creates : Input
creates = call (changes create) 100

-- every add is by copy and read-write; a plain add and delete name a handle, a first cell and a count
abbrev pub adds : (h first n : ℕ) → Input
adds h first n = call (changes (plain_add h first n by_copy no_rule read_write)) 200

abbrev pub deletes : (h first n : ℕ) → Input
deletes h first n = call (changes (delete h first n)) 100

-- ---- the lines

-- 1 holds cell 0; the program writes both cells: the bytes of cell 1, which nobody held, are unprotected, and those of cell 0 count
abbrev pub wrote_both : Line
wrote_both =
    line (fills 0 7 ∷ creates ∷ adds 1 0 1 ∷ fills 0 9 ∷ fills 1 9 ∷ call (restore 1) 100 ∷ [])
    (0 ∷ []) (64 ∷ []) (0 ∷ [])

-- 1 holds cell 0 at 7; write 9, restore; an advance at 9, cut in its table part and carried out by the second opening; write 11, restore
abbrev pub two_restores : Line
two_restores =
    line (fills 0 7 ∷ creates ∷ adds 1 0 1 ∷ fills 0 9 ∷ call (restore 1) 100 ∷ fills 0 9 ∷ call (changes (advance 1)) 70 ∷ opening 1 ∷ opening 9
    ∷ fills 0 11 ∷ call (restore 0) 100 ∷ [])
    (0 ∷ 0 ∷ []) (0 ∷ 64 ∷ []) (0 ∷ 64 ∷ [])

-- 2 inside 1 holds the cell too; the restore of 1 is cut after word 6 and carried out by opening: its count is taken there
abbrev pub late_restore : Line
late_restore =
    line (fills 0 7 ∷ creates ∷ adds 1 0 1 ∷ creates ∷ adds 2 0 1 ∷ fills 0 9 ∷ call (restore 1) 74 ∷ opening 100 ∷ [])
    (0 ∷ []) (64 ∷ []) (64 ∷ [])

-- 1 holds both cells, and cell 0 is deleted from it: its bytes are unprotected, and those of cell 1 count
abbrev pub deleted_cell : Line
deleted_cell =
    line (creates ∷ adds 1 0 2 ∷ deletes 1 0 1 ∷ fills 1 9 ∷ call (restore 1) 100 ∷ [])
    (0 ∷ []) (0 ∷ []) (64 ∷ [])

-- 1 and 2 inside it hold cell 0, and it is deleted from 1: its bytes count for 2
abbrev pub deleted_around : Line
deleted_around =
    line (fills 0 7 ∷ creates ∷ adds 1 0 1 ∷ creates ∷ adds 2 0 1 ∷ deletes 1 0 1 ∷ fills 0 9 ∷ call (restore 2) 100 ∷ [])
    (0 ∷ []) (64 ∷ []) (64 ∷ [])

-- 2 inside 1 holds cell 0, and it is deleted from 2: its bytes are unprotected for 1, which is around it
abbrev pub deleted_inside : Line
deleted_inside =
    line (creates ∷ creates ∷ adds 2 0 1 ∷ deletes 2 0 1 ∷ call (restore 1) 100 ∷ [])
    (0 ∷ []) (0 ∷ []) (64 ∷ [])

-- 2 inside 1 holds cell 1, the program writes 9, and 3 is created inside 2; the restore of 2 is cut after six bytes. The restore of 3 has no count
-- (six bytes differ from its snapshot); those of 2 and of 1 around it have theirs
abbrev pub cut_inside : Line
cut_inside =
    line (creates ∷ creates ∷ adds 2 1 1 ∷ fills 1 9 ∷ creates ∷ call (restore 2) 6 ∷ opening 0 ∷ call (restore 3) 100
    ∷ call (restore 2) 100 ∷ call (restore 1) 100 ∷ [])
    (0 ∷ 0 ∷ []) (0 ∷ 64 ∷ []) (0 ∷ 64 ∷ [])

-- one add of two ranges, cell 1 and cell 0, cut in its table part and carried out by opening: both cells are held, and count
abbrev pub two_ranges : Line
two_ranges =
    line (creates ∷ call (changes (add 1 (copied 1 1 ∷ copied 0 1 ∷ []))) 138 ∷ opening 100 ∷ fills 0 9 ∷ fills 1 9 ∷ call (restore 1) 200 ∷ [])
    (0 ∷ []) (64 ∷ []) (64 ∷ [])

-- 1 holds nothing, 2 inside it holds cell 0 at 7, and write 9; the advance of 2 is cut in its table part and carried out by opening; after a write of 11
-- each time, the restore of 2 and then that of 1 have their counts
abbrev pub inner_advance : Line
inner_advance =
    line (fills 0 7 ∷ creates ∷ creates ∷ adds 2 0 1 ∷ fills 0 9 ∷ call (changes (advance 2)) 74 ∷ opening 100 ∷ fills 0 11 ∷ call (restore 2) 100
    ∷ fills 0 11 ∷ call (restore 1) 100 ∷ [])
    (0 ∷ 0 ∷ []) (0 ∷ 64 ∷ []) (0 ∷ 64 ∷ [])

abbrev pub counted_lines : List Line
counted_lines = wrote_both ∷ two_restores ∷ late_restore ∷ deleted_cell ∷ deleted_around ∷ deleted_inside ∷ cut_inside ∷ two_ranges ∷ inner_advance ∷ []
