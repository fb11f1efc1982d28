-- Small sessions computed: that the history counts at all, that it counts wrong memory, and that such lists are lists of sessions. And questions, and
-- nested restores, of small states.
use Prim.Native.Nat.{ℕ, ◌+◌}
use mathlib.Core.Bool.{cond}
use mathlib.Core.List.{List, [], ◌∷◌, ◌++◌}
use mathlib.Core.Option.{Option, none, some}
use mathlib.Core.Path.{◌≡◌, refl}
use lib.Dec.{eqb}
use lib.ListN.{length, replicate}
use Rattle.words.specs.Scan.{all, count}
use Rattle.words.specs.Stores.{Store, ◌≔◌, tab}
use Rattle.words.specs.Cells.{same_cell}
use Rattle.ranges.specs.declared.Range.{Range}
use Rattle.ranges.specs.Ranges.{one_range}
use Rattle.patterns.specs.Pattern.{pattern_byte, pattern}
use Rattle.model.specs.State.{read_write, copy, via_parent, Holding, State}
use Rattle.model.specs.Answer.{is_done, is_stopped, Report, done}
use Rattle.model.specs.Calls.{fresh, created}
use Rattle.model.specs.Holdings.{Room, named, live_entries, copies_in_use, add_to, add_checks, advance_checks}
use Rattle.model.specs.Restore.{restored_memory, restored}
use Rattle.model.specs.History.{Changing, create, add, delete, advance, commit, changes, restore, Event, called, opened, written, Observation, observed, begun, counts}
use Rattle.model.specs.Session.{call, opening, write, World, memory_of, call_done, call_late, open_finishes, open_stopped, written_to, Session, end, next, after_make}

-- memory of one cell, filled with one byte; all its places
abbrev filled : ℕ → List ℕ
filled v = replicate 64 v

abbrev places : List ℕ
places = tab 64 (λ x. x)

abbrev does : Event → ℕ → Observation
does e v = observed e (filled v)

-- a changing call done
abbrev changed : Changing → Event
changed c = called (changes c) 100 is_done

-- domain 1 copies cell 0 = 7 read-write, write 9, restore 1: memory is 7, or was left at 9
kept : counts begun (does (changed create) 7 ∷ does (changed (add 1 (one_range 0 1 0 0 1))) 7 ∷ does (written places) 9
    ∷ does (called (restore 1) 100 is_done) 7 ∷ []) ≡ 0 ∷ []
unfolding count
kept = refl

lost : counts begun (does (changed create) 7 ∷ does (changed (add 1 (one_range 0 1 0 0 1))) 7 ∷ does (written places) 9
    ∷ does (called (restore 1) 100 is_done) 9 ∷ []) ≡ 64 ∷ []
unfolding count
lost = refl

-- held read-only: the write leaves the cell unprotected, and nothing is asked of it
unheld : counts begun (does (changed create) 7 ∷ does (changed (add 1 (one_range 0 1 0 0 0))) 7 ∷ does (written places) 9
    ∷ does (called (restore 1) 100 is_done) 9 ∷ []) ≡ 0 ∷ []
unfolding count
unheld = refl

-- the restore of 1 cut late, with 2 inside: counted at the opening that carries it out, though that was cut itself
late : counts begun (does (changed create) 7 ∷ does (changed (add 1 (one_range 0 1 0 0 1))) 7 ∷ does (written places) 9
    ∷ does (changed create) 9 ∷ does (called (restore 1) 70 is_stopped) 7 ∷ does (opened 1 is_stopped 1) 7 ∷ does (opened 100 is_done 3) 7
    ∷ does (called (restore 0) 100 is_done) 7 ∷ []) ≡ 0 ∷ 0 ∷ []
unfolding count
late = refl

-- cut early, with memory mixed: 2 is excluded and its own restore not counted, 1 is counted
early : counts begun (does (changed create) 7 ∷ does (changed (add 1 (one_range 0 1 0 0 1))) 7 ∷ does (written places) 9
    ∷ does (changed create) 9 ∷ does (called (restore 1) 3 is_stopped) 8 ∷ does (opened 100 is_done 0) 8
    ∷ does (called (restore 2) 100 is_done) 8 ∷ does (called (restore 1) 100 is_done) 7 ∷ []) ≡ 0 ∷ []
unfolding count
early = refl

-- 1 holds 7 read-only, 2 copies it read-write, write 9, commit, advance 1, write 11, restore 1: 9; a stale 7 is counted
moved_on : counts begun (does (changed create) 7 ∷ does (changed (add 1 (one_range 0 1 0 0 0))) 7 ∷ does (changed create) 7
    ∷ does (changed (add 2 (one_range 0 1 0 0 1))) 7 ∷ does (written places) 9 ∷ does (changed (commit 2)) 9
    ∷ does (changed (advance 1)) 9 ∷ does (written places) 11 ∷ does (called (restore 1) 100 is_done) 9 ∷ []) ≡ 0 ∷ []
unfolding count
moved_on = refl

stale : counts begun (does (changed create) 7 ∷ does (changed (add 1 (one_range 0 1 0 0 0))) 7 ∷ does (changed create) 7
    ∷ does (changed (add 2 (one_range 0 1 0 0 1))) 7 ∷ does (written places) 9 ∷ does (changed (commit 2)) 9
    ∷ does (changed (advance 1)) 9 ∷ does (written places) 11 ∷ does (called (restore 1) 100 is_done) 7 ∷ []) ≡ 64 ∷ []
unfolding count
stale = refl

-- document 02: 1 holds nothing, 2 copies cell 0 = 7 read-write, write 9, advance 2, write 11, restore 1: 7, a stale 9 is counted; restore 2: 9
outer_point : counts begun (does (changed create) 7 ∷ does (changed create) 7 ∷ does (changed (add 2 (one_range 0 1 0 0 1))) 7 ∷ does (written places) 9
    ∷ does (changed (advance 2)) 9 ∷ does (written places) 11 ∷ does (called (restore 2) 100 is_done) 9 ∷ does (written places) 11
    ∷ does (called (restore 1) 100 is_done) 7 ∷ does (called (restore 1) 100 is_done) 9 ∷ []) ≡ 0 ∷ 0 ∷ 64 ∷ []
unfolding count all same_cell
outer_point = refl

-- what is given outwards is protected there: once 2 is gone, a write falls on a cell that 1 holds, and a restore of 1 has to put it back
given_stays : counts begun (does (changed create) 7 ∷ does (changed create) 7 ∷ does (changed (add 2 (one_range 0 1 0 0 1))) 7 ∷ does (written places) 9
    ∷ does (changed (advance 2)) 9 ∷ does (called (restore 1) 100 is_done) 7 ∷ does (written places) 11 ∷ does (called (restore 1) 100 is_done) 11 ∷ [])
    ≡ 0 ∷ 64 ∷ []
unfolding count all same_cell
given_stays = refl

-- ---- two cells: no line leaves more unprotected than document 01 says

abbrev two_cells : Event → (v w : ℕ) → Observation
two_cells e v w = observed e (filled v ++ filled w)

-- nobody holds a cell, write 9 to cell 0: nothing is asked of it, and a wrong cell 1 is counted
beside : counts begun (two_cells (changed create) 7 7 ∷ two_cells (written places) 9 7 ∷ two_cells (called (restore 1) 100 is_done) 9 8 ∷ []) ≡ 64 ∷ []
unfolding count
beside = refl

-- 1 holds both read-write, write 9, delete cell 0: nothing is asked of it any more, and a cell 1 left at 9 is counted
deleted : counts begun (two_cells (changed create) 7 7 ∷ two_cells (changed (add 1 (one_range 0 2 0 0 1))) 7 7 ∷ two_cells (written (places ++ tab 64 (λ x. x + 64))) 9 9
    ∷ two_cells (changed (delete 1 0 1)) 9 9 ∷ two_cells (called (restore 1) 100 is_done) 9 9 ∷ []) ≡ 64 ∷ []
unfolding count
deleted = refl

-- 1 and 2 hold cell 0 read-write, write 9, delete it from 1: a restore of 2 that leaves 9 is counted, and one of 1 asks nothing of it
deleted_outside : counts begun (does (changed create) 7 ∷ does (changed (add 1 (one_range 0 1 0 0 1))) 7 ∷ does (changed create) 7
    ∷ does (changed (add 2 (one_range 0 1 0 0 1))) 7 ∷ does (written places) 9 ∷ does (changed (delete 1 0 1)) 9
    ∷ does (called (restore 2) 100 is_done) 9 ∷ does (called (restore 1) 100 is_done) 9 ∷ []) ≡ 64 ∷ 0 ∷ []
unfolding count
deleted_outside = refl

-- 2 inside 1 holds cell 0 read-write, and it is deleted from 2: nothing is asked of it by 1 either, which is around it
deleted_inside_lem : counts begun (does (changed create) 7 ∷ does (changed create) 7 ∷ does (changed (add 2 (one_range 0 1 0 0 1))) 7
    ∷ does (changed (delete 2 0 1)) 7 ∷ does (called (restore 1) 100 is_done) 9 ∷ []) ≡ 0 ∷ []
unfolding count
deleted_inside_lem = refl

-- the restore of 2 cut early: 3 inside it is excluded, 2 and 1 around it are counted
cut_inside_lem : counts begun (does (changed create) 7 ∷ does (changed create) 7 ∷ does (changed create) 7
    ∷ does (called (restore 2) 3 is_stopped) 7 ∷ does (opened 100 is_done 0) 7 ∷ does (called (restore 3) 100 is_done) 9
    ∷ does (called (restore 2) 100 is_done) 9 ∷ does (called (restore 1) 100 is_done) 9 ∷ []) ≡ 64 ∷ 64 ∷ []
unfolding count
cut_inside_lem = refl

-- one add of two ranges: cell 0 read-only, then both cells read-write, so that both are asked to be put back
two_ranges_lem : counts begun (two_cells (changed create) 7 7 ∷ two_cells (changed (add 1 (one_range 0 1 0 0 0 ++ one_range 0 2 0 0 1))) 7 7
    ∷ two_cells (written (places ++ tab 64 (λ x. x + 64))) 9 9 ∷ two_cells (called (restore 1) 100 is_done) 9 9 ∷ []) ≡ 128 ∷ []
unfolding count
two_ranges_lem = refl

-- ---- what is in use: domain 1 copies cell 0, domain 2 holds it via parent

abbrev outer : State
outer = add_to (filled 7) 0 1 copy read_write (created fresh)

abbrev both : State
both = add_to (filled 7) 0 1 via_parent read_write (created outer)

-- two live entries, one copy in use
in_use : (live_entries 1 both ≡ 2) × (copies_in_use 1 both ≡ 1)
unfolding count
in_use = (refl, refl)

-- "B = 1, one read-write copy, advance: 17. B = 2: done." It "is refused only after a write that changes it"
one_body : (advance_checks (record { cells = 1; slots = 8; bodies = 1 }) (filled 9) 1 outer ≡ 17) × (advance_checks (record { cells = 1; slots = 8; bodies = 2 }) (filled 9) 1 outer ≡ 0)
    × (advance_checks (record { cells = 1; slots = 8; bodies = 1 }) (filled 7) 1 outer ≡ 0)
unfolding count all same_cell
one_body = (refl, refl, refl)

-- an inner advance: 1 holds nothing, 2 copies cell 0. One entry more is asked for where the cell changed, and one body; the outermost needs no entry
abbrev lone : State
lone = add_to (filled 7) 0 1 copy read_write (created (created fresh))

abbrev inner_asked : (slots bodies v : ℕ) → ℕ
inner_asked e b v = advance_checks (record { cells = 1; slots = e; bodies = b }) (filled v) 2 lone

one_entry_more : (inner_asked 1 2 9 ≡ 16) × (inner_asked 2 2 9 ≡ 0) × (inner_asked 1 1 7 ≡ 0) × (inner_asked 1 1 9 ≡ 16) × (inner_asked 2 1 9 ≡ 17)
    × (advance_checks (record { cells = 1; slots = 1; bodies = 2 }) (filled 9) 1 outer ≡ 0)
unfolding count all same_cell
one_entry_more = (refl, refl, refl, refl, refl, refl)

-- where the parent holds the cell none is asked for
none_more : advance_checks (record { cells = 1; slots = 2; bodies = 2 }) (filled 9) 2 both ≡ 0
unfolding count all same_cell
none_more = refl

-- "E = 1, cell 0 held: add cells 0 and 1 gives 16; add cell 0 is done."
one_slot : (add_checks (record { cells = 2; slots = 1; bodies = 8 }) (filled 7 ++ filled 7) 1 (one_range 0 2 0 0 1) outer ≡ 16)
    × (add_checks (record { cells = 2; slots = 1; bodies = 8 }) (filled 7 ++ filled 7) 1 (one_range 0 1 0 0 1) outer ≡ 0)
unfolding count
one_slot = (refl, refl)

-- ---- the questions on a list

abbrev list_asked : (slots bodies : ℕ) → List Range → State → ℕ
list_asked e b rs s = add_checks (record { cells = 2; slots = e; bodies = b }) (filled 7 ++ filled 7) 0 rs s

-- "a later one finds cells that an earlier one has just taken": copy and then via parent of one cell is done, the other way round nobody holds it
in_list_order : (list_asked 8 8 (one_range 0 1 0 0 1 ++ one_range 0 1 1 0 1) (created fresh) ≡ 0)
    × (list_asked 8 8 (one_range 0 1 1 0 1 ++ one_range 0 1 0 0 1) (created fresh) ≡ 11)
unfolding count all
in_list_order = (refl, refl)

-- 1 copies cell 0: the first range that names it fixes its kind in 2, so that no body is needed, or one
first_kind : (list_asked 8 1 (one_range 0 1 1 0 1 ++ one_range 0 1 0 0 1) (created outer) ≡ 0)
    × (list_asked 8 1 (one_range 0 1 0 0 1 ++ one_range 0 1 1 0 1) (created outer) ≡ 17)
unfolding count all same_cell
first_kind = (refl, refl)

-- "those on room once for the whole list": each range fits alone, and both do not; a cell that both name is counted once; a later range's kind is
-- asked before room
room_for_all : (list_asked 1 8 (one_range 0 1 0 0 1 ++ one_range 1 1 0 0 1) (created fresh) ≡ 16)
    × (list_asked 8 1 (one_range 0 1 0 0 1 ++ one_range 1 1 0 0 1) (created fresh) ≡ 17)
    × (list_asked 1 1 (one_range 0 1 0 0 0 ++ one_range 0 1 0 0 1) (created fresh) ≡ 0)
    × (list_asked 0 0 (one_range 0 1 0 0 1 ++ one_range 1 1 3 0 1) (created fresh) ≡ 7)
unfolding count all
room_for_all = (refl, refl, refl, refl)

-- "fewer than 1 or more than 64 records", after the handle's questions
how_many : (list_asked 8 8 [] (created fresh) ≡ 20) × (list_asked 8 8 [] fresh ≡ 5)
    × (list_asked 8 8 (tab 64 (λ i. record { first = 0; count = 1; kind = 0; rule = 0; label = 1 })) (created fresh) ≡ 0)
    × (list_asked 8 8 (tab 65 (λ i. record { first = 0; count = 1; kind = 3; rule = 0; label = 1 })) (created fresh) ≡ 20)
unfolding count all
how_many = (refl, refl, refl, refl)

-- ---- inner first, outer after (request A.5): of cell 0 domain 1 holds 7 and domain 3 holds 8, of cell 1 domain 2 holds 1, and memory is 9 everywhere

abbrev holds_one : (cell v c : ℕ) → Option Holding
holds_one cell v c = cond (eqb c cell) (some (record { label = read_write; kind = copy; value = filled v })) none

abbrev nested : State
nested = record {
  next = 4;
  domains = record { handle = 1; holds = holds_one 0 7 } ∷ record { handle = 2; holds = holds_one 1 1 } ∷ record { handle = 3; holds = holds_one 0 8 } ∷ [];
}

-- the state and the memory that a restore of handle h leaves
abbrev state_back : ℕ → State → State
state_back h s = restored (named h s) s

abbrev memory_back : ℕ → State → List ℕ → List ℕ
memory_back h s m = restored_memory (named h s) s m

-- 2 and then 1, beside 1 alone
nested_memory : memory_back 1 (state_back 2 nested) (memory_back 2 nested (filled 9 ++ filled 9)) ≡ memory_back 1 nested (filled 9 ++ filled 9)
unfolding restored_memory
nested_memory = refl

nested_live : length (state_back 1 (state_back 2 nested)).domains ≡ length (state_back 1 nested).domains
nested_live = refl

-- once restored, a domain is still the one that its handle names, or 0 if it was the innermost
named_again : named 2 (state_back 2 nested) ≡ named 2 nested
named_again = refl

innermost_again : named 0 (state_back 0 nested) ≡ named 0 nested
innermost_again = refl

-- ---- sessions: the states and the memory are those that the calls' meanings give

abbrev room : Room
room = record { cells = 1; slots = 8; bodies = 8 }

abbrev no_bodies : Room
no_bodies = record { cells = 1; slots = 8; bodies = 0 }

abbrev one_body_room : Room
one_body_room = record { cells = 2; slots = 8; bodies = 1 }

abbrev fill : ℕ → List Store
fill v = tab 64 (λ x. x ≔ v)

-- a write has no report
abbrev none_given : Report
none_given = done 0 0

-- the first list above is the list of a session from memory filled with 7, and its count is taken
session_kept : (l : List Observation) × (w : World) × Session 1 (after_make (filled 7)) l w × (counts begun l ≡ 0 ∷ [])
unfolding count all same_cell restored_memory
session_kept = (
  _,
  _,
  next {i = call (changes create) 100} (call_done room refl refl)
      (next {i = call (changes (add 1 (one_range 0 1 0 0 1))) 100} (call_done room refl refl)
      (next {i = write (fill 9)} (written_to {r = none_given})
      (next {i = call (restore 1) 100} (call_done room refl refl) end))),
  refl,
)

-- 1 holds 7 read-only, 2 copies it read-write, write 9, commit, advance 1, write 11, restore 1: 9
session_moved_on : (l : List Observation) × (w : World) × Session 1 (after_make (filled 7)) l w × (counts begun l ≡ 0 ∷ []) × (memory_of w ≡ filled 9)
unfolding count all same_cell restored_memory
session_moved_on = (
  _,
  _,
  next {i = call (changes create) 100} (call_done room refl refl)
      (next {i = call (changes (add 1 (one_range 0 1 0 0 0))) 100} (call_done room refl refl)
      (next {i = call (changes create) 100} (call_done room refl refl)
      (next {i = call (changes (add 2 (one_range 0 1 0 0 1))) 100} (call_done room refl refl)
      (next {i = write (fill 9)} (written_to {r = none_given})
      (next {i = call (changes (commit 2)) 100} (call_done room refl refl)
      (next {i = call (changes (advance 1)) 200} (call_done room refl refl)
      (next {i = write (fill 11)} (written_to {r = none_given})
      (next {i = call (restore 1) 100} (call_done room refl refl) end)))))))),
  refl,
  refl,
)

-- 1 holds nothing, 2 copies cell 0 = 7 read-write, write 9, advance 2, write 11, restore 1: 7
session_outer_point : (l : List Observation) × (w : World) × Session 1 (after_make (filled 7)) l w × (counts begun l ≡ 0 ∷ []) × (memory_of w ≡ filled 7)
unfolding count all same_cell restored_memory
session_outer_point = (
  _,
  _,
  next {i = call (changes create) 100} (call_done room refl refl)
      (next {i = call (changes create) 100} (call_done room refl refl)
      (next {i = call (changes (add 2 (one_range 0 1 0 0 1))) 100} (call_done room refl refl)
      (next {i = write (fill 9)} (written_to {r = none_given})
      (next {i = call (changes (advance 2)) 100} (call_done room refl refl)
      (next {i = write (fill 11)} (written_to {r = none_given})
      (next {i = call (restore 1) 100} (call_done room refl refl) end)))))),
  refl,
  refl,
)

-- 1 holds 7 read-write, 2 holds it via parent read-write, write 9, add by copy to 2, restore 2: 7
session_via : (l : List Observation) × (w : World) × Session 1 (after_make (filled 7)) l w × (counts begun l ≡ 0 ∷ []) × (memory_of w ≡ filled 7)
unfolding count all same_cell restored_memory
session_via = (
  _,
  _,
  next {i = call (changes create) 100} (call_done room refl refl)
      (next {i = call (changes (add 1 (one_range 0 1 0 0 1))) 100} (call_done room refl refl)
      (next {i = call (changes create) 100} (call_done room refl refl)
      (next {i = call (changes (add 2 (one_range 0 1 1 0 1))) 100} (call_done room refl refl)
      (next {i = write (fill 9)} (written_to {r = none_given})
      (next {i = call (changes (add 2 (one_range 0 1 0 0 1))) 100} (call_done room refl refl)
      (next {i = call (restore 2) 100} (call_done room refl refl) end)))))),
  refl,
  refl,
)

-- memory of zeros: 1 holds it by rule 0 read-write, write 9, restore: zeros, counted; no body is needed
session_rule : (l : List Observation) × (w : World) × Session 1 (after_make (filled 0)) l w × (counts begun l ≡ 0 ∷ []) × (memory_of w ≡ filled 0)
unfolding count all same_cell pattern pattern_byte restored_memory
session_rule = (
  _,
  _,
  next {i = call (changes create) 100} (call_done no_bodies refl refl)
      (next {i = call (changes (add 1 (one_range 0 1 2 0 1))) 100} (call_done no_bodies refl refl)
      (next {i = write (fill 9)} (written_to {r = none_given})
      (next {i = call (restore 1) 100} (call_done no_bodies refl refl) end))),
  refl,
  refl,
)

-- two cells of memory, 7 and 0: one add holds the first by copy and the second by rule 0, write 9, restore 1: 7 and 0; one body is needed
session_list : (l : List Observation) × (w : World) × Session 2 (after_make (filled 7 ++ filled 0)) l w × (counts begun l ≡ 0 ∷ [])
    × (memory_of w ≡ filled 7 ++ filled 0)
unfolding count all same_cell pattern pattern_byte restored_memory
session_list = (
  _,
  _,
  next {i = call (changes create) 100} (call_done one_body_room refl refl)
      (next {i = call (changes (add 1 (one_range 0 1 0 0 1 ++ one_range 1 1 2 0 1))) 100} (call_done one_body_room refl refl)
      (next {i = write (tab 128 (λ x. x ≔ 9))} (written_to {r = none_given})
      (next {i = call (restore 1) 200} (call_done one_body_room refl refl) end))),
  refl,
  refl,
)

-- 1 holds 7, write 9, 2 holds 9, restore 1 cut after the bytes and word 6, opening cut too, opening: 7, counted there
session_late : (l : List Observation) × (w : World) × Session 1 (after_make (filled 7)) l w × (counts begun l ≡ 0 ∷ []) × (memory_of w ≡ filled 7)
unfolding count all same_cell restored_memory
session_late = (
  _,
  _,
  next {i = call (changes create) 100} (call_done room refl refl)
      (next {i = call (changes (add 1 (one_range 0 1 0 0 1))) 100} (call_done room refl refl)
      (next {i = write (fill 9)} (written_to {r = none_given})
      (next {i = call (changes create) 100} (call_done room refl refl)
      (next {i = call (changes (add 2 (one_range 0 1 0 0 1))) 100} (call_done room refl refl)
      (next {i = call (restore 1) 75} (call_late room refl refl)
      (next {i = opening 1} open_stopped
      (next {i = opening 100} (open_finishes {n = 4} {h = 0}) end))))))),
  refl,
  refl,
)
