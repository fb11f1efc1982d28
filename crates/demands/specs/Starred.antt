-- Document 01, "Edges to run": the lines marked *, and edges of document 02's A.3 and A.4, as data, and what it is for them to hold. The acts are played one
-- after the other on the buffers by the step of a session, which is made of the definitions that the contracts cite.
use Rattle.std.specs.Prelude.{ℕ, ◌+◌, Bool, true, false, ◌&&◌, List, [], ◌∷◌, ◌++◌, eqb, replicate}
use Rattle.words.specs.Layout.{cell_at, table_words}
use Rattle.words.specs.Stores.{◌≔◌, tab}
use Rattle.ranges.specs.declared.Range.{Range}
use Rattle.model.specs.Answer.{Status, is_done, is_stopped, is_refused, Report, done}
use Rattle.model.specs.History.{Changing, create, add, delete, advance, commit, Request, changes, restore}
use Rattle.model.specs.Session.{make, call, write}
use Rattle.store.specs.Outcome.{Buffers, buffers, Outcome, leaves}
use Rattle.store.specs.Means.{list_means}
use Rattle.demands.specs.Session.{plain_add, input_on}

-- ---- edges as data

-- A call, and the number that it must answer, 0 for done; one that must be done in so many steps; a program write that fills a cell with one byte
-- ("cells are filled with one byte");
-- and what must be seen: the byte that fills each cell of memory, and the number of live domains that list gives.
pub data Act : Type 0 where
  calls : Request → (number : ℕ) → Act
  takes : Changing → (steps : ℕ) → Act
  fill : (cell byte : ℕ) → Act
  shows : (memory : List ℕ) → Act
  lists : (domains : ℕ) → Act

-- a changing call with the number that it must answer; one that must be done; a restore that must be done
abbrev pub gives : Changing → (number : ℕ) → Act
gives c n = calls (changes c) n

abbrev pub does : Changing → Act
does c = gives c 0

abbrev pub restores : (h : ℕ) → Act
restores h = calls (restore h) 0

-- acts on a fresh store of m cells, E entry slots and B bodies
pub record Scenario : Type 0 where
  pub cells : ℕ
  pub slots : ℕ
  pub bodies : ℕ
  pub acts : List Act

abbrev pub scenario : (m e b : ℕ) → List Act → Scenario
scenario m e b acts = record { cells = m; slots = e; bodies = b; acts = acts }

-- a line of a document: one scenario, or one for each of the sizes that it names
abbrev pub Edge : Type 0
Edge = List Scenario

-- "m = 4, E = B = 8 unless said"
abbrev pub usual : List Act → Edge
usual acts = scenario 4 8 8 acts ∷ []

-- add's numbers: "a kind (0 copy, 1 via parent) and a label (0 read-only, 1 read-write)"
abbrev pub by_copy : ℕ
by_copy = 0

abbrev pub via_parent : ℕ
via_parent = 1

-- "with a rule number that other kinds ignore"
abbrev pub no_rule : ℕ
no_rule = 0

abbrev pub read_only : ℕ
read_only = 0

abbrev pub read_write : ℕ
read_write = 1

-- a record of an add's list: first cell, count, kind, rule and label
abbrev pub range : (first n kind rule label : ℕ) → Range
range first n k u l = record { first = first; count = n; kind = k; rule = u; label = l }

-- one by copy and read-write
abbrev pub copied : (first n : ℕ) → Range
copied first n = range first n by_copy no_rule read_write

-- two domains, of which the outer one holds nothing: the inner one advances from 7 to 9, and the program writes on
abbrev pub inner_point : List Act
inner_point =
    fill 0 7 ∷ does create ∷ does create ∷ does (plain_add 2 0 1 by_copy no_rule read_write) ∷ fill 0 9 ∷ takes (advance 2) 78 ∷ fill 0 11 ∷ []

-- ---- the twelve edges, in document 01's order, five of document 02's A.3 and two of its A.4. plain_add names a handle, first cell, count, kind, rule and
-- label; add a handle and a list of ranges; delete a handle, first cell and count.

abbrev pub starred : List Edge
starred =
    -- "Domain 1 copies cell 0 = 7 read-write; write 9; restore 1: 7."
    usual (fill 0 7 ∷ does create ∷ does (plain_add 1 0 1 by_copy no_rule read_write) ∷ fill 0 9 ∷ restores 1 ∷ shows (7 ∷ 1 ∷ 1 ∷ 1 ∷ []) ∷ [])
    -- "Cell 0 held read-write by 2 only; advance: 15." By document 02 "Number 15 is retired, and its case becomes done": with no step, or after a write
    ∷ usual (does create ∷ does create ∷ does (plain_add 2 0 1 by_copy no_rule read_write) ∷ takes (advance 2) 0 ∷ fill 0 9 ∷ takes (advance 2) 78 ∷ [])
    -- "1 holds 7 read-only, 2 copies it read-write, write 9, commit, advance 1, write 11, restore 1: 9."
    ∷ usual (fill 0 7 ∷ does create ∷ does (plain_add 1 0 1 by_copy no_rule read_only) ∷ does create ∷ does (plain_add 2 0 1 by_copy no_rule read_write)
    ∷ fill 0 9 ∷ does (commit 2) ∷ does (advance 1) ∷ fill 0 11 ∷ restores 1 ∷ shows (9 ∷ 1 ∷ 1 ∷ 1 ∷ []) ∷ [])
    -- "1 holds 7, write 9, create 2, add via parent: 12."
    ∷ usual (fill 0 7 ∷ does create ∷ does (plain_add 1 0 1 by_copy no_rule read_write) ∷ fill 0 9 ∷ does create
    ∷ gives (plain_add 2 0 1 via_parent no_rule read_write) 12 ∷ [])
    -- "1 holds 7 read-write, 2 holds it via parent read-write, write 9, add by copy to 2, restore 2: 7."
    ∷ usual (fill 0 7 ∷ does create ∷ does (plain_add 1 0 1 by_copy no_rule read_write) ∷ does create ∷ does (plain_add 2 0 1 via_parent no_rule read_write)
    ∷ fill 0 9 ∷ does (plain_add 2 0 1 by_copy no_rule read_write) ∷ restores 2 ∷ shows (7 ∷ 1 ∷ 1 ∷ 1 ∷ []) ∷ [])
    -- "1 holds 7, 2 holds 9, restore 1: 7, one domain live."
    ∷ usual (fill 0 7 ∷ does create ∷ does (plain_add 1 0 1 by_copy no_rule read_write) ∷ fill 0 9 ∷ does create
    ∷ does (plain_add 2 0 1 by_copy no_rule read_write) ∷ lists 2 ∷ restores 1 ∷ shows (7 ∷ 1 ∷ 1 ∷ 1 ∷ []) ∷ lists 1 ∷ [])
    -- "Delete cell 0 from 1 while 2 holds it via parent: 14."
    ∷ usual (does create ∷ does (plain_add 1 0 1 by_copy no_rule read_write) ∷ does create ∷ does (plain_add 2 0 1 via_parent no_rule read_write)
    ∷ gives (delete 1 0 1) 14 ∷ [])
    -- "B = 1, one read-write copy, advance: 17. B = 2: done." By document 02 "The earlier case with B = 1 is refused only after a write that changes it"
    ∷ (scenario 4 8 1 (does create ∷ does (plain_add 1 0 1 by_copy no_rule read_write) ∷ fill 0 9 ∷ gives (advance 1) 17 ∷ [])
    ∷ scenario 4 8 1 (does create ∷ does (plain_add 1 0 1 by_copy no_rule read_write) ∷ takes (advance 1) 0 ∷ [])
    ∷ scenario 4 8 2 (does create ∷ does (plain_add 1 0 1 by_copy no_rule read_write) ∷ fill 0 9 ∷ takes (advance 1) 72 ∷ fill 0 11 ∷ restores 1
    ∷ shows (9 ∷ 1 ∷ 1 ∷ 1 ∷ []) ∷ []) ∷ [])
    -- "E = 1, cell 0 held: add cells 0 and 1 gives 16; add cell 0 is done."
    ∷ (scenario 4 1 8 (does create ∷ does (plain_add 1 0 1 by_copy no_rule read_write) ∷ gives (plain_add 1 0 2 by_copy no_rule read_write) 16
    ∷ does (plain_add 1 0 1 by_copy no_rule read_write) ∷ []) ∷ [])
    -- "Eighth create done, ninth 9."
    ∷ usual (does create ∷ does create ∷ does create ∷ does create ∷ does create ∷ does create ∷ does create ∷ does create
    ∷ gives create 9 ∷ [])
    -- "First 3, count 1 done; first 4, count 1 gives 8; count 0 gives 8."
    ∷ usual (does create ∷ does (plain_add 1 3 1 by_copy no_rule read_write) ∷ gives (plain_add 1 4 1 by_copy no_rule read_write) 8
    ∷ gives (plain_add 1 3 0 by_copy no_rule read_write) 8 ∷ gives (delete 1 4 1) 8 ∷ gives (delete 1 3 0) 8 ∷ does (delete 1 3 1) ∷ [])
    -- "Commit the last domain, restore handle 0: 5."
    ∷ usual (does create ∷ does (commit 1) ∷ calls (restore 0) 5 ∷ [])
    -- "Our tile code has nine ranges to keep together": two, of three cells, by one journal
    ∷ usual (fill 0 7 ∷ fill 2 8 ∷ does create ∷ takes (add 1 (copied 0 1 ∷ copied 2 2 ∷ [])) 212 ∷ fill 0 9 ∷ fill 2 9 ∷ fill 3 9
    ∷ restores 1 ∷ shows (7 ∷ 1 ∷ 8 ∷ 1 ∷ []) ∷ [])
    -- "Ranges act in list order, so a later one finds cells that an earlier one has just taken": via parent, in a domain without one, before the copy, and
    -- after it, where it makes the copy read-write
    ∷ usual (does create ∷ gives (add 1 (range 0 1 via_parent no_rule read_write ∷ range 0 1 by_copy no_rule read_only ∷ [])) 11
    ∷ takes (add 1 (range 0 1 by_copy no_rule read_only ∷ range 0 1 via_parent no_rule read_write ∷ [])) 72 ∷ fill 0 9 ∷ takes (advance 1) 72 ∷ [])
    -- "Either all are held or none": cell 0 is not held
    ∷ usual (does create ∷ gives (add 1 (copied 0 1 ∷ copied 4 1 ∷ [])) 8 ∷ gives (delete 1 0 1) 13 ∷ [])
    -- "The questions on a range are put range by range, those on room once for the whole list": each range has room alone
    ∷ (scenario 4 1 8 (does create ∷ gives (add 1 (copied 0 1 ∷ copied 1 1 ∷ [])) 16 ∷ gives (add 1 (copied 0 1 ∷ copied 1 1 ∷ copied 4 1 ∷ [])) 8 ∷ [])
    ∷ scenario 4 8 1 (does create ∷ gives (add 1 (copied 0 1 ∷ copied 1 1 ∷ [])) 17 ∷ []) ∷ [])
    -- "20, after question 6: fewer than 1 or more than 64 records": with 64 the first range is asked
    ∷ usual (does create ∷ does create ∷ gives (add 3 []) 5 ∷ gives (add 1 []) 6 ∷ gives (add 2 []) 20
    ∷ gives (add 2 (replicate 65 (copied 4 1))) 20 ∷ gives (add 2 (replicate 64 (copied 4 1))) 8 ∷ [])
    -- "Cycle 1 holds nothing, tile 2 copies cell 0 = 7 read-write, write 9, advance 2, write 11, restore 1: 7": and 9 if 2 is restored
    ∷ (scenario 4 8 8 (inner_point ++ (restores 1 ∷ shows (7 ∷ 1 ∷ 1 ∷ 1 ∷ []) ∷ lists 1 ∷ []))
    ∷ scenario 4 8 8 (inner_point ++ (restores 2 ∷ shows (9 ∷ 1 ∷ 1 ∷ 1 ∷ []) ∷ lists 2 ∷ restores 1 ∷ shows (7 ∷ 1 ∷ 1 ∷ 1 ∷ []) ∷ [])) ∷ [])
    -- "Question 16 is put to advance as well, counting one more entry for each cell given outwards": before 17
    ∷ (scenario 4 1 1 (does create ∷ does create ∷ does (plain_add 2 0 1 by_copy no_rule read_write) ∷ fill 0 9 ∷ gives (advance 2) 16 ∷ [])
    ∷ scenario 4 2 1 (does create ∷ does create ∷ does (plain_add 2 0 1 by_copy no_rule read_write) ∷ fill 0 9 ∷ gives (advance 2) 17 ∷ [])
    ∷ scenario 4 2 2 (does create ∷ does create ∷ does (plain_add 2 0 1 by_copy no_rule read_write) ∷ fill 0 9 ∷ takes (advance 2) 78 ∷ []) ∷ []) ∷ []

-- ---- what it is for an edge to hold

-- a budget that suffices for every call here: a stopped call answers no number
abbrev pub enough : ℕ
enough = 1_000

-- what an act leaves, by the step of a session; to see changes nothing
abbrev pub act_outcome : Act → Buffers → Outcome
act_outcome (calls c n) b = input_on (call c enough) b
act_outcome (takes c n) b = input_on (call (changes c) enough) b
act_outcome (fill c v) b = input_on (write (tab 64 (λ j. cell_at c + j ≔ v))) b
act_outcome (shows bytes) b = leaves (done 0 0) b
act_outcome (lists n) b = leaves (done 0 0) b

-- is n the number of an answer: 0 of a done call, its question's of a refused one, none of a stopped one?
abbrev pub is_number : (n : ℕ) → Status → (refusal : ℕ) → Bool
is_number n is_done r = eqb n 0
is_number n is_stopped r = false
is_number n is_refused r = eqb n r

abbrev pub answers : (n : ℕ) → Report → Bool
answers n r = is_number n r.status r.refusal

-- are two lists of bytes equal?
abbrev pub same_bytes : List ℕ → List ℕ → Bool
same_bytes [] [] = true
same_bytes [] (y ∷ ys) = false
same_bytes (x ∷ xs) [] = false
same_bytes (x ∷ xs) (y ∷ ys) = eqb x y && same_bytes xs ys

-- cells, each filled with one byte
abbrev pub filled : List ℕ → List ℕ
filled [] = []
filled (v ∷ vs) = replicate 64 v ++ filled vs

-- is that what the act must show? All of memory is compared
abbrev pub as_expected : Act → Outcome → Bool
as_expected (calls c n) o = answers n o.report
as_expected (takes c n) o = answers 0 o.report && eqb o.report.steps n
as_expected (fill c v) o = true
as_expected (shows bytes) o = same_bytes o.buffers.memory (filled bytes)
as_expected (lists n) o = eqb (list_means o.buffers).count n

-- one act after the other
unfoldable pub acts_hold : List Act → Buffers → Bool
acts_hold [] b = true
acts_hold (a ∷ more) b = let o = act_outcome a b in as_expected a o && acts_hold more o.buffers

-- "buffers of allowed lengths, with any contents": memory of ones, bodies of twos and a table of threes, so that what is put into the wrong
-- place, or taken from it, shows
abbrev pub initial_buffers : Scenario → Buffers
initial_buffers s = buffers (replicate (cell_at s.cells) 1) (replicate (cell_at s.bodies) 2) (replicate (table_words s.slots) 3)

-- "on which make was done"
abbrev pub make_outcome : Scenario → Outcome
make_outcome s = input_on (make enough) (initial_buffers s)

unfoldable pub scenario_holds : Scenario → Bool
scenario_holds s = let o = make_outcome s in answers 0 o.report && acts_hold s.acts o.buffers

abbrev pub all_hold : {A : Type 0} → (A → Bool) → List A → Bool
all_hold f [] = true
all_hold f (x ∷ xs) = f x && all_hold f xs

abbrev pub edge_holds : Edge → Bool
edge_holds e = all_hold scenario_holds e
