-- Document 01, "The notebook" (here: the history), line by line: what demand 3 is read against. It is a function of what it is fed and of
-- nothing else; it shares with the calls' meanings only the words of their arguments (ranges of cells, numbers of labels, a cell's bytes).
use Rattle.std.specs.Prelude.{ℕ, zero, suc, ◌+◌, Bool, true, false, not, ◌&&◌, ◌||◌, cond, List, [], ◌∷◌, ◌++◌, eqb, length, get_or, take}
use Rattle.std.proofs.Math.Option.{Option, none, some}
use Rattle.words.specs.Scan.{count}
use Rattle.words.specs.Cells.{cell_bytes, same_cell}
use Rattle.ranges.specs.declared.Range.{Range}
use Rattle.model.specs.State.{Label, read_only, read_write}
use Rattle.model.specs.Answer.{Status, is_done, is_stopped, is_refused}
use Rattle.model.specs.Holdings.{in_range, label_numbered}
use Rattle.model.specs.Restore.{cell_of_byte}

-- ---- "It is fed each call's arguments, whether the call was done, stopped or refused, opening's step count, the place of each program write,
-- and memory as it stands after each of these"

-- the calls on a store with their arguments, all but make and open: those that change the store and never memory; those that change nothing; and
-- restore, which alone changes memory
pub data Changing : Type 0 where
  create : Changing
  add : (h : ℕ) → List Range → Changing
  delete : (h first n : ℕ) → Changing
  advance commit : (h : ℕ) → Changing

pub data Reading : Type 0 where
  list : Reading
  look : (h c : ℕ) → Reading

pub data Request : Type 0 where
  changes : Changing → Request
  restore : (h : ℕ) → Request
  reads : Reading → Request

-- make, the other calls and opening, each with its budget; steps are an opening's; and a program write to these places
pub data Event : Type 0 where
  made : (budget : ℕ) → Status → Event
  called : Request → (budget : ℕ) → Status → Event
  opened : (budget : ℕ) → Status → (steps : ℕ) → Event
  written : (places : List ℕ) → Event

pub record Observation : Type 0 where
  pub event : Event
  pub memory : List ℕ

abbrev pub observed : Event → List ℕ → Observation
observed e memory = record { event = e; memory = memory }

-- ---- "It keeps the next handle and the live domains, outermost first, each with handle, cells (label and 64 bytes), a picture of memory, the
-- bytes spoilt for it, and perhaps the mark 'uncounted'" (here: snapshot, unprotected, excluded)

pub record Kept : Type 0 where
  pub label : Label
  pub bytes : List ℕ

pub record Tracked : Type 0 where
  pub handle : ℕ
  pub cells : ℕ → Option Kept
  pub snapshot : List ℕ
  pub unprotected : ℕ → Bool
  pub excluded : Bool

-- and the stopped call that waits for the first opening done after it: at most one, the last
pub record History : Type 0 where
  pub next : ℕ
  pub domains : List Tracked
  pub waiting : Option Request

abbrev pub with_domains : List Tracked → History → History
with_domains qs n = record { next = n.next; domains = qs; waiting = n.waiting }

abbrev pub with_waiting : Option Request → History → History
with_waiting c n = record { next = n.next; domains = n.domains; waiting = c }

abbrev pub with_cells : (ℕ → Option Kept) → Tracked → Tracked
with_cells f q = record { handle = q.handle; cells = f; snapshot = q.snapshot; unprotected = q.unprotected; excluded = q.excluded }

-- these bytes are spoilt for the domain too
abbrev pub unprotect : (ℕ → Bool) → Tracked → Tracked
unprotect f q =
    record { handle = q.handle; cells = q.cells; snapshot = q.snapshot; unprotected = λ x. f x || q.unprotected x; excluded = q.excluded }

-- ---- handles and labels

-- the depth of the domain that a handle names, 1 at the outermost, 0 if there is none: "Handle 0 .. means the innermost domain"
abbrev pub inner : ℕ → ℕ
inner zero = zero
inner (suc d) = suc (suc d)

abbrev pub depth_among : ℕ → List Tracked → ℕ
depth_among h [] = 0
depth_among h (q ∷ qs) = cond (eqb q.handle h) 1 (inner (depth_among h qs))

abbrev pub named_among : ℕ → List Tracked → ℕ
named_among h qs = cond (eqb h 0) (length qs) (depth_among h qs)

abbrev pub may_write : Label → Bool
may_write read_only = false
may_write read_write = true

abbrev pub kept_writable : Option Kept → Bool
kept_writable none = false
kept_writable (some k) = may_write k.label

-- a label that turns read-write if the other one is
abbrev pub turned : Label → Label → Label
turned read_only old = old
turned read_write old = read_write

-- ---- one domain of the list: the one at a depth, the innermost, the one around the innermost, and the innermost that leaves into the one around it

abbrev pub at_depth : {A : Type 0} → ℕ → (A → A) → List A → List A
at_depth d f [] = []
at_depth zero f (q ∷ qs) = q ∷ qs
at_depth (suc zero) f (q ∷ qs) = f q ∷ qs
at_depth (suc (suc d)) f (q ∷ qs) = q ∷ at_depth (suc d) f qs

abbrev pub at_innermost : {A : Type 0} → (A → A) → List A → List A
at_innermost f [] = []
at_innermost f (q ∷ []) = f q ∷ []
at_innermost f (q ∷ r ∷ qs) = q ∷ at_innermost f (r ∷ qs)

abbrev pub around_innermost : {A : Type 0} → (A → A → A) → List A → List A
around_innermost f [] = []
around_innermost f (q ∷ []) = q ∷ []
around_innermost f (q ∷ r ∷ []) = f q r ∷ r ∷ []
around_innermost f (q ∷ r ∷ s ∷ qs) = q ∷ around_innermost f (r ∷ s ∷ qs)

abbrev pub into_parent : {A : Type 0} → (A → A → A) → List A → List A
into_parent f [] = []
into_parent f (q ∷ []) = []
into_parent f (q ∷ r ∷ []) = f q r ∷ []
into_parent f (q ∷ r ∷ s ∷ qs) = q ∷ into_parent f (r ∷ s ∷ qs)

-- ---- "Make done, or stopped with a budget above 0: no domains, next handle 1"

abbrev pub begun : History
begun = record { next = 1; domains = []; waiting = none }

-- ---- "Create: a domain with the next handle, which then rises by 1, no cells, memory as its picture, nothing spoilt, no mark"

abbrev pub new_domain : ℕ → List ℕ → Tracked
new_domain h memory = record { handle = h; cells = λ c. none; snapshot = memory; unprotected = λ x. false; excluded = false }

abbrev pub create_line : List ℕ → History → History
create_line memory n = record { next = n.next + 1; domains = n.domains ++ (new_domain n.next memory ∷ []); waiting = n.waiting }

-- ---- "Add: a cell not yet held enters with the label and memory's bytes. One already held turns read-write if the label is"

abbrev pub entered : Label → List ℕ → Option Kept → Option Kept
entered l bytes none = some (record { label = l; bytes = bytes })
entered l bytes (some k) = some (record { label = turned l k.label; bytes = k.bytes })

abbrev pub add_tracked : List ℕ → (first n : ℕ) → Label → Tracked → Tracked
add_tracked memory first n l q = with_cells (λ c. cond (in_range first n c) (entered l (cell_bytes memory c) (q.cells c)) (q.cells c)) q

abbrev pub add_line : List ℕ → (h : ℕ) → Range → List Tracked → List Tracked
add_line memory h r qs = at_depth (named_among h qs) (add_tracked memory r.first r.count (label_numbered r.label)) qs

-- for each range of a list in its order
abbrev pub add_lines : List ℕ → (h : ℕ) → List Range → List Tracked → List Tracked
add_lines memory h [] qs = qs
add_lines memory h (r ∷ rs) qs = add_lines memory h rs (add_line memory h r qs)

-- ---- "Delete: the cells leave the named domain. Their bytes are spoilt for it and for all around it"

abbrev pub delete_tracked : (first n : ℕ) → Tracked → Tracked
delete_tracked first n q = with_cells (λ c. cond (in_range first n c) none (q.cells c)) q

-- is byte x one of these cells' bytes?
abbrev pub bytes_of : (first n x : ℕ) → Bool
bytes_of first n x = in_range first n (cell_of_byte x)

-- from the domain at depth d, with those around it
abbrev pub delete_around : (first n d : ℕ) → List Tracked → List Tracked
delete_around first n d [] = []
delete_around first n zero (q ∷ qs) = q ∷ qs
delete_around first n (suc zero) (q ∷ qs) = unprotect (bytes_of first n) (delete_tracked first n q) ∷ qs
delete_around first n (suc (suc d)) (q ∷ qs) = unprotect (bytes_of first n) q ∷ delete_around first n (suc d) qs

abbrev pub delete_line : (h first n : ℕ) → List Tracked → List Tracked
delete_line h first n qs = delete_around first n (named_among h qs) qs

-- ---- "Advance: the innermost's read-write cells and its picture take memory's bytes"; by document 02, before that, of the read-write cells whose
-- bytes memory differs from, those that the next domain out lacks enter there with their label and bytes. That domain keeps its picture, spoilt bytes
-- and mark

abbrev pub differing : List ℕ → Option Kept → Bool
differing bytes none = false
differing bytes (some k) = may_write k.label && not (same_cell k.bytes bytes)

-- outer, then inner
abbrev pub kept_out : List ℕ → Option Kept → Option Kept → Option Kept
kept_out bytes none i = cond (differing bytes i) i none
kept_out bytes (some o) i = some o

abbrev pub give_tracked : List ℕ → Tracked → Tracked → Tracked
give_tracked memory o i = with_cells (λ c. kept_out (cell_bytes memory c) (o.cells c) (i.cells c)) o

abbrev pub renewed : List ℕ → Option Kept → Option Kept
renewed bytes none = none
renewed bytes (some k) = some (record { label = k.label; bytes = cond (may_write k.label) bytes k.bytes })

abbrev pub advance_tracked : List ℕ → Tracked → Tracked
advance_tracked memory q = record {
  handle = q.handle;
  cells = λ c. renewed (cell_bytes memory c) (q.cells c);
  snapshot = memory;
  unprotected = q.unprotected;
  excluded = q.excluded;
}

abbrev pub advance_line : List ℕ → List Tracked → List Tracked
advance_line memory qs = at_innermost (advance_tracked memory) (around_innermost (give_tracked memory) qs)

-- ---- "Commit: the innermost leaves. Its cells go to the next out where that lacks them; one that both hold turns read-write there if the
-- inner was": outer, then inner

abbrev pub joined : Option Kept → Option Kept → Option Kept
joined none i = i
joined (some o) none = some o
joined (some o) (some i) = some (record { label = turned i.label o.label; bytes = o.bytes })

abbrev pub commit_tracked : Tracked → Tracked → Tracked
commit_tracked o i = with_cells (λ c. joined (o.cells c) (i.cells c)) o

abbrev pub commit_line : List Tracked → List Tracked
commit_line qs = into_parent commit_tracked qs

-- ---- "Restore: the domains inside the named one leave"

-- the domains down to depth d; all of them where no domain is named
abbrev pub down_to : ℕ → List Tracked → List Tracked
down_to zero qs = qs
down_to (suc d) qs = take (suc d) qs

abbrev pub restore_line : (h : ℕ) → List Tracked → List Tracked
restore_line h qs = down_to (named_among h qs) qs

-- ---- "Program write: each byte written is spoilt for every live domain that neither holds the byte's cell read-write nor has one inside it
-- that does"

abbrev pub is_in : ℕ → List ℕ → Bool
is_in x [] = false
is_in x (p ∷ ps) = eqb x p || is_in x ps

-- does one of these domains hold cell c read-write?
abbrev pub any_writable : ℕ → List Tracked → Bool
any_writable c [] = false
any_writable c (q ∷ qs) = kept_writable (q.cells c) || any_writable c qs

abbrev pub write_line : List ℕ → List Tracked → List Tracked
write_line places [] = []
write_line places (q ∷ qs) = unprotect (λ x. is_in x places && not (any_writable (cell_of_byte x) (q ∷ qs))) q ∷ write_line places qs

-- ---- the lines together: "Refused calls, list, look, and an opening in itself: nothing"

abbrev pub change_line : Changing → List ℕ → History → History
change_line create memory n = create_line memory n
change_line (add h rs) memory n = with_domains (add_lines memory h rs n.domains) n
change_line (delete h first c) memory n = with_domains (delete_line h first c n.domains) n
change_line (advance h) memory n = with_domains (advance_line memory n.domains) n
change_line (commit h) memory n = with_domains (commit_line n.domains) n

abbrev pub line : Request → List ℕ → History → History
line (changes c) memory n = change_line c memory n
line (restore h) memory n = with_domains (restore_line h n.domains) n
line (reads r) memory n = n

-- ---- "Any other stopped call: nothing, save that a stopped restore marks the domains inside the named one"

abbrev pub exclude : Tracked → Tracked
exclude q = record { handle = q.handle; cells = q.cells; snapshot = q.snapshot; unprotected = q.unprotected; excluded = true }

-- all but the first d of them
abbrev pub exclude_after : ℕ → List Tracked → List Tracked
exclude_after d [] = []
exclude_after zero (q ∷ qs) = exclude q ∷ exclude_after zero qs
exclude_after (suc d) (q ∷ qs) = q ∷ exclude_after d qs

-- the domains inside the one at depth d; none where no domain is named
abbrev pub exclude_inside : ℕ → List Tracked → List Tracked
exclude_inside zero qs = qs
exclude_inside (suc d) qs = exclude_after (suc d) qs

abbrev pub stop_line : Request → List Tracked → List Tracked
stop_line (changes c) qs = qs
stop_line (restore h) qs = exclude_inside (named_among h qs) qs
stop_line (reads r) qs = qs

-- ---- "If the first opening done after it takes a step, the call's line above is carried out there": it waits through stopped openings, and the
-- first one done ends its wait

abbrev pub finished : Option Request → List ℕ → History → History
finished none memory n = n
finished (some c) memory n = with_waiting none (line c memory n)

-- ---- one observation

-- a make stopped with budget 0 has no line to be carried out, so it does not wait
abbrev pub observe_made : ℕ → Status → History → History
observe_made k is_done n = begun
observe_made zero is_stopped n = n
observe_made (suc k) is_stopped n = begun
observe_made k is_refused n = n

abbrev pub observe_called : Request → Status → List ℕ → History → History
observe_called c is_done memory n = line c memory n
observe_called c is_stopped memory n = with_waiting (some c) (with_domains (stop_line c n.domains) n)
observe_called c is_refused memory n = n

abbrev pub observe_opened : Status → ℕ → List ℕ → History → History
observe_opened is_done zero memory n = with_waiting none n
observe_opened is_done (suc k) memory n = finished n.waiting memory n
observe_opened is_stopped k memory n = n
observe_opened is_refused k memory n = n

abbrev pub observe_event : Event → List ℕ → History → History
observe_event (made k r) memory n = observe_made k r n
observe_event (called c k r) memory n = observe_called c r memory n
observe_event (opened k r j) memory n = observe_opened r j memory n
observe_event (written places) memory n = with_domains (write_line places n.domains) n

abbrev pub observe : Observation → History → History
observe o n = observe_event o.event o.memory n

-- ---- "The zero count of a completed restore of an unmarked domain is the number of memory bytes, not spoilt for it, that then differ from its
-- picture" (here: mismatches)

abbrev pub differs : List ℕ → Tracked → ℕ → Bool
differs memory q x = not (q.unprotected x) && not (eqb (get_or memory x 0) (get_or q.snapshot x 0))

abbrev pub mismatches : List ℕ → Tracked → ℕ
mismatches memory q = count (length memory) (differs memory q)

-- the domain at a depth, if there is one
abbrev pub tracked_at : ℕ → List Tracked → Option Tracked
tracked_at d [] = none
tracked_at zero (q ∷ qs) = none
tracked_at (suc zero) (q ∷ qs) = some q
tracked_at (suc (suc d)) (q ∷ qs) = tracked_at (suc d) qs

-- the count of a restore of that domain: none of an excluded one
abbrev pub count_of : List ℕ → Option Tracked → List ℕ
count_of memory none = []
count_of memory (some q) = cond q.excluded [] (mismatches memory q ∷ [])

-- the count taken when a call is completed
abbrev pub completed : Request → List ℕ → List Tracked → List ℕ
completed (changes c) memory qs = []
completed (restore h) memory qs = count_of memory (tracked_at (named_among h qs) qs)
completed (reads r) memory qs = []

abbrev pub completed_waiting : Option Request → List ℕ → List Tracked → List ℕ
completed_waiting none memory qs = []
completed_waiting (some c) memory qs = completed c memory qs

-- "A restore is completed when it is done or, if it was stopped, when an opening carries it out; its count is taken at that moment"
abbrev pub count_called : Request → Status → List ℕ → History → List ℕ
count_called c is_done memory n = completed c memory n.domains
count_called c is_stopped memory n = []
count_called c is_refused memory n = []

abbrev pub count_opened : Status → ℕ → List ℕ → History → List ℕ
count_opened is_done zero memory n = []
count_opened is_done (suc k) memory n = completed_waiting n.waiting memory n.domains
count_opened is_stopped k memory n = []
count_opened is_refused k memory n = []

abbrev pub count_event : Event → List ℕ → History → List ℕ
count_event (made k r) memory n = []
count_event (called c k r) memory n = count_called c r memory n
count_event (opened k r j) memory n = count_opened r j memory n
count_event (written places) memory n = []

-- all the counts of a session, and the history after it
abbrev pub counts : History → List Observation → List ℕ
counts n [] = []
counts n (o ∷ os) = count_event o.event o.memory n ++ counts (observe o n) os

abbrev pub history_after : History → List Observation → History
history_after n [] = n
history_after n (o ∷ os) = history_after (observe o n) os
