-- Sessions (document 01: lists of calls and program writes) over abstract states: what each input may do, refused, done, or stopped with any
-- budget, by the effects of the calls. More may happen here than a store does: any call may be refused (for want of room, say), and a stop may
-- fall anywhere, whatever the budget; but a call that is done or stopped has passed its questions.
use Rattle.std.specs.Prelude.{ℕ, suc, ◌≤◌, ◌<◌, true, false, List, [], ◌∷◌, map, ◌⊎◌, ◌≡◌, leb, length, get_or}
use Rattle.std.proofs.Math.Option.{Option, none, some}
use Rattle.words.specs.Layout.{cell_size}
use Rattle.words.specs.Stores.{Store, stores}
use Rattle.model.specs.State.{Holding, Domain, State}
use Rattle.model.specs.Answer.{Report, done, stopped, refused, View, steps_of}
use Rattle.model.specs.Calls.{Effect, change, or_refuse, fresh, make_steps, make_state, create_effect, viewed_with}
use Rattle.model.specs.Holdings.{Room, named, holding_at, add_effect, delete_effect, advance_effect, commit_effect}
use Rattle.model.specs.Restore.{restored_memory, restore_effect, memory_after_steps, look_checks}
use Rattle.model.specs.History.{Changing, create, add, delete, advance, commit, Reading, list, look, Request, changes, restore, reads}
use Rattle.model.specs.History.{Event, made, called, opened, written, Observation, observed, Kept, Tracked, History, with_waiting, finished}

-- ---- inputs

-- make, another call and opening, each with its budget; and a program write of any bytes anywhere
pub data Input : Type 0 where
  make : (budget : ℕ) → Input
  call : Request → (budget : ℕ) → Input
  opening : (budget : ℕ) → Input
  write : List Store → Input

-- what the history is fed of an input and its report: no refusal number, no handle, an opening's steps alone, of a write the places alone
abbrev pub shown : Input → Report → Event
shown (make k) r = made k r.status
shown (call c k) r = called c k r.status
shown (opening k) r = opened k r.status r.steps
shown (write ws) r = written (map (λ w. w.at) ws)

-- ---- the world: the state that opening finds, or none; memory; and which opening is due

-- none; one that finds the stopped call not made, and takes no step; one that makes the stopped call, in one step or more
pub data Due : Type 0 where
  nothing_due drop_due finish_due : Due

pub data World : Type 0 where
  world : Option State → List ℕ → Due → World

abbrev pub memory_of : World → List ℕ
memory_of (world o m d) = m

-- ---- what a call does to a state, and to memory

abbrev pub change_effect : Room → List ℕ → Changing → State → Effect
change_effect room memory create s = create_effect s
change_effect room memory (add h rs) s = add_effect room memory h rs s
change_effect room memory (delete h first n) s = delete_effect room.cells h first n s
change_effect room memory (advance h) s = advance_effect room memory h s
change_effect room memory (commit h) s = commit_effect room.cells h s

-- the number of its questions, for a call that changes nothing
abbrev pub read_checks : (m : ℕ) → Reading → State → ℕ
read_checks m list s = 0
read_checks m (look h c) s = look_checks m h c s

abbrev pub effect_of : Room → List ℕ → Request → State → Effect
effect_of room memory (changes c) s = change_effect room memory c s
effect_of room memory (restore h) s = restore_effect room.cells h s
effect_of room memory (reads r) s = or_refuse (read_checks room.cells r s) (change 0 0 0 s)

abbrev pub memory_after : Request → State → List ℕ → List ℕ
memory_after (changes c) s memory = memory
memory_after (restore h) s memory = restored_memory (named h s) s memory
memory_after (reads r) s memory = memory

-- what a call at budget k leaves to be seen: of memory, what k steps leave
abbrev pub memory_at : (k : ℕ) → Request → State → List ℕ → List ℕ
memory_at k (changes c) s memory = memory
memory_at k (restore h) s memory = memory_after_steps k (named h s) s memory
memory_at k (reads r) s memory = memory

abbrev pub view_of : Room → Request → (k : ℕ) → State → List ℕ → View
view_of room c k s memory = viewed_with (effect_of room memory c s) k s memory (memory_at k c s memory)

-- "memory may be mixed over the cells to be put back, and nowhere else": each byte is the old one or the new one
pub record Mixed (before after now : List ℕ) : Type 0 where
  pub same_length : length now ≡ length before
  pub each_byte : (x : ℕ) → (get_or now x 0 ≡ get_or before x 0) ⊎ (get_or now x 0 ≡ get_or after x 0)

-- ---- one input, over memory of so many cells. "What follows a stopped call, a stopped opening too, is an opening": only openings start where
-- one is due.

pub data Move (cells : ℕ) : World → Input → Report → World → Type 0 where
  make_refused : {o : Option State} {m : List ℕ} {k q : ℕ} → Move cells (world o m nothing_due) (make k) (refused q) (world o m nothing_due)
  make_done : {o : Option State} {m : List ℕ} {k n h : ℕ} (slots : ℕ) → leb (make_steps slots) k ≡ true
      → Move cells (world o m nothing_due) (make k) (done n h) (world (make_state slots k o) m nothing_due)
  make_stopped : {o : Option State} {m : List ℕ} {k : ℕ} (slots : ℕ) → leb (make_steps slots) k ≡ false
      → Move cells (world o m nothing_due) (make k) (stopped k) (world (make_state slots k o) m drop_due)
  call_refused : {o : Option State} {m : List ℕ} {c : Request} {k q : ℕ}
      → Move cells (world o m nothing_due) (call c k) (refused q) (world o m nothing_due)
  call_done : {s new : State} {m : List ℕ} {c : Request} {k bytes words h : ℕ} (room : Room) → room.cells ≡ cells
      → effect_of room m c s ≡ change bytes words h new
      → Move cells (world (some s) m nothing_due) (call c k) (done (steps_of bytes words) h) (world (some new) (memory_after c s m) nothing_due)
  call_early : {s new : State} {m now : List ℕ} {c : Request} {k bytes words h : ℕ} (room : Room) → room.cells ≡ cells
      → effect_of room m c s ≡ change bytes words h new → Mixed m (memory_after c s m) now
      → Move cells (world (some s) m nothing_due) (call c k) (stopped k) (world (some s) now drop_due)
  call_late : {s new : State} {m : List ℕ} {c : Request} {k bytes words h : ℕ} (room : Room) → room.cells ≡ cells
      → effect_of room m c s ≡ change bytes words h new
      → Move cells (world (some s) m nothing_due) (call c k) (stopped k) (world (some new) (memory_after c s m) finish_due)
  open_idle : {s : State} {m : List ℕ} {k h : ℕ}
      → Move cells (world (some s) m nothing_due) (opening k) (done 0 h) (world (some s) m nothing_due)
  open_drops : {s : State} {m : List ℕ} {k h : ℕ} → Move cells (world (some s) m drop_due) (opening k) (done 0 h) (world (some s) m nothing_due)
  open_finishes : {s : State} {m : List ℕ} {k n h : ℕ}
      → Move cells (world (some s) m finish_due) (opening k) (done (suc n) h) (world (some s) m nothing_due)
  open_stopped : {s : State} {m : List ℕ} {k : ℕ} → Move cells (world (some s) m finish_due) (opening k) (stopped k) (world (some s) m finish_due)
  open_refused : {m : List ℕ} {d : Due} {k q : ℕ} → Move cells (world none m d) (opening k) (refused q) (world none m nothing_due)
  written_to : {o : Option State} {m : List ℕ} {ws : List Store} {r : Report}
      → Move cells (world o m nothing_due) (write ws) r (world o (stores ws m) nothing_due)

-- Session cells w l v: a session from w may show the list l, and end in v
pub data Session (cells : ℕ) : World → List Observation → World → Type 0 where
  end : {w : World} → Session cells w [] w
  next : {w w' v : World} {i : Input} {r : Report} {l : List Observation} → Move cells w i r w' → Session cells w' l v
      → Session cells w (observed (shown i r) (memory_of w') ∷ l) v

-- "The list starts from buffers .. with any contents, on which make was done"
abbrev pub after_make : List ℕ → World
after_make memory = world (some fresh) memory nothing_due

abbrev pub AllZero : List ℕ → Type 0
AllZero [] = Unit {0}
AllZero (k ∷ ks) = (k ≡ 0) × AllZero ks

-- ---- the history agrees with a state: next handle, handles in order, cells, labels and values

abbrev pub SameCell : Option Holding → Option Kept → Type 0
SameCell none none = Unit {0}
SameCell none (some k) = ⊥
SameCell (some h) none = ⊥
SameCell (some h) (some k) = (h.label ≡ k.label) × ((j : ℕ) → j < cell_size → get_or h.value j 0 ≡ get_or k.bytes j 0)

pub data SameDomains : List Domain → List Tracked → Type 0 where
  none_left : SameDomains [] []
  same : {d : Domain} {q : Tracked} {ds : List Domain} {qs : List Tracked} → d.handle ≡ q.handle
      → ((c : ℕ) → SameCell (d.holds c) (q.cells c)) → SameDomains ds qs → SameDomains (d ∷ ds) (q ∷ qs)

pub record Agrees (s : State) (n : History) : Type 0 where
  pub same_next : s.next ≡ n.next
  pub same_domains : SameDomains s.domains n.domains

-- the history as it stands once the opening that is due is done
abbrev pub at_opening : Due → List ℕ → History → History
at_opening nothing_due memory n = n
at_opening drop_due memory n = with_waiting none n
at_opening finish_due memory n = finished n.waiting memory n

-- no domain holds a cell that memory lacks
abbrev pub Within : ℕ → State → Type 0
Within cells s = (d c : ℕ) → cells ≤ c → holding_at s.domains d c ≡ none
