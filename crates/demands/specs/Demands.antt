-- The user's three demands (document 00), and the promise of document 02's A.5, as definitions; proofs/Demands.antt has one term of each.
--
-- "Every call on every input ends and stays inside its buffers" is what a proof of a Rattle function says by itself: it ends, and no index leaves
-- its slice; and no exported call has a `requires`, so that this holds on every input. `Proved` names the proved contract of each call.
use Rattle.std.specs.Prelude.{ℕ, zero, suc, ◌+◌, ◌*◌, ◌≤◌, ◌<◌, Bool, true, false, cond, not, ◌&&◌, List, [], ◌∷◌, ◌++◌, ◌⊎◌, ◌≡◌, leb, eqb, length, take}
use Rattle.std.proofs.Math.Option.{Option, none, some}
use Rattle.words.specs.Layout.{cells_of, bodies_of, pairs_at}
use Rattle.words.specs.Scan.{count}
use Rattle.words.specs.Journal.{pending}
use Rattle.ranges.specs.declared.Range.{Range}
use Rattle.ranges.specs.Ranges.{list_ok}
use Rattle.table.specs.Checks.{lengths_ok, header_ok}
use Rattle.table.specs.Rule.{table_ok}
use Rattle.model.specs.State.{State}
use Rattle.model.specs.Answer.{Status, is_done, is_stopped, is_refused, done, refused, ended, View}
use Rattle.model.specs.Calls.{change, make_steps, listed}
use Rattle.model.specs.Holdings.{is_within, named, is_live, is_innermost, range_ok, list_checks, plain_effect}
use Rattle.model.specs.History.{create, add, delete, advance, commit, list, look, Request, changes, restore, reads, History, Tracked, begun, finished, tracked_at, mismatches, counts, history_after}
use Rattle.model.specs.Session.{Input, make, call, opening, write, effect_of, memory_after, view_of, Mixed, AllZero, Agrees}
use Rattle.store.specs.Outcome.{Buffers, Step, step, steps, Call, Outcome, outcome, leaves}
use Rattle.store.specs.Checks.{open_check, store_check, lent_of}
use Rattle.store.specs.State.{StandsFor, slots, effective_table, state_of, standing}
use Rattle.store.specs.Calls.{make_call, open_call, opening_after}
use Rattle.store.specs.Means.{visible_of, or_refused, Reopens, make_means, open_means, call_means, list_means, room_of}
use Rattle.add.specs.Add as add_calls
use Rattle.add.specs.Add.{add_call, add_means}
use Rattle.add.specs.Choice as adding
use Rattle.advance.specs.Advance.{advances, gives, advance_check, advance_call, slot_for, body_for, advance_means}
use Rattle.advance.specs.Choice as advancing
use Rattle.look.specs.Look.{look_place, place_by_state, PlaceWithin, shown_at, look_means}
use Rattle.begin.proofs.make.Statement as make_contract
use Rattle.begin.proofs.open.Statement as open_contract
use Rattle.begin.proofs.create.Statement as create_contract
use Rattle.begin.proofs.list.Statement as list_contract
use Rattle.add.proofs.add.Statement as add_contract
use Rattle.add.proofs.add_batch.Statement as add_batch_contract
use Rattle.add.proofs.add_ranges.Statement as add_ranges_contract
use Rattle.delete.proofs.delete.Statement as delete_contract
use Rattle.commit.proofs.commit.Statement as commit_contract
use Rattle.advance.proofs.advance.Statement as advance_contract
use Rattle.restore.proofs.restore.Statement as restore_contract
use Rattle.look.proofs.look.Statement as look_contract
use Rattle.look.proofs.look_place.Statement as look_place_contract
use Rattle.look.proofs.look_answer.Statement as look_answer_contract
use Rattle.domain_store.proofs.ds_make.Statement as ds_make_contract
use Rattle.domain_store.proofs.ds_open.Statement as ds_open_contract
use Rattle.domain_store.proofs.ds_create.Statement as ds_create_contract
use Rattle.domain_store.proofs.ds_add.Statement as ds_add_contract
use Rattle.domain_store.proofs.ds_add_ranges.Statement as ds_add_ranges_contract
use Rattle.domain_store.proofs.ds_delete.Statement as ds_delete_contract
use Rattle.domain_store.proofs.ds_commit.Statement as ds_commit_contract
use Rattle.domain_store.proofs.ds_advance.Statement as ds_advance_contract
use Rattle.domain_store.proofs.ds_restore.Statement as ds_restore_contract
use Rattle.domain_store.proofs.ds_list.Statement as ds_list_contract
use Rattle.domain_store.proofs.ds_look.Statement as ds_look_contract
use Rattle.demands.specs.Session.{plain_add, call_on, input_on, session, buffers_after, was_stopped, opening_rule}

-- ---- the proved contract of each exported call, and of the eleven functions that the exports of C call (domain_store_c, with the same contracts)

pub record Proved (M : Type 1) : Type 2 where
  pub of_make : make_contract.statement M
  pub of_open : open_contract.statement M
  pub of_create : create_contract.statement M
  pub of_add : add_contract.statement M
  pub of_add_batch : add_batch_contract.statement M
  pub of_add_ranges : add_ranges_contract.statement M
  pub of_delete : delete_contract.statement M
  pub of_commit : commit_contract.statement M
  pub of_advance : advance_contract.statement M
  pub of_restore : restore_contract.statement M
  pub of_list : list_contract.statement M
  pub of_look : look_contract.statement M
  pub of_look_place : look_place_contract.statement M
  pub of_look_answer : look_answer_contract.statement M
  pub of_ds_make : ds_make_contract.statement M
  pub of_ds_open : ds_open_contract.statement M
  pub of_ds_create : ds_create_contract.statement M
  pub of_ds_add : ds_add_contract.statement M
  pub of_ds_add_ranges : ds_add_ranges_contract.statement M
  pub of_ds_delete : ds_delete_contract.statement M
  pub of_ds_commit : ds_commit_contract.statement M
  pub of_ds_advance : ds_advance_contract.statement M
  pub of_ds_restore : ds_restore_contract.statement M
  pub of_ds_list : ds_list_contract.statement M
  pub of_ds_look : ds_look_contract.statement M

-- ---- demand 1: "it is refused by the number in document 01, and every lent word and byte keeps its value"

-- the answers to questions 1, 2 and 4
abbrev pub lengths_right : Buffers → Bool
lengths_right b = lengths_ok (length b.memory) (length b.bodies) (length b.table)

abbrev pub header_right : Buffers → Bool
header_right b = header_ok (length b.memory) (length b.bodies) b.table

abbrev pub table_right : Buffers → Bool
table_right b = table_ok (cells_of (length b.memory)) (slots b) (bodies_of (length b.bodies)) b.table

-- the number of the first no among questions 1 to 4, and among those put to open
abbrev pub asked : Buffers → ℕ
asked b = store_check (lent_of b)

abbrev pub opens : Buffers → ℕ
opens b = open_check (lent_of b)

-- every call, and "a call other than make"
abbrev pub is_call : Input → Bool
is_call (make k) = true
is_call (call c k) = true
is_call (opening k) = true
is_call (write ws) = false

abbrev pub is_later : Input → Bool
is_later (make k) = false
is_later (call c k) = true
is_later (opening k) = true
is_later (write ws) = false

-- the handle that a call names
abbrev pub handle_of : Request → Option ℕ
handle_of (changes create) = none
handle_of (changes (add h rs)) = some h
handle_of (changes (delete h first n)) = some h
handle_of (changes (advance h)) = some h
handle_of (changes (commit h)) = some h
handle_of (restore h) = some h
handle_of (reads list) = none
handle_of (reads (look h c)) = some h

-- "the number in document 01": that of one of its questions, 1 to 17, or of document 02's 18, 19 and 20; "Number 15 is retired"
abbrev pub is_question : ℕ → Bool
is_question n = leb 1 n && (leb n 20 && not (eqb n 15))

-- are the questions on these ranges, put range by range, all answered yes?
abbrev pub ranges_right : List Range → Buffers → Bool
ranges_right rs b = eqb (list_checks (cells_of (length b.memory)) b.memory rs (state_of b) 0) 0

pub record Demand1 : Type 0 where
  -- a refusal has the number of a question
  pub numbered : (i : Input) (b : Buffers) → (input_on i b).report.status ≡ is_refused → is_question (input_on i b).report.refusal ≡ true
  -- and no step and no handle, and leaves every buffer as lent
  pub kept : (i : Input) (b : Buffers) → (input_on i b).report.status ≡ is_refused → input_on i b ≡ leaves (refused (input_on i b).report.refusal) b
  -- "any call a wrong length"
  pub wrong_length : (i : Input) (b : Buffers) → is_call i ≡ true → lengths_right b ≡ false → input_on i b ≡ leaves (refused 1) b
  -- "a call other than make meets a damaged table": words 0 to 3 and 7, pairs that wait for opening, and the table's rule
  pub wrong_header : (i : Input) (b : Buffers) → is_later i ≡ true → lengths_right b ≡ true → header_right b ≡ false → input_on i b ≡ leaves (refused 2) b
  pub unopened : (c : Request) (k : ℕ) (b : Buffers) → lengths_right b ≡ true → header_right b ≡ true → (pending b.table ≡ 0 → ⊥)
      → call_on c k b ≡ leaves (refused 3) b
  pub wrong_table : (c : Request) (k : ℕ) (b : Buffers) → lengths_right b ≡ true → header_right b ≡ true → pending b.table ≡ 0 → table_right b ≡ false
      → call_on c k b ≡ leaves (refused 4) b
  pub wrong_table_opening : (k : ℕ) (b : Buffers) → lengths_right b ≡ true → header_right b ≡ true → table_right b ≡ false
      → outcome (open_call b) k b ≡ leaves (refused 4) b
  -- "a dead handle"
  pub stale_handle : (c : Request) (h k : ℕ) (b : Buffers) → asked b ≡ 0 → handle_of c ≡ some h → is_live h (state_of b) ≡ false
      → call_on c k b ≡ leaves (refused 5) b
  -- "or a range past the memory", of an add the first range in its list that is not right
  pub past_add : (h k : ℕ) (before : List Range) (r : Range) (after : List Range) (b : Buffers) → asked b ≡ 0 → is_live h (state_of b) ≡ true
      → is_innermost h (state_of b) ≡ true → list_ok (before ++ r ∷ after) ≡ true → ranges_right before b ≡ true → (leb r.kind 2 && leb r.label 1) ≡ true
      → range_ok (cells_of (length b.memory)) r.first r.count ≡ false → call_on (changes (add h (before ++ r ∷ after))) k b ≡ leaves (refused 8) b
  pub past_delete : (h first n k : ℕ) (b : Buffers) → asked b ≡ 0 → is_live h (state_of b) ≡ true → range_ok (cells_of (length b.memory)) first n ≡ false
      → call_on (changes (delete h first n)) k b ≡ leaves (refused 8) b
  pub past_look : (h c k : ℕ) (b : Buffers) → asked b ≡ 0 → is_live h (state_of b) ≡ true → range_ok (cells_of (length b.memory)) c 1 ≡ false
      → call_on (reads (look h c)) k b ≡ leaves (refused 8) b
  -- document 02: "20, after question 6: fewer than 1 or more than 64 records"
  pub wrong_list : (h k : ℕ) (rs : List Range) (b : Buffers) → asked b ≡ 0 → is_live h (state_of b) ≡ true → is_innermost h (state_of b) ≡ true
      → list_ok rs ≡ false → call_on (changes (add h rs)) k b ≡ leaves (refused 20) b

-- ---- demand 2: "Each call answers and leaves the holdings as the containment domain API of 2012 says, with the choices of document 01"

-- What is to be seen of a call is `visible_of` it: its report, the state that opening finds, and memory. What should be: questions 1 to 4 are put to the
-- buffers, the others to the state.
abbrev pub call_view : Request → (budget : ℕ) → Buffers → View
call_view c k b = or_refused (asked b) b (view_of (room_of b) c k (state_of b) b.memory)

-- "Open needs at most 2E + 11 steps, every other call at most 70E + 32"
abbrev pub step_bound : Input → (slots : ℕ) → ℕ
step_bound (make k) e = 70 * e + 32
step_bound (call c k) e = 70 * e + 32
step_bound (opening k) e = 2 * e + 11
step_bound (write ws) e = 0

abbrev pub budget_of : Input → ℕ
budget_of (make k) = k
budget_of (call c k) = k
budget_of (opening k) = k
budget_of (write ws) = 0

-- "After a cut, opening finds the call wholly made or not made": not made, with nothing for opening to do, and memory mixed only where the call
-- puts bytes back; or made, with pairs for opening to put in place, and memory whole
pub data Found (c : Request) (b left : Buffers) : Type 0 where
  not_made : standing left ≡ some (state_of b) → pending left.table ≡ 0 → Mixed b.memory (memory_after c (state_of b) b.memory) left.memory → Found c b left
  wholly_made : {bytes words h : ℕ} {new : State} → effect_of (room_of b) b.memory c (state_of b) ≡ change bytes words h new → standing left ≡ some new
      → 0 < pending left.table → left.memory ≡ memory_after c (state_of b) b.memory → Found c b left

-- what an opening that is done leaves, `final`, where a cut left `left`, whatever openings came between: the state and the memory that the cut left;
-- of a call not made, everything that it left; of one wholly made, word for word and byte for byte, what the call leaves when it is not cut
pub record Reopened (c : Request) (b left final : Buffers) : Type 0 where
  pub state : standing final ≡ standing left
  pub memory : final.memory ≡ left.memory
  pub unmade : pending left.table ≡ 0 → final ≡ left
  pub made : 0 < pending left.table → (k : ℕ) → (call_on c k b).report.status ≡ is_done → final ≡ (call_on c k b).buffers

-- "Two things are left free: which entries and bodies a call takes, though each was free before the call": the lowest free ones, which
-- the contracts name, and what it is for a call to mean this and to be found after every cut as wholly made or not made
abbrev pub lowest_slot : List Range → Buffers → (c : ℕ) → ℕ
lowest_slot rs b = add_calls.slot_for (slots b) b.table rs

abbrev pub lowest_body : List Range → Buffers → (c : ℕ) → ℕ
lowest_body rs b = add_calls.body_for (slots b) (bodies_of (length b.bodies)) b.table rs

-- "With k such cells an advance takes at most 70k + 2 steps, and none when k is 0", and by A.4 two words more for each cell given: of n cells that
-- advance, of which g are given outwards, exactly so many
abbrev pub advance_steps : (n g : ℕ) → ℕ
advance_steps n g = cond (eqb n 0) 0 (70 * n + 6 * g + 2)

-- how many cells an advance changes, and how many of them it gives outwards
abbrev pub advancing_cells : Buffers → ℕ
advancing_cells b = count (cells_of (length b.memory)) (advances b)

abbrev pub outward_cells : Buffers → ℕ
outward_cells b = count (cells_of (length b.memory)) (gives b)

pub record Means (call : Call) (means : (k : ℕ) → View) (b : Buffers) : Type 0 where
  pub shown : (k : ℕ) → visible_of (outcome call k b) ≡ means k
  pub reopens : asked b ≡ 0 → Reopens call b

-- "The buffers after budget k + 1 differ from those after k in at most one word or byte": they are the same, or one store more is made
abbrev pub OneMore : (before after : Buffers) → Type 0
OneMore b c = (c ≡ b) ⊎ ((s : Step) × (c ≡ step s b))

-- "A step stores one table word, one body byte or one memory byte": a call that ends at budget k as `at k` has one list of stores, of which it makes
-- the first k, whatever k is; "done, with its step count, or .. stopped exactly if it needs more than the budget, with that many steps made"
pub record Stepped (at : (k : ℕ) → Outcome) (b : Buffers) : Type 0 where
  pub plan : List Step
  pub made : (k : ℕ) → (at k).buffers ≡ steps (take k plan) b
  pub done_all : (k : ℕ) → (at k).report.status ≡ is_done → ((at k).report.steps ≡ length plan) × (length plan ≤ k)
  pub stopped_short : (k : ℕ) → (at k).report.status ≡ is_stopped → ((at k).report.steps ≡ k) × (k < length plan)
  pub one_more : (k : ℕ) → OneMore (at k).buffers (at (suc k)).buffers

-- "save that a cut make may leave no store": a make that was stopped after a store; at budget 0 it has made none
abbrev pub is_cut_make : Input → Status → Bool
is_cut_make (make zero) r = false
is_cut_make (make (suc k)) r = was_stopped r
is_cut_make (call c k) r = false
is_cut_make (opening k) r = false
is_cut_make (write ws) r = false

abbrev pub no_cut_make : List Input → Buffers → Bool
no_cut_make [] b = true
no_cut_make (i ∷ is) b = not (is_cut_make i (input_on i b).report.status) && no_cut_make is (input_on i b).buffers

-- the buffers after a make with budget k, and whether it was done
abbrev pub made_from : Buffers → (k : ℕ) → Buffers
made_from b k = (outcome (make_call b) k b).buffers

abbrev pub MakeDone : Buffers → (k : ℕ) → Type 0
MakeDone b k = (outcome (make_call b) k b).report.status ≡ is_done

pub record Demand2 : Type 0 where
  pub make_shows : (k : ℕ) (b : Buffers) → visible_of (outcome (make_call b) k b) ≡ make_means k b
  pub open_shows : (k : ℕ) (b : Buffers) → visible_of (outcome (open_call b) k b) ≡ open_means k b
  pub call_shows : (c : Request) (k : ℕ) (b : Buffers) → visible_of (call_on c k b) ≡ call_view c k b
  pub look_shows : (h c : ℕ) (b : Buffers) → shown_at (look_place h c b) b ≡ look_means h c b
  -- "a part of the lent bodies, or of the lent memory where nobody from that domain inwards holds the cell", inside that buffer; or "the rule number"
  pub look_tells : (h c : ℕ) (b : Buffers) → asked b ≡ 0 → is_live h (state_of b) ≡ true → range_ok (cells_of (length b.memory)) c 1 ≡ true
      → look_place h c b ≡ place_by_state h c b
  pub look_within : (h c : ℕ) (b : Buffers) → PlaceWithin (look_place h c b) b
  -- (`list_means` is what list's contract is an equation with, `of_list`)
  pub list_shows : (b : Buffers) → asked b ≡ 0 → list_means b ≡ listed (state_of b)
  -- the plain add, which is the list of its one range: put the questions on that range, then those on room, it adds that range
  pub plain_shows : (h first n kind rule label k : ℕ) (b : Buffers)
      → visible_of (call_on (changes (plain_add h first n kind rule label)) k b) ≡ call_means (plain_effect (room_of b) b.memory h first n kind rule label) k b
  -- one store a step, and no other
  pub make_stepped : (b : Buffers) → Stepped (λ k. outcome (make_call b) k b) b
  pub open_stepped : (b : Buffers) → Stepped (λ k. outcome (open_call b) k b) b
  pub call_stepped : (c : Request) (b : Buffers) → Stepped (λ k. call_on c k b) b
  -- no call makes more steps than its bound, and with such a budget none is stopped
  pub bound : (i : Input) (b : Buffers) → (input_on i b).report.steps ≤ step_bound i (slots b)
  pub enough : (i : Input) (b : Buffers) → step_bound i (slots b) ≤ budget_of i → (input_on i b).report.status ≡ is_stopped → ⊥
  -- a call that is done, an opening too, leaves word 6 zero, and questions 1 to 4 are answered yes after it
  pub done_clears : (i : Input) (b : Buffers) → is_call i ≡ true → (input_on i b).report.status ≡ is_done → pending (input_on i b).buffers.table ≡ 0
  pub done_ready : (i : Input) (b : Buffers) → is_call i ≡ true → (input_on i b).report.status ≡ is_done → asked (input_on i b).buffers ≡ 0
  -- the slots and bodies that add and advance take were free before the call and differ; and with any such places each means the same
  pub add_takes : (h : ℕ) (rs : List Range) (b : Buffers) → adding.MayTake h rs b (lowest_slot rs b) (lowest_body rs b)
  pub add_is : (h : ℕ) (rs : List Range) (b : Buffers) → add_call h rs b ≡ adding.add_with (lowest_slot rs b) (lowest_body rs b) h rs b
  pub add_any : (h : ℕ) (rs : List Range) (b : Buffers) (slot body : ℕ → ℕ) → adding.MayTake h rs b slot body
      → Means (adding.add_with slot body h rs b) (λ k. add_means h rs k b) b
  pub advance_takes : (h : ℕ) (b : Buffers) → advancing.MayTake h b (slot_for b) (body_for b)
  pub advance_is : (h : ℕ) (b : Buffers) → advance_call h b ≡ advancing.advance_with (slot_for b) (body_for b) h b
  pub advance_any : (h : ℕ) (b : Buffers) (slot body : ℕ → ℕ) → advancing.MayTake h b slot body
      → Means (advancing.advance_with slot body h b) (λ k. advance_means h k b) b
  -- an advance that no question refuses is done in so many steps, or stopped; where no cell advances it is done at every budget
  pub advance_step_count : (h : ℕ) (b : Buffers) → advance_check b h ≡ 0 → (k : ℕ)
      → (outcome (advance_call h b) k b).report ≡ ended (advance_steps (advancing_cells b) (outward_cells b)) 0 k
  -- "The step bound becomes 76k + 2"
  pub advance_most : (b : Buffers) → advance_steps (advancing_cells b) (outward_cells b) ≤ 76 * advancing_cells b + 2
  -- "A table that opening accepts stands for one state of domains and holdings"
  pub stands : (b : Buffers) → opens b ≡ 0 → StandsFor (slots b) (effective_table b) b.bodies (state_of b)
  pub one_state : (b : Buffers) (s : State) → opens b ≡ 0 → StandsFor (slots b) (effective_table b) b.bodies s → s ≡ state_of b
  -- "every state reached can be opened": after every list of calls and writes from a make that was done, in which no make was cut after a store
  pub reached : (b : Buffers) (k : ℕ) (l : List Input) → MakeDone b k → no_cut_make l (made_from b k) ≡ true → opens (buffers_after l (made_from b k)) ≡ 0
  -- and one cut after a store leaves what opening refuses with 2: stopped at 1 to 2E + 16
  pub make_cut : (k j : ℕ) (b : Buffers) → lengths_right b ≡ true → 0 < k → k < make_steps (slots b)
      → outcome (open_call (made_from b k)) j (made_from b k) ≡ leaves (refused 2) (made_from b k)
  -- a cut call, and the openings after it: each keeps state and memory, whether it is done or stopped
  pub cut : (c : Request) (k : ℕ) (b : Buffers) → (call_on c k b).report.status ≡ is_stopped → Found c b (call_on c k b).buffers
  pub reopened : (c : Request) (k : ℕ) (ks : List ℕ) (j : ℕ) (b : Buffers) → (call_on c k b).report.status ≡ is_stopped
      → (opening_after ks j (call_on c k b).buffers).report.status ≡ is_done
      → Reopened c b (call_on c k b).buffers (opening_after ks j (call_on c k b).buffers).buffers
  pub opening_keeps : (k : ℕ) (b : Buffers) → opens b ≡ 0
      → (standing (outcome (open_call b) k b).buffers ≡ standing b) × ((outcome (open_call b) k b).buffers.memory ≡ b.memory)

-- ---- demand 3: "after every completed restore in it, the count of bytes that differ from what stood at its domain's point is zero"

-- from buffers with any contents on which make was done (which only buffers of allowed lengths answer), in every session that keeps the rule that
-- an opening follows a stopped call, every count is 0
abbrev pub Demand3 : Type 0
Demand3 = (b : Buffers) (k : ℕ) (l : List Input) → MakeDone b k → opening_rule false l (made_from b k) ≡ true → AllZero (counts begun (session l (made_from b k)))

-- ---- against an empty count

-- the history after a session, and what it will be once the opening that the buffers wait for is done: the line of the call that waits is carried
-- out where its pairs are pending
abbrev pub history_of : Buffers → List Input → History
history_of b l = history_after begun (session l b)

abbrev pub history_now : Buffers → History → History
history_now b n = cond (eqb (pending b.table) 0) n (finished n.waiting b.memory n)

-- openings with these budgets, and that each of them is stopped
abbrev pub openings : List ℕ → List Input
openings [] = []
openings (k ∷ ks) = opening k ∷ openings ks

abbrev pub AllStopped : List ℕ → Buffers → Type 0
AllStopped [] b = Unit {0}
AllStopped (k ∷ ks) b = ((outcome (open_call b) k b).report.status ≡ is_stopped) × AllStopped ks (outcome (open_call b) k b).buffers

-- the counts of a session
abbrev pub counts_of : Buffers → List Input → List ℕ
counts_of b l = counts begun (session l b)

-- Some more inputs after the session l from b complete a restore of the domain that handle h names: the history has that domain, and unless it is
-- excluded the counts of the longer session are those of l and one more, of its mismatches in the memory at the end.
abbrev pub CountsOne : (h : ℕ) → Buffers → (l more : List Input) → Type 0
CountsOne h b l more =
    (q : Tracked) × (tracked_at (named h (state_of (buffers_after l b))) (history_of b l).domains ≡ some q)
    × (q.excluded ≡ false → counts_of b (l ++ more) ≡ counts_of b l ++ mismatches (buffers_after (l ++ more) b).memory q ∷ [])

pub record Counted : Type 0 where
  -- wherever there is a store, the history's next handle, handles in order, cells, labels and values are those of the state that it stands for
  pub agrees : (b : Buffers) (k : ℕ) (l : List Input) (s : State) → MakeDone b k → opening_rule false l (made_from b k) ≡ true
      → standing (buffers_after l (made_from b k)) ≡ some s → Agrees s (history_now (buffers_after l (made_from b k)) (history_of (made_from b k) l))
  -- so every restore answered done counts
  pub done_counts : (b : Buffers) (k : ℕ) (l : List Input) (h j : ℕ) → MakeDone b k → opening_rule false (l ++ call (restore h) j ∷ []) (made_from b k) ≡ true
      → (call_on (restore h) j (buffers_after l (made_from b k))).report.status ≡ is_done → CountsOne h (made_from b k) l (call (restore h) j ∷ [])
  -- and every stopped one whose first done opening takes a step
  pub late_counts : (b : Buffers) (k : ℕ) (l : List Input) (h j : ℕ) (ks : List ℕ) (i x : ℕ) → MakeDone b k
      → opening_rule false (l ++ call (restore h) j ∷ []) (made_from b k) ≡ true
      → (call_on (restore h) j (buffers_after l (made_from b k))).report.status ≡ is_stopped
      → AllStopped ks (call_on (restore h) j (buffers_after l (made_from b k))).buffers
      → (opening_after ks i (call_on (restore h) j (buffers_after l (made_from b k))).buffers).report ≡ done (suc x) 0
      → CountsOne h (made_from b k) l (call (restore h) j ∷ openings (ks ++ i ∷ []))

-- ---- document 02, A.5: "restoring an inner domain and then one around it leaves the same memory, live domains, holdings and values as restoring the
-- outer one alone. It holds for every table that opens, with no premise about how the program wrote"

-- both are live, and `inner` names a domain inside the one that `outer` names, or that one itself; 0 names the innermost
abbrev pub is_around : (outer inner : ℕ) → State → Bool
is_around outer inner s = is_live outer s && is_within (named outer s) (named inner s)

abbrev pub IsDone : Outcome → Type 0
IsDone o = o.report.status ≡ is_done

abbrev pub IsStopped : Outcome → Type 0
IsStopped o = o.report.status ≡ is_stopped

-- the budget of a call suffices where it does not stop the call; 70E + 32 always does (`enough`)
abbrev pub Suffices : Outcome → Type 0
Suffices o = IsStopped o → ⊥

abbrev pub restore_on : (h budget : ℕ) → Buffers → Outcome
restore_on h k b = call_on (restore h) k b

abbrev pub open_on : (budget : ℕ) → Buffers → Outcome
open_on k b = outcome (open_call b) k b

-- The same store: memory and bodies byte for byte, and the table word for word up to where the pairs begin, words 0 to 15 + 2E; and so the state that
-- opening finds, with its next handle, live domains, holdings and values. Only unused pairs may differ.
pub record SameStore (x y : Buffers) : Type 0 where
  pub memory : x.memory ≡ y.memory
  pub bodies : x.bodies ≡ y.bodies
  pub words : take (pairs_at (slots x)) x.table ≡ take (pairs_at (slots y)) y.table
  pub same_length : length x.table ≡ length y.table
  pub state : standing x ≡ standing y

-- a restore of h leaves the same from x as from y: where the budgets suffice both are done
abbrev pub RestoresSame : (h : ℕ) → (x y : Buffers) → Type 0
RestoresSame h x y = (k l : ℕ) → Suffices (restore_on h k x) → Suffices (restore_on h l y)
    → IsDone (restore_on h k x) × IsDone (restore_on h l y) × SameStore (restore_on h k x).buffers (restore_on h l y).buffers

pub record InnerFirst : Type 0 where
  -- "every table that opens": once it is opened, questions 1 to 4 are answered yes, and state and memory are those that it stood for
  pub opened : (b : Buffers) (i : ℕ) → opens b ≡ 0 → Suffices (open_on i b) → IsDone (open_on i b)
      × (asked (open_on i b).buffers ≡ 0) × (state_of (open_on i b).buffers ≡ state_of b) × ((open_on i b).buffers.memory ≡ b.memory)
  -- the inner restore, and then the outer one, beside the outer one alone
  pub same : (outer inner j : ℕ) (b : Buffers) → asked b ≡ 0 → is_around outer inner (state_of b) ≡ true → Suffices (restore_on inner j b)
      → IsDone (restore_on inner j b) × RestoresSame outer (restore_on inner j b).buffers b
  -- the same where the inner restore was cut and then opened, whatever openings came between, and whether it was found made or not
  pub cut : (outer inner j : ℕ) (ks : List ℕ) (i : ℕ) (b : Buffers) → is_around outer inner (state_of b) ≡ true → IsStopped (restore_on inner j b)
      → IsDone (opening_after ks i (restore_on inner j b).buffers) → RestoresSame outer (opening_after ks i (restore_on inner j b).buffers).buffers b
  -- restoring twice is restoring once: the second leaves every word and byte as it is, unused pairs too
  pub twice : (h j k : ℕ) (b : Buffers) → asked b ≡ 0 → is_live h (state_of b) ≡ true → Suffices (restore_on h j b)
      → Suffices (restore_on h k (restore_on h j b).buffers)
      → IsDone (restore_on h j b) × IsDone (restore_on h k (restore_on h j b).buffers) × ((restore_on h k (restore_on h j b).buffers).buffers ≡ (restore_on h j b).buffers)

-- ---- the whole: the contracts of the calls and of the functions of C, and the demands

pub record Demands (M : Type 1) : Type 2 where
  pub proved : Proved M
  pub demand_1 : Demand1
  pub demand_2 : Demand2
  pub demand_3 : Demand3
  pub counted : Counted
