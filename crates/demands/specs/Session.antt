-- Sessions over lent buffers (document 01: lists of calls and program writes). A session is a function of the starting buffers and the list of
-- inputs. Its step applies the very definitions that the exported calls' contracts are equations with; nothing else here says what a call does.
use Rattle.std.specs.Prelude.{ℕ, Bool, true, false, not, ◌&&◌, ◌||◌, List, [], ◌∷◌}
use Rattle.words.specs.Stores.{stores}
use Rattle.ranges.specs.Ranges.{one_range}
use Rattle.model.specs.Answer.{Status, is_done, is_stopped, is_refused, Report, done}
use Rattle.model.specs.History.{Changing, create, add, delete, advance, commit, Reading, list, look, Request, changes, restore, reads, Observation, observed}
use Rattle.model.specs.Session.{Input, make, call, opening, write, shown}
use Rattle.store.specs.Outcome.{Buffers, buffers, Call, Outcome, outcome, leaves}
use Rattle.store.specs.Calls.{make_call, open_call, create_call}
use Rattle.store.specs.Means.{list_means}
use Rattle.add.specs.Add.{add_call}
use Rattle.delete.specs.Delete.{delete_call}
use Rattle.advance.specs.Advance.{advance_call}
use Rattle.commit.specs.Commit.{commit_call}
use Rattle.restore.specs.Restore.{restore_call}
use Rattle.look.specs.Look.{look_place, place_report}

-- the plain add: the list of its one range
abbrev pub plain_add : (h first n kind rule label : ℕ) → Changing
plain_add h first n k u l = add h (one_range first n k u l)

-- a changing call as its contract has it
abbrev pub change_call : Changing → Buffers → Call
change_call create b = create_call b
change_call (add h rs) b = add_call h rs b
change_call (delete h first n) b = delete_call h first n b
change_call (advance h) b = advance_call h b
change_call (commit h) b = commit_call h b

abbrev pub read_report : Reading → Buffers → Report
read_report list b = (list_means b).report
read_report (look h c) b = place_report (look_place h c b)

-- a call's report and the buffers that it leaves; list and look take no budget and change nothing
abbrev pub call_on : Request → (budget : ℕ) → Buffers → Outcome
call_on (changes c) k b = outcome (change_call c b) k b
call_on (restore h) k b = outcome (restore_call h b) k b
call_on (reads r) k b = leaves (read_report r b) b

-- one input: "Each call gets the buffers as the last call or write left them"; a program write is never stopped
abbrev pub input_on : Input → Buffers → Outcome
input_on (make k) b = outcome (make_call b) k b
input_on (call c k) b = call_on c k b
input_on (opening k) b = outcome (open_call b) k b
input_on (write ws) b = leaves (done 0 0) (buffers (stores ws b.memory) b.bodies b.table)

-- what the history is fed of a session
abbrev pub session : List Input → Buffers → List Observation
session [] b = []
session (i ∷ is) b = observed (shown i (input_on i b).report) (input_on i b).buffers.memory ∷ session is (input_on i b).buffers

-- the buffers after it
abbrev pub buffers_after : List Input → Buffers → Buffers
buffers_after [] b = b
buffers_after (i ∷ is) b = buffers_after is (input_on i b).buffers

-- ---- "What follows a stopped call, a stopped opening too, is an opening"

abbrev pub was_stopped : Status → Bool
was_stopped is_done = false
was_stopped is_stopped = true
was_stopped is_refused = false

abbrev pub is_opening : Input → Bool
is_opening (make k) = false
is_opening (call c k) = false
is_opening (opening k) = true
is_opening (write ws) = false

-- `due`: the input before was stopped
abbrev pub opening_rule : (due : Bool) → List Input → Buffers → Bool
opening_rule due [] b = true
opening_rule due (i ∷ is) b =
    (not due || is_opening i) && opening_rule (was_stopped (input_on i b).report.status) is (input_on i b).buffers
