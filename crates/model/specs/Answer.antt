-- What a call answers, in document 01's numbers.
use Rattle.std.specs.Prelude.{ℕ, ◌+◌, Bool, true, false, cond, List, leb}
use Rattle.std.proofs.Math.Option.{Option}
use Rattle.words.specs.Journal.{journal_steps}
use Rattle.model.specs.State.{State}

pub data Status : Type 0 where
  is_done is_stopped is_refused : Status

-- how the call ended, the number of the question that refused it, the steps made, and the handle that it names
pub record Report : Type 0 where
  pub status : Status
  pub refusal : ℕ
  pub steps : ℕ
  pub handle : ℕ

abbrev pub done : ℕ → ℕ → Report
done n h = record { status = is_done; refusal = 0; steps = n; handle = h }

-- "with that many steps made"; no handle is named
abbrev pub stopped : ℕ → Report
stopped k = record { status = is_stopped; refusal = 0; steps = k; handle = 0 }

-- "A no gives the number, zero steps, no handle"
abbrev pub refused : ℕ → Report
refused n = record { status = is_refused; refusal = n; steps = 0; handle = 0 }

-- "It ends as done, with its step count, or as stopped exactly if it needs more than the budget, with that many steps made"
unfoldable pub ended : (need handle budget : ℕ) → Report
ended need h k = cond (leb need k) (done need h) (stopped k)

-- the questions put to a call: a no gives its number, a yes goes on; 0 where every answer is yes
abbrev pub ask : Bool → ℕ → ℕ → ℕ
ask true n rest = rest
ask false n rest = n

-- by the number of a call's questions: 0 goes on, any other gives what a refusal with that number gives
abbrev pub by_number : {A : Type 0} → (refuses : ℕ → A) → ℕ → A → A
by_number refuses ℕ.zero a = a
by_number refuses (ℕ.suc n) a = refuses (ℕ.suc n)

-- these questions, and then those
abbrev pub or_else : ℕ → ℕ → ℕ
or_else = by_number (λ n. n)

-- what is to be seen after a call: its report, the state that opening finds (none where it refuses the table), and memory
pub record View : Type 0 where
  pub report : Report
  pub state : Option State
  pub memory : List ℕ

abbrev pub view : Report → Option State → List ℕ → View
view r s m = record { report = r; state = s; memory = m }

-- the steps of a call that stores so many bytes and replaces p words by the journal
abbrev pub steps_of : (bytes p : ℕ) → ℕ
steps_of bytes p = bytes + journal_steps p
