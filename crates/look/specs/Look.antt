-- Look: its questions, the part that it shows or the rule that it tells, and what it means.
use Rattle.std.specs.Prelude.{ℕ, ◌+◌, ◌≤◌, List, [], length, take, drop, Result, Ok, Err, Option as Maybe, Some, None}
use Rattle.std.proofs.Math.Option.{Option, none, some}
use Rattle.words.specs.Layout.{cell_at, cells_of, slots_of, cell_size}
use Rattle.patterns.specs.Pattern.{max_rule}
use Rattle.table.specs.Entry.{word2}
use Rattle.search.specs.Search.{source_from}
use Rattle.search.specs.Holders.{value_from}
use Rattle.search.specs.declared.holders.Held.{Held}
use Rattle.search.specs.declared.holders.Value.{Value}
use Rattle.search.specs.declared.holders.Value.TheVariants as values
use Rattle.search.specs.Domain.{depth_named}
use Rattle.model.specs.Answer.{Report, done, refused, by_number, or_else}
use Rattle.model.specs.Holdings.{named, rule_of, ask_range}
use Rattle.model.specs.State.{Holding}
use Rattle.model.specs.Restore.{Looked, looked, look_refused, outermost}
use Rattle.store.specs.Outcome.{Buffers}
use Rattle.store.specs.Checks.{store_check, ask_live_in, lent_of, Lent}
use Rattle.store.specs.State.{slots, state_of}
use Rattle.store.specs.declared.answers.Refusal.{Refusal}
use Rattle.store.specs.Answer.{question}
use Rattle.look.specs.declared.Place.{Place}
use Rattle.look.specs.declared.Place.TheVariants as places
use Rattle.look.specs.declared.LookAnswer.{LookAnswer}
use Rattle.look.specs.declared.LookAnswer.TheVariants as answers

-- questions 1 to 5, and 8 with count 1
unfoldable pub look_check : Lent → (h c : ℕ) → ℕ
look_check l h c = or_else (store_check l) (ask_live_in l.table h (ask_range (cells_of l.memory) c 1 0))

-- where look finds the bytes: refused by a question's number, or at an offset of memory or of bodies; or the rule that they follow
pub data Placed : Type 0 where
  Refused Memory Bodies Rule : ℕ → Placed

-- "a part of the lent bodies, or of the lent memory where nobody from that domain inwards holds the cell"; of a rule its number
abbrev pub place_held : Value → Placed
place_held (values.Body k) = Bodies (cell_at k)
place_held (values.Rule r) = Rule r

abbrev pub place_shown : (c : ℕ) → Maybe Held → Placed
place_shown c None = Memory (cell_at c)
place_shown c (Some h) = place_held h.value

unfoldable pub place_in : (e : ℕ) → List ℕ → (d c : ℕ) → Placed
place_in e t d c = place_shown c (value_from e t d c)

abbrev pub placed_by : ℕ → Placed → Placed
placed_by = by_number Refused

unfoldable pub look_place : (h c : ℕ) → Buffers → Placed
look_place h c b =
    placed_by (look_check (lent_of b) h c)
    (place_in (slots_of (length b.table)) b.table (depth_named b.table h) c)

-- a place that the code finds, and its answer
abbrev pub placed_at : Place → Placed
placed_at (places.Memory at) = Memory at
placed_at (places.Bodies at) = Bodies at
placed_at (places.Rule r) = Rule r

abbrev pub placed : Result Place Refusal → Placed
placed (Ok p) = placed_at p
placed (Err why) = Refused (question why)

-- a place in document 01's numbers and bytes: the answer, the 64 bytes at that offset, and the rule; "when it is refused, the part has length 0",
-- and so it has where a rule is told
abbrev pub place_report : Placed → Report
place_report (Refused n) = refused n
place_report (Memory at) = done 0 0
place_report (Bodies at) = done 0 0
place_report (Rule r) = done 0 0

abbrev pub place_part : Placed → Buffers → List ℕ
place_part (Refused n) b = []
place_part (Memory at) b = take cell_size (drop at b.memory)
place_part (Bodies at) b = take cell_size (drop at b.bodies)
place_part (Rule r) b = []

abbrev pub place_rule : Placed → Option ℕ
place_rule (Refused n) = none
place_rule (Memory at) = none
place_rule (Bodies at) = none
place_rule (Rule r) = some r

-- the 64 bytes at that offset lie inside that buffer, and a rule is one that there is
abbrev pub PlaceWithin : Placed → Buffers → Type 0
PlaceWithin (Refused n) b = Unit {0}
PlaceWithin (Memory at) b = at + cell_size ≤ length b.memory
PlaceWithin (Bodies at) b = at + cell_size ≤ length b.bodies
PlaceWithin (Rule r) b = r ≤ max_rule

abbrev pub shown_at : Placed → Buffers → Looked
shown_at p b = record { report = place_report p; part = place_part p b; rule = place_rule p }

-- an answer of look's in the same numbers: refused, done with bytes to show, or done with a rule
abbrev pub answer_report : Result LookAnswer Refusal → Report
answer_report (Ok s) = done 0 0
answer_report (Err why) = refused (question why)

abbrev pub shown_rule : LookAnswer → Option ℕ
shown_rule answers.Bytes = none
shown_rule (answers.Rule r) = some r

abbrev pub answer_rule : Result LookAnswer Refusal → Option ℕ
answer_rule (Ok s) = shown_rule s
answer_rule (Err why) = none

-- what look means: put questions 1 to 4 on the buffers and the others on the state
abbrev pub or_look_refused : ℕ → Looked → Looked
or_look_refused = by_number look_refused

unfoldable pub look_means : (h c : ℕ) → Buffers → Looked
look_means h c b =
    or_look_refused (store_check (lent_of b))
    (looked (cells_of (length b.memory)) h c (state_of b) b.memory)

-- which buffer, by the state, and which offset: the cell in memory where no domain from the named one inwards holds it; else, unless the first
-- holder follows a rule, the body at the end of its chain, k
abbrev pub place_of_rule : Option ℕ → (k : ℕ) → Placed
place_of_rule none k = Bodies (cell_at k)
place_of_rule (some r) k = Rule r

abbrev pub place_of : (c : ℕ) → Option Holding → (k : ℕ) → Placed
place_of c none k = Memory (cell_at c)
place_of c (some h) k = place_of_rule (rule_of h.kind) k

abbrev pub place_by_state : (h c : ℕ) → Buffers → Placed
place_by_state h c b =
    place_of c (outermost (named h (state_of b)) c (state_of b)) (word2 (slots b) b.table (source_from (slots b) b.table (named h (state_of b)) c))
