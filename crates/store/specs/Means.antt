-- What each call means for lent buffers: its report, the state that opening then finds, and memory, by the meanings of the crate `model`.
use Rattle.std.specs.Prelude.{ℕ, ◌+◌, ◌*◌, ◌<◌, cond, ◌&&◌, List, ◌≡◌, ltb, length}
use Rattle.words.specs.Layout.{cells_of, bodies_of}
use Rattle.words.specs.Journal.{pending}
use Rattle.model.specs.State.{State}
use Rattle.model.specs.Answer.{is_done, Report, done, refused, by_number, View, view, steps_of}
use Rattle.model.specs.Holdings.{Room}
use Rattle.model.specs.Calls.{Effect, refuse, change, viewed, make_view, open_view, create_effect, Listed, listed, list_refused}
use Rattle.store.specs.Outcome.{Buffers, Call, Outcome, leaves, outcome}
use Rattle.store.specs.Checks.{make_check, open_check, store_check, lent_of}
use Rattle.store.specs.State.{state_of, standing, slots}
use Rattle.store.specs.Calls.{opening_after}

-- what is to be visible of a report and the buffers left with it
abbrev pub visible : Report → Buffers → View
visible r b = view r (standing b) b.memory

abbrev pub visible_of : Outcome → View
visible_of o = visible o.report o.buffers

-- what each exported call promises besides: what is to be visible of its report and of the buffers `after` is what it means
abbrev pub Shows : (ℕ → Buffers → View) → (budget : ℕ) → (before : Buffers) → Report → (after : Buffers) → Type 0
Shows means k before r after = visible r after ≡ means k before

-- a call refused by a question on the buffers leaves what there was
abbrev pub or_refused : ℕ → Buffers → View → View
or_refused q b v = by_number (λ n. visible (refused n) b) q v

unfoldable pub make_means : ℕ → Buffers → View
make_means k b =
    or_refused (make_check (lent_of b)) b
    (make_view (slots b) k (standing b) b.memory)

unfoldable pub open_means : ℕ → Buffers → View
open_means k b =
    or_refused (open_check (lent_of b)) b
    (open_view (pending b.table) k (state_of b) b.memory)

-- a changing call, put questions 1 to 4 on the buffers and the others on the state
unfoldable pub call_means : (State → Effect) → ℕ → Buffers → View
call_means effect k b =
    or_refused (store_check (lent_of b)) b
    (viewed (effect (state_of b)) k (state_of b) b.memory)

abbrev pub create_means : ℕ → Buffers → View
create_means = call_means create_effect

-- ---- the pairs that a changing call leaves pending at budget k: what the next opening has to put in place

abbrev pub left_pending : Outcome → ℕ
left_pending o = pending o.buffers.table

-- of a call that stores so many bytes and replaces so many words: all of them, from the store of word 6 that makes them pending to the one that
-- clears it
abbrev pub pending_after : (bytes words k : ℕ) → ℕ
pending_after b w k = cond (ltb (b + 2 * w) k && ltb k (steps_of b w)) w 0

-- by the effect; a refused call leaves the table as it was, with nothing pending
abbrev pub after_pending : Effect → (k : ℕ) → ℕ
after_pending (refuse n) k = 0
after_pending (change b w h new) k = pending_after b w k

-- "After a cut, opening finds the call wholly made or not made", word for word and whatever openings came before: where no pair is pending it takes no
-- step; where pairs are, one that is done leaves the buffers of the call with budget enough
pub record Reopens (c : Call) (b : Buffers) : Type 0 where
  pub not_made : (k j : ℕ) (ks : List ℕ) → left_pending (outcome c k b) ≡ 0
      → opening_after ks j (outcome c k b).buffers ≡ leaves (done 0 0) (outcome c k b).buffers
  pub made : (k full j : ℕ) (ks : List ℕ) → 0 < left_pending (outcome c k b) → (outcome c full b).report.status ≡ is_done
      → (opening_after ks j (outcome c k b).buffers).report.status ≡ is_done
      → (opening_after ks j (outcome c k b).buffers).buffers ≡ (outcome c full b).buffers

-- ---- list

abbrev pub or_list_refused : ℕ → Listed → Listed
or_list_refused = by_number list_refused

unfoldable pub list_means : Buffers → Listed
list_means b = or_list_refused (store_check (lent_of b)) (listed (state_of b))

-- ---- m, E and B, by the lengths

abbrev pub room_of : Buffers → Room
room_of b = record { cells = cells_of (length b.memory); slots = slots b; bodies = bodies_of (length b.bodies) }
