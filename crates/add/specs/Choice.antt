-- Document 01, "What the statements have to decide": "Two things are left free: which entries and bodies a call takes, though each was free before
-- the call". An add takes an entry slot for each newly held cell, and a body for each that is held by copy: `slot c` and `body c` are those of
-- cell c. The call made with any such places means the same (proofs/Added); the contract's call takes the lowest free ones, `slot_for` and
-- `body_for` (Add).
use Rattle.std.specs.Prelude.{ℕ, List, ◌≡◌, length}
use Rattle.words.specs.Layout.{cells_of, bodies_of, slots_of, pairs_at}
use Rattle.ranges.specs.declared.Range.{Range}
use Rattle.search.specs.Free.{slot_free, body_free, TakesFree}
use Rattle.store.specs.Outcome.{Buffers, Call, perform, unless, change_plan}
use Rattle.add.specs.Add.{is_new, is_new_copy, words_with, bytes_with, add_check}

-- of m cells the newly held ones take different free slots, and those held by copy different free bodies
pub record Choice (m e b : ℕ) (t : List ℕ) (rs : List Range) (slot body : ℕ → ℕ) : Type 0 where
  pub slots : TakesFree m (is_new e t rs) e (slot_free e t) slot
  pub bodies : TakesFree m (is_new_copy e t rs) b (body_free e t) body

-- the add that takes these places
unfoldable pub add_with : (slot body : ℕ → ℕ) (h : ℕ) → List Range → Buffers → Call
add_with slot body h rs b =
    unless (add_check b h rs)
    (perform (change_plan (pairs_at (slots_of (length b.table))) (bytes_with b.memory b.table rs body)
    (words_with (cells_of (length b.memory)) b.table rs slot body)) 0)

-- the places are a choice, asked for where no question refuses the call
abbrev pub MayTake : (h : ℕ) → List Range → Buffers → (slot body : ℕ → ℕ) → Type 0
MayTake h rs b slot body =
    add_check b h rs ≡ 0
    → Choice (cells_of (length b.memory)) (slots_of (length b.table)) (bodies_of (length b.bodies)) b.table rs slot body
