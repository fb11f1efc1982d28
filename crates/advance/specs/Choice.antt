-- Document 01, "What the statements have to decide": "Two things are left free: which entries and bodies a call takes, though each was free before
-- the call". An advance takes an entry slot for each cell that it gives outwards, and a body for each cell that advances: `slot c` and `body c` are
-- those of cell c. The call made with any such places means the same (proofs/Advanced); the contract's call takes the lowest free ones, `slot_for` and
-- `body_for`. That the given entry takes the free slot and the innermost domain's own stays where it is, is fixed here.
use Rattle.std.specs.Prelude.{ℕ, ◌≡◌, length}
use Rattle.words.specs.Layout.{cells_of, bodies_of, slots_of, pairs_at}
use Rattle.search.specs.Free.{slot_free, body_free, TakesFree}
use Rattle.store.specs.Outcome.{Buffers, Call, perform, unless, change_plan}
use Rattle.advance.specs.Advance.{advances, gives, bytes_with, words_with, advance_check}

-- the cells that are given outwards take different free slots, and those that advance different free bodies
pub record Choice (b : Buffers) (slot body : ℕ → ℕ) : Type 0 where
  pub slots : TakesFree (cells_of (length b.memory)) (gives b) (slots_of (length b.table)) (slot_free (slots_of (length b.table)) b.table) slot
  pub bodies : TakesFree (cells_of (length b.memory)) (advances b) (bodies_of (length b.bodies)) (body_free (slots_of (length b.table)) b.table) body

-- the advance that takes these places
unfoldable pub advance_with : (slot body : ℕ → ℕ) (h : ℕ) → Buffers → Call
advance_with slot body h b =
    unless (advance_check b h) (perform (change_plan (pairs_at (slots_of (length b.table))) (bytes_with b body) (words_with b slot body)) 0)

-- the places are a choice, asked for where no question refuses the call
abbrev pub MayTake : (h : ℕ) → Buffers → (slot body : ℕ → ℕ) → Type 0
MayTake h b slot body = advance_check b h ≡ 0 → Choice b slot body
