-- Restore: its questions, the bytes and words that it stores, and what it means.
use Rattle.std.specs.Prelude.{ℕ, ◌+◌, ◌-◌, cond, List, [], ◌∷◌, ◌++◌, map, eqb, length}
use Rattle.words.specs.Layout.{cells_of, slots_of, pairs_at, live_at, handle_at}
use Rattle.words.specs.Stores.{Store, ◌≔◌, tab, gather}
use Rattle.words.specs.Journal.{journal}
use Rattle.words.specs.Cells.{cell_plan}
use Rattle.table.specs.Entry.{live, word1, depth_of, innermost, is_inside}
use Rattle.table.specs.Changes.{Change, keep, put, entry_changes}
use Rattle.search.specs.Search.{held_from, bytes_from}
use Rattle.search.specs.Domain.{depth_named}
use Rattle.model.specs.Answer.{or_else, View}
use Rattle.model.specs.Restore.{restore_view}
use Rattle.store.specs.Outcome.{Buffers, Step, in_memory, in_table, Call, perform, unless}
use Rattle.store.specs.Checks.{store_check, ask_live_in, lent_of, Lent}
use Rattle.store.specs.State.{state_of}
use Rattle.store.specs.Means.{or_refused}

-- questions 1 to 5
unfoldable pub restore_check : Lent → (h : ℕ) → ℕ
restore_check l h = or_else (store_check l) (ask_live_in l.table h 0)

-- "bytes first: 64 for each .. cell put back, rising by cell and byte": each of m cells held at depth d or inside it, with the 64 bytes that its
-- first holder has of it
unfoldable pub restore_bytes : (m d : ℕ) → (bodies : List ℕ) → List ℕ → List Store
restore_bytes m d bodies t =
    gather m (λ c. cond (held_from (slots_of (length t)) t d c) (cell_plan (bytes_from (slots_of (length t)) t bodies d c) 0 c) [])

-- the entries of the domains inside the one at depth d are freed
unfoldable pub restore_change : (e : ℕ) → List ℕ → (d i : ℕ) → Change
restore_change e t d i = cond (is_inside d (depth_of (word1 e t i))) (put 0 0) keep

-- the handles of the domains inside, of n that live, are cleared
abbrev pub cleared_handles : (d n : ℕ) → List Store
cleared_handles d n = tab (n - d) (λ k. handle_at (d + k) ≔ 0)

-- the number of live domains, the handles that leave, and the entries; nothing where no domain ends
unfoldable pub restore_words : (d : ℕ) → List ℕ → List Store
restore_words d t =
    cond (eqb (innermost t) d) []
    (((live_at ≔ d) ∷ cleared_handles d (live t)) ++ entry_changes (slots_of (length t)) (restore_change (slots_of (length t)) t d))

-- "bytes first", here into memory, so that memory is whole before any word of the table changes; and then the words by the journal
abbrev pub restore_plan : (first : ℕ) (bytes words : List Store) → List Step
restore_plan first bytes words = map in_memory bytes ++ map in_table (journal first words)

unfoldable pub restore_call : (h : ℕ) → Buffers → Call
restore_call h b =
    unless (restore_check (lent_of b) h)
    (perform (restore_plan (pairs_at (slots_of (length b.table)))
    (restore_bytes (cells_of (length b.memory)) (depth_named b.table h) b.bodies b.table)
    (restore_words (depth_named b.table h) b.table)) 0)

unfoldable pub restore_means : (h : ℕ) → ℕ → Buffers → View
restore_means h k b =
    or_refused (store_check (lent_of b)) b
    (restore_view (cells_of (length b.memory)) h k (state_of b) b.memory)
