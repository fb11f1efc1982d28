-- Add: its questions, the bytes and words that it stores, and what it means. `rs` is the list of ranges; the plain add's has one.
use Rattle.std.specs.Prelude.{ℕ, Bool, cond, not, ◌&&◌, List, [], ltb, eqb, length}
use Rattle.words.specs.Layout.{cells_of, bodies_of, slots_of, pairs_at}
use Rattle.words.specs.Cells.{cell_plan}
use Rattle.words.specs.Stores.{Store, gather}
use Rattle.ranges.specs.declared.Range.{Range}
use Rattle.ranges.specs.Ranges.{named, kind_for, rule_for, label_for}
use Rattle.table.specs.Entry.{word1, word2, depth_of, cell_of, writable_of, entry_word, second_word, writable, innermost, holds_in}
use Rattle.table.specs.Changes.{Change, keep, put, entry_changes}
use Rattle.search.specs.Free.{slot_free, body_free, lowest_free, taker_of}
use Rattle.model.specs.Answer.{or_else, View}
use Rattle.model.specs.Holdings.{add_checks, add_effect}
use Rattle.store.specs.Outcome.{Buffers, Call, perform, unless, change_plan}
use Rattle.store.specs.Checks.{store_check, lent_of}
use Rattle.store.specs.State.{state_of}
use Rattle.store.specs.Means.{call_means, room_of}

-- questions 1 to 4 on the buffers; 5, 6, 20, the questions on each range, 16 and 17 on the state that they stand for
unfoldable pub add_check : Buffers → (h : ℕ) → List Range → ℕ
add_check b h rs = or_else (store_check (lent_of b)) (add_checks (room_of b) b.memory h rs (state_of b))

-- is cell c newly held? And by copy?
abbrev pub is_new : ℕ → List ℕ → List Range → ℕ → Bool
is_new e t rs c = named rs c && not (holds_in e t (innermost t) c)

abbrev pub is_new_copy : ℕ → List ℕ → List Range → ℕ → Bool
is_new_copy e t rs c = is_new e t rs c && eqb (kind_for rs c) 0

-- does the label of an entry with first word w rise, d being the innermost depth? It is read-only, and a range that names its cell is read-write
abbrev pub rises : (d : ℕ) → List Range → (w : ℕ) → Bool
rises d rs w = eqb (depth_of w) d && (eqb (label_for rs (cell_of w)) 1 && eqb (writable_of w) 0)

unfoldable pub raise_change : (d : ℕ) → List Range → (w v : ℕ) → Change
raise_change d rs w v = cond (rises d rs w) (put (writable w) v) keep

-- the words of the new entry of cell c, with this body if it is a copy
abbrev pub taken_first : List ℕ → List Range → ℕ → ℕ
taken_first t rs c = entry_word (innermost t) (kind_for rs c) (label_for rs c) c

abbrev pub taken_second : List Range → (body : ℕ) → ℕ → ℕ
taken_second rs body c = second_word (kind_for rs c) (rule_for rs c) body

-- where `slot c` and `body c` are those of cell c, if it is newly held: which of m cells takes slot i, or m
abbrev pub cell_for : (m e : ℕ) → List ℕ → List Range → (slot : ℕ → ℕ) → ℕ → ℕ
cell_for m e t rs slot i = taker_of m (is_new e t rs) slot i

-- the change of entry i: its slot is taken by a cell; else its label rises, or it stays
unfoldable pub change_with : (m e : ℕ) → List ℕ → List Range → (slot body : ℕ → ℕ) → ℕ → Change
change_with m e t rs slot body i =
    let c = cell_for m e t rs slot i in
    cond (ltb c m) (put (taken_first t rs c) (taken_second rs (body c) c)) (raise_change (innermost t) rs (word1 e t i) (word2 e t i))

abbrev pub words_with : (m : ℕ) → List ℕ → List Range → (slot body : ℕ → ℕ) → List Store
words_with m t rs slot body = entry_changes (slots_of (length t)) (change_with m (slots_of (length t)) t rs slot body)

-- "bytes first: 64 for each copy taken .., rising by cell and byte", over the whole list; none for via parent and by rule
abbrev pub bytes_with : (memory t : List ℕ) → List Range → (body : ℕ → ℕ) → List Store
bytes_with memory t rs body =
    gather (cells_of (length memory)) (λ c. cond (is_new_copy (slots_of (length t)) t rs c) (cell_plan memory c (body c)) [])

-- the lowest free ones, in the order of the cells
abbrev pub slot_for : ℕ → List ℕ → List Range → ℕ → ℕ
slot_for e t rs = lowest_free e (slot_free e t) (is_new e t rs)

abbrev pub body_for : (e b : ℕ) → List ℕ → List Range → ℕ → ℕ
body_for e b t rs = lowest_free b (body_free e t) (is_new_copy e t rs)

unfoldable pub add_words : (m b : ℕ) → List ℕ → List Range → List Store
add_words m b t rs = words_with m t rs (slot_for (slots_of (length t)) t rs) (body_for (slots_of (length t)) b t rs)

unfoldable pub add_bytes : (b : ℕ) → (memory t : List ℕ) → List Range → List Store
add_bytes b memory t rs = bytes_with memory t rs (body_for (slots_of (length t)) b t rs)

unfoldable pub add_call : (h : ℕ) → List Range → Buffers → Call
add_call h rs b =
    unless (add_check b h rs)
    (perform (change_plan (pairs_at (slots_of (length b.table))) (add_bytes (bodies_of (length b.bodies)) b.memory b.table rs)
    (add_words (cells_of (length b.memory)) (bodies_of (length b.bodies)) b.table rs)) 0)

abbrev pub add_means : (h : ℕ) → List Range → ℕ → Buffers → View
add_means h rs budget b = call_means (add_effect (room_of b) b.memory h rs) budget b
