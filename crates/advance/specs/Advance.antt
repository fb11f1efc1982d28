-- Advance: its questions, the bytes and words that it stores, and what it means.
use Rattle.std.specs.Prelude.{ℕ, ◌+◌, Bool, cond, not, ◌&&◌, List, [], leb, ltb, eqb, length}
use Rattle.words.specs.Layout.{cells_of, bodies_of, slots_of, pairs_at}
use Rattle.words.specs.Scan.{count}
use Rattle.words.specs.Cells.{cell_plan}
use Rattle.words.specs.Stores.{Store, gather}
use Rattle.table.specs.Entry.{word1, word2, depth_of, cell_of, as_copy, outward, innermost, parent, has_parent, find_in, holds_in, writes_in}
use Rattle.table.specs.Changes.{Change, keep, put, entry_changes}
use Rattle.search.specs.Free.{slot_free, body_free, used_slots, copies, lowest_free, taker_of}
use Rattle.values.specs.Values.{unchanged}
use Rattle.model.specs.Answer.{ask, or_else, View}
use Rattle.model.specs.Holdings.{advance_effect}
use Rattle.store.specs.Outcome.{Buffers, Call, perform, unless, change_plan}
use Rattle.store.specs.Checks.{store_check, ask_innermost_in, lent_of}
use Rattle.store.specs.Means.{call_means, room_of}

-- "Copy only cells whose memory differs from the held value": does the innermost domain hold cell c read-write, and has memory other bytes than its
-- value?
abbrev pub advances : Buffers → ℕ → Bool
advances b c =
    let t = b.table in
    let e = slots_of (length t) in
    writes_in e t (innermost t) c && not (unchanged b.memory b.bodies e t (innermost t) c)

-- has the domain at depth d a parent, which lacks cell c?
abbrev pub parent_lacks : (e : ℕ) (t : List ℕ) → (d c : ℕ) → Bool
parent_lacks e t d c = has_parent d && not (holds_in e t (parent d) c)

-- "gives the next domain out each changed read-write cell that this one lacks": does cell c go there, where the cells that advance are those of which
-- f holds?
abbrev pub gives_with : (e : ℕ) (t : List ℕ) (f : ℕ → Bool) → ℕ → Bool
gives_with e t f c = f c && parent_lacks e t (innermost t) c

abbrev pub gives : Buffers → ℕ → Bool
gives b = gives_with (slots_of (length b.table)) b.table (advances b)

-- questions 1 to 6, 16 and 17; 16 counts the cells that are given outwards, 17 those that advance
unfoldable pub advance_check : Buffers → (h : ℕ) → ℕ
advance_check b h =
    let t = b.table in
    let e = slots_of (length t) in
    let m = cells_of (length b.memory) in
    or_else (store_check (lent_of b))
    (ask_innermost_in t h
    (ask (leb (used_slots e t + count m (gives b)) e) 16
    (ask (leb (copies e t + count m (advances b)) (bodies_of (length b.bodies))) 17 0)))

-- where the cells that advance are those of which f holds, an entry with first word w advances, d being the innermost depth: it is of that depth,
-- and its cell advances
abbrev pub turns : (d : ℕ) (f : ℕ → Bool) (w : ℕ) → Bool
turns d f w = eqb (depth_of w) d && f (cell_of w)

abbrev pub turns_at : (e : ℕ) (t : List ℕ) (f : ℕ → Bool) → ℕ → Bool
turns_at e t f i = turns (innermost t) f (word1 e t i)

-- where `body c` is the one of the new copy of cell c: such an entry becomes a copy in the body of its cell; any other keeps kind and body
abbrev pub turn_with : (e : ℕ) (t : List ℕ) (f : ℕ → Bool) (body : ℕ → ℕ) → ℕ → Change
turn_with e t f body i = cond (turns_at e t f i) (put (as_copy (word1 e t i)) (body (cell_of (word1 e t i)))) keep

-- the words of the entry by which cell c is given outwards: those of the innermost domain's entry, one depth further out. So the label is the old
-- one, and the body or the rule, too
abbrev pub given_first : ℕ → List ℕ → ℕ → ℕ
given_first e t c = outward (word1 e t (find_in e t (innermost t) c))

abbrev pub given_second : ℕ → List ℕ → ℕ → ℕ
given_second e t c = word2 e t (find_in e t (innermost t) c)

-- where `slot c` is the one that cell c takes: slot i gets the words of that one of m cells given outwards that takes it; else its change is that of
-- `other`
unfoldable pub give_with : (m e : ℕ) (t : List ℕ) (f : ℕ → Bool) (slot : ℕ → ℕ) (other : ℕ → Change) → ℕ → Change
give_with m e t f slot other i =
    let c = taker_of m (gives_with e t f) slot i in
    cond (ltb c m) (put (given_first e t c) (given_second e t c)) (other i)

-- the change of entry i: its slot is taken; else it becomes a copy, or stays
abbrev pub change_with : (m e : ℕ) (t : List ℕ) (f : ℕ → Bool) (slot body : ℕ → ℕ) → ℕ → Change
change_with m e t f slot body = give_with m e t f slot (turn_with e t f body)

abbrev pub words_with : Buffers → (slot body : ℕ → ℕ) → List Store
words_with b slot body =
    entry_changes (slots_of (length b.table))
    (change_with (cells_of (length b.memory)) (slots_of (length b.table)) b.table (advances b) slot body)

-- "bytes first: 64 for each copy taken .., rising by cell and byte"
abbrev pub bytes_with : Buffers → (body : ℕ → ℕ) → List Store
bytes_with b body = gather (cells_of (length b.memory)) (λ c. cond (advances b c) (cell_plan b.memory c (body c)) [])

-- the slot that cell c takes outwards, and the body that its new copy takes: the lowest free ones, in the order of the cells
abbrev pub slot_for : Buffers → ℕ → ℕ
slot_for b = lowest_free (slots_of (length b.table)) (slot_free (slots_of (length b.table)) b.table) (gives b)

abbrev pub body_for : Buffers → ℕ → ℕ
body_for b = lowest_free (bodies_of (length b.bodies)) (body_free (slots_of (length b.table)) b.table) (advances b)

unfoldable pub advance_words : Buffers → List Store
advance_words b = words_with b (slot_for b) (body_for b)

unfoldable pub advance_bytes : Buffers → List Store
advance_bytes b = bytes_with b (body_for b)

-- where no cell advances there is nothing to store, and the call is done at every budget
unfoldable pub advance_call : (h : ℕ) → Buffers → Call
advance_call h b =
    unless (advance_check b h) (perform (change_plan (pairs_at (slots_of (length b.table))) (advance_bytes b) (advance_words b)) 0)

abbrev pub advance_means : (h : ℕ) → ℕ → Buffers → View
advance_means h k b = call_means (advance_effect (room_of b) b.memory h) k b
