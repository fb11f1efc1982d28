-- Commit: its questions, the words that it replaces, and what it means.
use Rattle.std.specs.Prelude.{ℕ, ◌-◌, Bool, cond, not, ◌&&◌, List, [], ◌∷◌, ◌++◌, eqb, length}
use Rattle.words.specs.Layout.{cells_of, slots_of, pairs_at, live_at}
use Rattle.words.specs.Stores.{Store, ◌≔◌}
use Rattle.table.specs.Entry.{live, word1, word2, depth_of, cell_of, writable_of, outward, writable, innermost, parent, has_parent, handle_at_depth, writes_in, parent_has}
use Rattle.table.specs.Changes.{Change, keep, put, entry_changes}
use Rattle.model.specs.Answer.{or_else, View}
use Rattle.model.specs.Holdings.{commit_effect}
use Rattle.store.specs.Outcome.{Buffers, Call, perform, unless, change_plan}
use Rattle.store.specs.Checks.{store_check, ask_innermost_in, lent_of, Lent}
use Rattle.store.specs.Means.{call_means}

-- questions 1 to 6
unfoldable pub commit_check : Lent → (h : ℕ) → ℕ
commit_check l h = or_else (store_check l) (ask_innermost_in l.table h 0)

-- with d the innermost depth and w an entry's first word: it is the parent's, and its label is raised, `inner` saying whether the innermost
-- domain holds its cell read-write
abbrev pub raises : (d w : ℕ) → (inner : Bool) → Bool
raises d w inner = has_parent d && (eqb (depth_of w) (parent d) && (eqb (writable_of w) 0 && inner))

-- its change, with second word v: an innermost entry moves out where the parent lacks the cell, and is freed where it has it, as `outer` says,
-- or there is no parent; the parent's read-only entries become read-write where the innermost domain holds the cell read-write
abbrev pub decided : (d w v : ℕ) → (inner outer : Bool) → Change
decided d w v inner outer =
    cond (eqb (depth_of w) d)
    (cond (has_parent d && not outer) (put (outward w) v) (put 0 0))
    (cond (raises d w inner) (put (writable w) v) keep)

-- that of entry i
unfoldable pub commit_change : (e : ℕ) → List ℕ → (d i : ℕ) → Change
commit_change e t d i =
    decided d (word1 e t i) (word2 e t i) (writes_in e t d (cell_of (word1 e t i))) (parent_has e t d (cell_of (word1 e t i)))

-- the number of live domains, the handle that leaves, and the entries
unfoldable pub commit_words : List ℕ → List Store
commit_words t =
    ((live_at ≔ live t - 1) ∷ (handle_at_depth (innermost t) ≔ 0) ∷ []) ++ entry_changes (slots_of (length t)) (commit_change (slots_of (length t)) t (innermost t))

unfoldable pub commit_call : (h : ℕ) → Buffers → Call
commit_call h b =
    unless (commit_check (lent_of b) h)
    (perform (change_plan (pairs_at (slots_of (length b.table))) [] (commit_words b.table)) 0)

abbrev pub commit_means : (h : ℕ) → ℕ → Buffers → View
commit_means h k b = call_means (commit_effect (cells_of (length b.memory)) h) k b
