-- The calls as plans: their questions, and the exact stores in their order.
use Rattle.std.specs.Prelude.{ℕ, ◌+◌, cond, List, [], ◌∷◌, ◌++◌, map, eqb, length}
use Rattle.words.specs.Layout.{magic, magic_at, cells_at, slots_at, bodies_at, live_at, next_at, handle_at, last_at, pairs_at, cells_of, bodies_of, slots_of}
use Rattle.words.specs.Stores.{Store, ◌≔◌, tab}
use Rattle.words.specs.Journal.{open_plan}
use Rattle.table.specs.Entry.{live, next_handle}
use Rattle.store.specs.Outcome.{Buffers, in_table, change_plan, Call, perform, unless, Outcome, outcome}
use Rattle.store.specs.Checks.{make_check, open_check, create_check, lent_of}

-- ---- make: word 0 cleared, the words from 1 to the last in front of the pairs once each, rising, then word 0

-- word i of a fresh table for m cells, e slots and b bodies
unfoldable pub fresh_word : (m e b i : ℕ) → ℕ
fresh_word m e b i = cond (eqb i cells_at) m (cond (eqb i slots_at) e (cond (eqb i bodies_at) b (cond (eqb i next_at) 1 0)))

unfoldable pub make_plan : (m e b : ℕ) → List Store
make_plan m e b = (magic_at ≔ 0) ∷ (tab (last_at e) (λ j. j + 1 ≔ fresh_word m e b (j + 1)) ++ (magic_at ≔ magic) ∷ [])

unfoldable pub make_call : Buffers → Call
make_call b =
    unless (make_check (lent_of b))
    (perform (map in_table (make_plan (cells_of (length b.memory)) (slots_of (length b.table)) (bodies_of (length b.bodies)))) 0)

-- ---- open: the pending pairs, then word 6

unfoldable pub open_call : Buffers → Call
open_call b =
    unless (open_check (lent_of b))
    (perform (map in_table (open_plan (pairs_at (slots_of (length b.table))) b.table)) 0)

-- openings one after the other, each with its own budget, and one more after them
abbrev pub after_openings : List ℕ → Buffers → Buffers
after_openings [] b = b
after_openings (k ∷ ks) b = after_openings ks (outcome (open_call b) k b).buffers

abbrev pub opening_after : List ℕ → (j : ℕ) → Buffers → Outcome
opening_after ks j b = outcome (open_call (after_openings ks b)) j (after_openings ks b)

-- ---- create: the number of live domains, the next handle, and the new domain's handle, by the journal

abbrev pub domain_words : (live handle : ℕ) → List Store
domain_words n h = (live_at ≔ n + 1) ∷ (next_at ≔ h + 1) ∷ (handle_at n ≔ h) ∷ []

unfoldable pub create_words : List ℕ → List Store
create_words t = domain_words (live t) (next_handle t)

unfoldable pub create_call : Buffers → Call
create_call b =
    unless (create_check (lent_of b))
    (perform (change_plan (pairs_at (slots_of (length b.table))) [] (create_words b.table)) (next_handle b.table))
