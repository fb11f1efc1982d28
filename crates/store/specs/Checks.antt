-- Document 01, "Questions put to every call, in this order": the number of the first no, or 0.
use Rattle.std.specs.Prelude.{ℕ, List, eqb, ltb, length}
use Rattle.words.specs.Layout.{cells_of, bodies_of, slots_of, max_live}
use Rattle.words.specs.Journal.{pending}
use Rattle.table.specs.Entry.{live, next_handle, innermost}
use Rattle.table.specs.Checks.{lengths_ok, header_ok}
use Rattle.table.specs.Rule.{table_ok}
use Rattle.search.specs.Domain.{depth_named}
use Rattle.model.specs.Answer.{ask, or_else}
use Rattle.store.specs.Outcome.{Buffers}

-- what the questions look at: how many bytes memory and bodies have, and the table
pub record Lent : Type 0 where
  pub memory : ℕ
  pub bodies : ℕ
  pub table : List ℕ

abbrev pub lent : (memory bodies : ℕ) → List ℕ → Lent
lent m b t = record { memory = m; bodies = b; table = t }

abbrev pub lent_of : Buffers → Lent
lent_of b = lent (length b.memory) (length b.bodies) b.table

-- questions 1 and 2
unfoldable pub shape_check : Lent → ℕ
shape_check l =
    ask (lengths_ok l.memory l.bodies (length l.table)) 1 (ask (header_ok l.memory l.bodies l.table) 2 0)

-- question 4
unfoldable pub table_check : Lent → ℕ
table_check l = ask (table_ok (cells_of l.memory) (slots_of (length l.table)) (bodies_of l.bodies) l.table) 4 0

-- "Make is put question 1 alone"
unfoldable pub make_check : Lent → ℕ
make_check l = ask (lengths_ok l.memory l.bodies (length l.table)) 1 0

-- "Open is put 1, 2 and 4"
unfoldable pub open_check : Lent → ℕ
open_check l = or_else (shape_check l) (table_check l)

-- questions 1 to 3
unfoldable pub idle_check : Lent → ℕ
idle_check l = or_else (shape_check l) (ask (eqb (pending l.table) 0) 3 0)

-- questions 1 to 4, which are put to every other call; they are all that is put to list
unfoldable pub store_check : Lent → ℕ
store_check l = or_else (shape_check l) (ask (eqb (pending l.table) 0) 3 (table_check l))

-- ---- the questions that several calls are put besides, each before the `rest`

-- 5: "Does the handle name a live domain?"
abbrev pub ask_live_in : List ℕ → (h rest : ℕ) → ℕ
ask_live_in t h rest = ask (ltb 0 (depth_named t h)) 5 rest

-- and 6: "Is it the innermost?"
abbrev pub ask_innermost_in : List ℕ → (h rest : ℕ) → ℕ
ask_innermost_in t h rest = ask_live_in t h (ask (eqb (depth_named t h) (innermost t)) 6 rest)

-- ---- create: questions 9 and 10 besides

unfoldable pub create_check : Lent → ℕ
create_check l =
    or_else (store_check l)
    (ask (ltb (live l.table) max_live) 9 (ask (ltb (next_handle l.table) 4_294_967_295) 10 0))
