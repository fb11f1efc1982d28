-- Laws of the questions: what a passed question tells, and that the questions on the shape read no word that a pair may name.
-- Assumes nothing.
use Prim.Native.Nat.{ℕ, ◌≤◌, ◌<◌}
use mathlib.Core.Bool.{true, false}
use mathlib.Core.List.{List}
use mathlib.Core.Path.{◌≡◌}
use native.Mathlib.Omega.{arith}
use borrow.Author.Tests.{eqb-true, ltb-true, lt-ltb, le-ltb}
use lib.Dec.{eqb, ltb}
use lib.ListN.{length, get_or}
use Rattle.words.specs.Layout.{cells_of, bodies_of, slots_of, max_live, magic_at, cells_at, slots_at, bodies_at, zero_at, pairs_at}
use Rattle.words.specs.Journal.{pending, effective}
use Rattle.words.proofs.Scan.{and_split}
use Rattle.table.specs.Entry.{live, next_handle}
use Rattle.table.specs.Checks.{lengths_ok, header_ok}
use Rattle.table.specs.Rule.{pairs_ok, table_ok}
use Rattle.table.proofs.Rule.{Rule, ok_facts, ok_make}
use Rattle.table.proofs.Checks.{Lengths, lengths_facts}
use Rattle.model.specs.Answer.{ask, or_else}
use Rattle.model.proofs.Asking.{or_else_ask}
use Rattle.store.specs.Checks.{shape_check, table_check, open_check, idle_check, store_check, create_check, lent}
-- what a call cites beside the laws below
pub use Rattle.model.proofs.Asking.{ask_yes, ask_go, ask_stop, ask_rest, or_else_go, or_else_stop, or_else_both}

-- ---- what passed questions tell

module _ (memory bodies : ℕ) (t : List ℕ) where
  pub shape_lengths : shape_check (lent memory bodies t) ≡ 0 → lengths_ok memory bodies (length t) ≡ true
  unfolding shape_check
  shape_lengths e = ask_yes (lengths_ok memory bodies (length t)) 1 (ask (header_ok memory bodies t) 2 0) (omega arith) e

  pub shape_facts : shape_check (lent memory bodies t) ≡ 0 → Lengths memory bodies (length t)
  shape_facts e = lengths_facts memory bodies (length t) (shape_lengths e)

  pub shape_make : lengths_ok memory bodies (length t) ≡ true → header_ok memory bodies t ≡ true → shape_check (lent memory bodies t) ≡ 0
  unfolding shape_check
  shape_make p q = rw (p, q)

  -- questions 1 to 3 and then question 4
  pub store_parts : store_check (lent memory bodies t) ≡ or_else (idle_check (lent memory bodies t)) (table_check (lent memory bodies t))
  unfolding store_check idle_check
  store_parts = or_else_ask (shape_check (lent memory bodies t)) (eqb (pending t) 0) 3 (table_check (lent memory bodies t)) (omega arith)

  pub idle_facts : idle_check (lent memory bodies t) ≡ 0 → (shape_check (lent memory bodies t) ≡ 0) × (pending t ≡ 0)
  unfolding idle_check
  idle_facts e =
      let both = or_else_both (shape_check (lent memory bodies t)) (ask (eqb (pending t) 0) 3 0) e in
      (both.0, eqb-true (pending t) 0 (ask_yes (eqb (pending t) 0) 3 0 (omega arith) both.1))

  pub table_yes : table_check (lent memory bodies t) ≡ 0 → table_ok (cells_of memory) (slots_of (length t)) (bodies_of bodies) t ≡ true
  unfolding table_check
  table_yes e = ask_yes (table_ok (cells_of memory) (slots_of (length t)) (bodies_of bodies) t) 4 0 (omega arith) e

  -- the two parts of question 4
  pub table_pairs : table_check (lent memory bodies t) ≡ 0 → pairs_ok (slots_of (length t)) t ≡ true
  unfolding table_ok
  table_pairs e = (and_split (pairs_ok (slots_of (length t)) t) _ (table_yes e)).0

  pub table_rule : table_check (lent memory bodies t) ≡ 0 → Rule (cells_of memory) (slots_of (length t)) (bodies_of bodies) (effective (pairs_at (slots_of (length t))) t)
  unfolding table_ok
  table_rule e = ok_facts _ _ _ _ (and_split (pairs_ok (slots_of (length t)) t) _ (table_yes e)).1

  pub table_make : pairs_ok (slots_of (length t)) t ≡ true → Rule (cells_of memory) (slots_of (length t)) (bodies_of bodies) (effective (pairs_at (slots_of (length t))) t)
      → table_check (lent memory bodies t) ≡ 0
  unfolding table_check table_ok
  table_make p r = rw (p, ok_make _ _ _ _ r)

  pub open_shape : open_check (lent memory bodies t) ≡ 0 → shape_check (lent memory bodies t) ≡ 0
  unfolding open_check
  open_shape e = (or_else_both (shape_check (lent memory bodies t)) (table_check (lent memory bodies t)) e).0

  pub open_lengths : open_check (lent memory bodies t) ≡ 0 → Lengths memory bodies (length t)
  open_lengths e = shape_facts (open_shape e)

  pub open_table : open_check (lent memory bodies t) ≡ 0 → table_check (lent memory bodies t) ≡ 0
  unfolding open_check
  open_table e = (or_else_both (shape_check (lent memory bodies t)) (table_check (lent memory bodies t)) e).1

  pub open_make : shape_check (lent memory bodies t) ≡ 0 → table_check (lent memory bodies t) ≡ 0 → open_check (lent memory bodies t) ≡ 0
  unfolding open_check
  open_make p q = rw (p, q)

  -- a table that passes questions 1 to 4
  pub store_shape : store_check (lent memory bodies t) ≡ 0 → shape_check (lent memory bodies t) ≡ 0
  unfolding store_check
  store_shape e = (or_else_both (shape_check (lent memory bodies t)) (ask (eqb (pending t) 0) 3 (table_check (lent memory bodies t))) e).0

  pub store_lengths : store_check (lent memory bodies t) ≡ 0 → Lengths memory bodies (length t)
  store_lengths e = shape_facts (store_shape e)

  pub store_idle : store_check (lent memory bodies t) ≡ 0 → pending t ≡ 0
  unfolding store_check
  store_idle e =
      eqb-true (pending t) 0
      (ask_yes (eqb (pending t) 0) 3 (table_check (lent memory bodies t)) (omega arith)
      (or_else_both (shape_check (lent memory bodies t)) (ask (eqb (pending t) 0) 3 (table_check (lent memory bodies t))) e).1)

  pub store_table : store_check (lent memory bodies t) ≡ 0 → table_check (lent memory bodies t) ≡ 0
  unfolding store_check
  store_table e =
      ask_rest (eqb (pending t) 0) 3 (table_check (lent memory bodies t)) (omega arith)
      (or_else_both (shape_check (lent memory bodies t)) (ask (eqb (pending t) 0) 3 (table_check (lent memory bodies t))) e).1

  pub store_opens : store_check (lent memory bodies t) ≡ 0 → open_check (lent memory bodies t) ≡ 0
  store_opens e = open_make (store_shape e) (store_table e)

  pub create_store : create_check (lent memory bodies t) ≡ 0 → store_check (lent memory bodies t) ≡ 0
  unfolding create_check
  create_store e = (or_else_both (store_check (lent memory bodies t)) _ e).0

  pub create_lengths : create_check (lent memory bodies t) ≡ 0 → Lengths memory bodies (length t)
  create_lengths e = store_lengths (create_store e)

  create_rest : create_check (lent memory bodies t) ≡ 0 → ask (ltb (live t) max_live) 9 (ask (ltb (next_handle t) 4_294_967_295) 10 0) ≡ 0
  unfolding create_check
  create_rest e = (or_else_both (store_check (lent memory bodies t)) (ask (ltb (live t) max_live) 9 (ask (ltb (next_handle t) 4_294_967_295) 10 0)) e).1

  pub create_live : create_check (lent memory bodies t) ≡ 0 → live t < max_live
  create_live e = ltb-true _ _ (ask_yes (ltb (live t) max_live) 9 (ask (ltb (next_handle t) 4_294_967_295) 10 0) (omega arith) (create_rest e))

  pub create_next : create_check (lent memory bodies t) ≡ 0 → next_handle t < 4_294_967_295
  create_next e =
      ltb-true _ _ (ask_yes (ltb (next_handle t) 4_294_967_295) 10 0 (omega arith)
      (ask_rest (ltb (live t) max_live) 9 (ask (ltb (next_handle t) 4_294_967_295) 10 0) (omega arith) (create_rest e)))

-- ---- questions 1 and 2 read the length and words 0 to 3 and 7

pub shape_kept : (memory bodies : ℕ) (t u : List ℕ) → length u ≡ length t → ((i : ℕ) → i ≤ bodies_at → get_or u i 0 ≡ get_or t i 0) → get_or u zero_at 0 ≡ get_or t zero_at 0
    → shape_check (lent memory bodies u) ≡ shape_check (lent memory bodies t)
unfolding shape_check header_ok
shape_kept memory bodies t u l h z =
    rw (l, h magic_at (omega arith), h cells_at (omega arith), h slots_at (omega arith), h bodies_at (omega arith), z)

-- ---- question 5, by a depth that was found

pub none_named : (r d : ℕ) → r ≡ d → r ≡ 0 → ltb 0 d ≡ false
none_named r d p q = le-ltb 0 d (omega arith)

pub some_named : (r d : ℕ) → r ≡ d → (r ≡ 0 → ⊥) → ltb 0 d ≡ true
some_named r d p q = lt-ltb 0 d (omega (arith, q))
